use Rattle.std.proofs.Common.{◌≡◌, ◌≤◌, length}
use Rattle.std.specs.Str.{chars, IsUtf8}
use Rattle.xml_chars.specs.Readers.{skip}
use Rattle.xml_items.specs.Reading.{read_pieces}
use Rattle.xml_items.proofs.pieces.after_any_pieces.Given as goal

abbrev pub invariant-loop-rest : goal.invariant-loop-rest
invariant-loop-rest l = record { same : skip read_pieces (chars l.rest) ≡ skip read_pieces (chars l.text); shorter : length l.rest ≤ length l.text; utf8 : IsUtf8 l.rest }

abbrev pub decreases-loop-rest : goal.decreases-loop-rest
decreases-loop-rest l = length l.rest
