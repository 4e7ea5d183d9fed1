use Rattle.std.proofs.Common.{◌≡◌, ◌≤◌, length}
use Rattle.std.specs.Str.{chars, IsUtf8}
use Rattle.xml_chars.specs.Readers.{skip}
use Rattle.xml_items.specs.Reading.{read_value}
use Rattle.xml_items.specs.Quotes.{quote_of}
use Rattle.xml_items.proofs.pieces.after_any_value.Given as goal

abbrev pub invariant-loop-rest : goal.invariant-loop-rest
invariant-loop-rest l = record { same : skip (read_value (quote_of l.quote)) (chars l.rest) ≡ skip (read_value (quote_of l.quote)) (chars l.text); shorter : length l.rest ≤ length l.text; utf8 : IsUtf8 l.rest }

abbrev pub decreases-loop-rest : goal.decreases-loop-rest
decreases-loop-rest l = length l.rest
