use Rattle.std.proofs.Common.{◌≡◌, length}
use Rattle.std.specs.Str.{chars, IsUtf8}
use Rattle.std.specs.List.{list_all}
use Rattle.xml_model.specs.Chars.{is_char}
use Rattle.xml_items.proofs.pieces.are_chars.Given as goal

abbrev pub invariant-loop-c : goal.invariant-loop-c
invariant-loop-c l = record { same : list_all is_char (chars l.rest) ≡ list_all is_char (chars l.text); utf8 : IsUtf8 l.rest }

abbrev pub decreases-loop-c : goal.decreases-loop-c
decreases-loop-c l = length l.rest
