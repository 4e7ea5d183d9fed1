use Rattle.std.proofs.Common.{◌≡◌, ◌≤◌, length}
use Rattle.std.specs.Str.{chars, IsUtf8}
use Rattle.xml_model.specs.Chars.{is_name_char}
use Rattle.xml_chars.specs.Readers.{after_run}
use Rattle.xml_chars.proofs.names.after_any_name_chars.Given as goal

abbrev pub invariant-loop-after : goal.invariant-loop-after
invariant-loop-after l = record { same : after_run is_name_char (chars l.rest) ≡ after_run is_name_char (chars l.text); shorter : length l.rest ≤ length l.text; utf8 : IsUtf8 l.rest }

abbrev pub decreases-loop-after : goal.decreases-loop-after
decreases-loop-after l = length l.rest
