use Rattle.std.proofs.Common.{◌≡◌, ◌≤◌, ◌+◌, length}
use Rattle.std.specs.Prelude.{option_map}
use Rattle.std.specs.Str.{chars, IsUtf8}
use Rattle.xml_items.specs.Reading.{read_attributes}
use Rattle.xml_items.specs.Counting.{counted_from, counted}
use Rattle.xml_items.proofs.tags.after_attributes.Given as goal

abbrev pub invariant-loop-space : goal.invariant-loop-space
invariant-loop-space l = record { same : option_map (counted_from l.count) (read_attributes (chars l.rest)) ≡ option_map counted (read_attributes (chars l.text)); shorter : l.count + length l.rest ≤ length l.text; utf8 : IsUtf8 l.rest }

abbrev pub decreases-loop-space : goal.decreases-loop-space
decreases-loop-space l = length l.rest
