use Rattle.std.proofs.Common.{◌≡◌, ◌≤◌, length, false}
use Rattle.std.specs.Str.{chars, IsUtf8}
use Rattle.xml_items.proofs.UnitLemmas.{units_after}
use Rattle.xml_items.proofs.doctypes.after_units.Given as goal

abbrev pub invariant-loop-opens : goal.invariant-loop-opens
invariant-loop-opens l = record { same : units_after l.seen (chars l.rest) ≡ units_after false (chars l.text); shorter : length l.rest ≤ length l.text; utf8 : IsUtf8 l.rest }

abbrev pub decreases-loop-opens : goal.decreases-loop-opens
decreases-loop-opens l = length l.rest
