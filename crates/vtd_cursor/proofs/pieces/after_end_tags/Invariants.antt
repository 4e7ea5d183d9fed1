use Rattle.std.proofs.Common.{ℕ, ◌-◌}
use Rattle.vtd_cursor.specs.Endings.{EndTags}
use Rattle.vtd_cursor.proofs.pieces.after_end_tags.Given as goal

abbrev pub invariant-loop-i : goal.invariant-loop-i
invariant-loop-i l = (to : ℕ) → EndTags l.bytes l.count l.from to → EndTags l.bytes (l.count - l.i) l.at to
