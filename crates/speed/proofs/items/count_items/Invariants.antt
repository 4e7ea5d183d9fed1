use Rattle.std.specs.Str.{IsCharBoundary}
use Rattle.speed.proofs.items.count_items.Given as goal

abbrev pub invariant-loop : goal.invariant-loop
invariant-loop l = IsCharBoundary l.bytes l.at
