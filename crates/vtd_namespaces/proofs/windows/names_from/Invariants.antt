use Rattle.std.proofs.Common.{length, ◌-◌, ◌+◌, ◌*◌, ◌<◌, ◌≤◌, ◌^◌}
use Rattle.vtd_namespaces.proofs.windows.names_from.Given as goal

abbrev pub invariant-loop-count : goal.invariant-loop-count
invariant-loop-count g l = record {
  within : l.count ≤ l.most;
  room : l.at + 2 * l.count ≤ length (g.W.Words.lists l.words).records;
  bound : l.at + 2 * l.count < 2 ^ 32;
}

abbrev pub decreases-loop-count : goal.decreases-loop-count
decreases-loop-count g l = l.most - l.count
