use Rattle.std.proofs.Common.{◌≡◌, drop, length}
use Rattle.std.specs.List.{AllByRecursion}
use Rattle.vtd_edits.specs.Splices.{IsWithin}
use Rattle.vtd_modifier.specs.Outcomes.{ahead, rows, ForEachEntries}
use Rattle.vtd_modifier.proofs.making.splices_of.Given as goal

abbrev pub invariant-loop-node : goal.invariant-loop-node
invariant-loop-node g l = record {
  made : ForEachEntries l.nav.bytes (g.W.Words.lists l.nav.words) l.nodes (λ es.
      rows l.nav.bytes l.operation es ≡ ahead l.held.items (rows l.nav.bytes l.operation (drop l.node-index es)));
  within : AllByRecursion (IsWithin (length l.nav.bytes)) l.held.items;
}
