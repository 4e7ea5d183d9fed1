use Rattle.std.proofs.Common.{◌≡◌, ◌+◌, ◌-◌, ◌*◌, subst, arith}
use Rattle.xml_model.specs.Items.{first_place}
use Rattle.xml_model.specs.Records.{records}
use Rattle.xml_model.specs.Scan.{record_at}
use Rattle.vtd_namespaces.specs.Windows.{HasPrefix}
use Rattle.vtd_namespaces.proofs.NotedLemmas.{nothing_in}
use Rattle.vtd_namespaces.proofs.windows.reach.Goals as goal

pub fill-count-requires-clause-none : goal.fill-count-requires-clause-none
fill-count-requires-clause-none g c = λ k. nothing_in 8192 k

pub returns-clause-filled : goal.returns-clause-filled
returns-clause-filled g c = record {
  nearest = λ nest hs s j p low high has.
      let there : c.args.first + 2 * j ≡ c.args.first + 2 * c.args.number + 2 * (j - c.args.number) = omega (arith, low) in
      c.fill-count.ensures.nearest nest hs s (j - c.args.number) p (omega (arith, low, high))
      (subst (λ i. HasPrefix c.args.scope.now.table.now.bytes (record_at i (records nest (first_place c.args.scope.now.table.now.bytes))) p) there has);
  declarations = c.fill-count.ensures.declarations;
  room = omega (arith, c.fill-count.ensures.within, c.fill-count.ensures.len);
}
