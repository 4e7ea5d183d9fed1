use Rattle.std.proofs.Common.{Ok}
use Rattle.vtd_words.specs.Table.{IsNodeOf}
use Rattle.xpath_values.proofs.SeenLemmas.{head_all, number_seen_fits, tail_all}
use Rattle.conformance_documents.proofs.values.sum_of.Goals as goal

pub number_seen-requires : goal.number_seen-requires
number_seen-requires g c =
    head_all (λ x. IsNodeOf c.args.table.now.bytes (g.W.Words.lists c.args.table.now.words) x) c.loop-node.left.now c.in-Some.rest.now c.in-Some.node.now
    c.in-Some.ensures.cases.0 c.loop-node.invariant.all

pub sum_next-sum-requires-clause-number : goal.sum_next-sum-requires-clause-number
sum_next-sum-requires-clause-number g c =
    number_seen_fits c.args.table.now.bytes (g.W.Words.lists c.args.table.now.words) c.in-Some.node.now (Ok c.in_ok-number_seen.field-0)
    (head_all (λ x. IsNodeOf c.args.table.now.bytes (g.W.Words.lists c.args.table.now.words) x) c.loop-node.left.now c.in-Some.rest.now c.in-Some.node.now
    c.in-Some.ensures.cases.0 c.loop-node.invariant.all)
    c.in_ok-number_seen.ensures

pub loop-node-preserved : goal.loop-node-preserved
loop-node-preserved g c = record {
  all = tail_all (λ x. IsNodeOf c.args.table.now.bytes (g.W.Words.lists c.args.table.now.words) x) c.loop-node.left.now c.in-Some.rest.now c.in-Some.node.now
      c.in-Some.ensures.cases.0 c.loop-node.invariant.all;
  total = c.sum_next-sum.ensures.fits;
}
