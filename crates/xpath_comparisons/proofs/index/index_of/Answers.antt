use Rattle.vtd_words.specs.Table.{IsNodeOf}
use Rattle.xpath_values.proofs.SeenLemmas.{tail_all}
use Rattle.xpath_comparisons.proofs.IndexLemmas.{more_indexed, begin_indexed, all_indexed}
use Rattle.xpath_comparisons.proofs.index.index_of.Goals as goal

pub loop-node-init : goal.loop-node-init
loop-node-init g c = record {
  all = c.requires;
  same = λ ts h. begin_indexed _ _ _ c.new-index.result c.args.nodes.now ts c.new-index.ensures.empty h;
}

pub loop-node-preserved : goal.loop-node-preserved
loop-node-preserved g c = record {
  all = tail_all (λ x. IsNodeOf c.args.table.now.bytes (g.W.Words.lists c.args.table.now.words) x) c.loop-node.left.now c.in-Some.rest.now c.in-Some.node.now c.in-Some.ensures.cases.0 c.loop-node.invariant.all;
  same = λ ts h.
      more_indexed _ _ _ c.loop-node.index c.insert.new.self c.loop-node.left.now c.in-Some.rest.now c.in-Some.node.now ts c.key_at.result
      c.in-Some.ensures.cases.0 (λ t k. c.key_at.ensures t k) (λ q. c.in_ok-insert.ensures.updates.0 q) (c.loop-node.invariant.same ts h);
}

pub returns : goal.returns
returns g c = λ ts h. all_indexed _ _ _ c.loop-node.index c.loop-node.left.now ts c.in_default.ensures.cases (c.loop-node.invariant.same ts h)
