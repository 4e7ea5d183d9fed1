use Rattle.std.proofs.Common.{◌∙◌, sym}
use Rattle.std.specs.Prelude.{bytes_eq}
use Rattle.vtd_words.specs.Table.{IsNodeOf}
use Rattle.xpath_values.specs.Values.{some_pair}
use Rattle.xpath_values.proofs.SeenLemmas.{tail_all}
use Rattle.xpath_comparisons.proofs.IndexLemmas.{found_one, found_none, sought_all}
use Rattle.xpath_comparisons.proofs.index.any_among.Goals as goal

pub returns-then-is_among : goal.returns-then-is_among
returns-then-is_among g c = λ ts us h i.
    found_one _ _ c.loop-node.left.now c.in-Some.rest.now c.in-Some.node.now us (some_pair bytes_eq ts us) c.in-Some.ensures.cases.0
    (λ t k. sym c.if-is_among.true ∙ c.is_among.ensures t us k i) (c.loop-node.invariant.same ts us h i)

pub loop-node-preserved : goal.loop-node-preserved
loop-node-preserved g c = record {
  all = tail_all (λ x. IsNodeOf c.args.table.now.bytes (g.W.Words.lists c.args.table.now.words) x) c.loop-node.left.now c.in-Some.rest.now c.in-Some.node.now c.in-Some.ensures.cases.0 c.loop-node.invariant.all;
  same = λ ts us h i.
      found_none _ _ c.loop-node.left.now c.in-Some.rest.now c.in-Some.node.now us (some_pair bytes_eq ts us) c.in-Some.ensures.cases.0
      (λ t k. sym c.if-is_among.false ∙ c.is_among.ensures t us k i) (c.loop-node.invariant.same ts us h i);
}

pub returns : goal.returns
returns g c = λ ts us h i.
    sought_all _ _ c.loop-node.left.now us (some_pair bytes_eq ts us) c.in_default.ensures.cases (c.loop-node.invariant.same ts us h i)
