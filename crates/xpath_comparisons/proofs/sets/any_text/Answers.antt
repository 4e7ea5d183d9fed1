use Rattle.std.proofs.Common.{◌∙◌, ap}
use Rattle.std.specs.Prelude.{bytes_eq}
use Rattle.std.specs.List.{list_any}
use Rattle.std.specs.Str.{chars}
use Rattle.vtd_words.specs.Table.{IsNodeOf}
use Rattle.xpath_values.specs.Values.{by_equality}
use Rattle.xpath_values.proofs.SeenLemmas.{tail_all}
use Rattle.xpath_comparisons.proofs.SetLemmas.{passed, passed_by, passed_all}
use Rattle.xpath_comparisons.proofs.sets.any_text.Goals as goal

pub returns-then-by_equality : goal.returns-then-by_equality
returns-then-by_equality g c = λ ts h.
    passed _ _ c.loop-node.left.now c.in-Some.rest.now c.in-Some.node.now
    (λ t. by_equality c.args.how (bytes_eq t (chars c.args.text.now))) (list_any (λ t. by_equality c.args.how (bytes_eq t (chars c.args.text.now))) ts) c.by_equality.result c.in-Some.ensures.cases.0
    (λ t k. c.by_equality.ensures ∙ ap (by_equality c.args.how) (c.equals_str.ensures ∙ ap (λ x. bytes_eq x (chars c.args.text.now)) (c.chars_at.ensures t k)))
    c.if-by_equality.true (c.loop-node.invariant.same ts h)

pub loop-node-preserved : goal.loop-node-preserved
loop-node-preserved g c = record {
  all = tail_all (λ x. IsNodeOf c.args.table.now.bytes (g.W.Words.lists c.args.table.now.words) x) c.loop-node.left.now c.in-Some.rest.now c.in-Some.node.now c.in-Some.ensures.cases.0 c.loop-node.invariant.all;
  same = λ ts h.
      passed_by _ _ c.loop-node.left.now c.in-Some.rest.now c.in-Some.node.now
      (λ t. by_equality c.args.how (bytes_eq t (chars c.args.text.now))) (list_any (λ t. by_equality c.args.how (bytes_eq t (chars c.args.text.now))) ts) c.by_equality.result c.in-Some.ensures.cases.0
      (λ t k. c.by_equality.ensures ∙ ap (by_equality c.args.how) (c.equals_str.ensures ∙ ap (λ x. bytes_eq x (chars c.args.text.now)) (c.chars_at.ensures t k)))
      c.if-by_equality.false (c.loop-node.invariant.same ts h);
}

pub returns : goal.returns
returns g c = λ ts h.
    passed_all _ _ c.loop-node.left.now (λ t. by_equality c.args.how (bytes_eq t (chars c.args.text.now))) (list_any (λ t. by_equality c.args.how (bytes_eq t (chars c.args.text.now))) ts) c.in_default.ensures.cases (c.loop-node.invariant.same ts h)
