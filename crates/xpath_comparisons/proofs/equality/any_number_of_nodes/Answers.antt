use Rattle.std.proofs.Common.{◌∙◌, ap}
use Rattle.std.specs.Prelude.{◌||◌}
use Rattle.std.specs.List.{list_any}
use Rattle.vtd_words.specs.Table.{IsNodeOf}
use Rattle.xpath_values.specs.Answers.{with, each}
use Rattle.xpath_values.specs.Numbers.{compare_numbers, number_of_text}
use Rattle.xpath_values.proofs.SeenLemmas.{tail_all}
use Rattle.xpath_comparisons.proofs.NumbersLemmas.{number_found}
use Rattle.xpath_comparisons.proofs.equality.any_number_of_nodes.Goals as goal

pub loop-node-preserved : goal.loop-node-preserved
loop-node-preserved g c = record {
  all = tail_all (λ x. IsNodeOf c.args.table.now.bytes (g.W.Words.lists c.args.table.now.words) x) c.loop-node.left.now c.in-Some.rest.now c.in-Some.node.now c.in-Some.ensures.cases.0 c.loop-node.invariant.all;
  same = λ ts h.
      number_found _ _ c.loop-node.left.now c.in-Some.rest.now c.in-Some.node.now (λ x. compare_numbers c.args.how x c.args.number) c.loop-node.found c.either-found.result
      (with (each number_of_text ts) (list_any (λ x. compare_numbers c.args.how x c.args.number))) c.in-Ok.other c.in-Some.ensures.cases.0
      (λ t k. c.in-Ok.ensures t k) (c.either-found.ensures ∙ ap (λ b. c.loop-node.found || b) c.compare_numbers.ensures) (c.loop-node.invariant.same ts h);
}
