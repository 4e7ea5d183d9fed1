use Rattle.std.proofs.Common.{◌≡◌, ◌-◌, ◌+◌, ◌∙◌, suc, drop, ap, sym, subst, arith, reverse}
use Rattle.std.specs.List.{AllByRecursion as Each, slice_index_or}
use Rattle.xml_model.specs.declared.Kind.TheVariants as kinds
use Rattle.xml_model.specs.declared.Node.{Node}
use Rattle.vtd_words.specs.Table.{IsNodeOf, nodes_of}
use Rattle.xpath_steps.specs.Holders.{index_before}
use Rattle.xpath_steps.proofs.AboveLemmas.{all_climbed, each_index, each_reverse, context_climbed, gathered_from, none_gathered}
use Rattle.xpath_steps.proofs.StepLemmas.{At, at_index, node_at, as_many}
use Rattle.xpath_steps.proofs.above.holders_of_all.Goals as goal

pub loop-rest-init : goal.loop-rest-init
loop-rest-init g c = record {
  within = omega arith;
  nodes = rw c.new-held.ensures.items tt;
  so_far = λ nest s cs e k.
      c.new-held.ensures.items ∙ sym (none_gathered (nodes_of c.args.table.now.bytes nest) cs _ _ (omega (arith, as_many cs _ e)));
}

pub loop-rest-preserved : goal.loop-rest-preserved
loop-rest-preserved g c = record {
  within = omega (arith, c.loop-rest.invariant.within);
  nodes = c.in_ok-append_holders.ensures.nodes;
  so_far = λ nest s cs e k.
      let i = c.loop-rest.rest - 1 in
      let es = nodes_of c.args.table.now.bytes nest in
      let a : At cs i = at_index cs i (omega (arith, as_many cs _ e, c.loop-rest-test.true, c.loop-rest.invariant.within)) in
      let d : Node = record { kind = kinds.Root; at = 0 } in
      let here : (slice_index_or c.args.contexts.now i d).at ≡ a.entry.index = ap (λ n. n.at) (node_at cs c.args.contexts.now e i a d) in
      let one : c.loop-rest.rest ≡ suc i = omega (arith, c.loop-rest-test.true) in
      let last : i + 1 ≡ suc i = omega arith in
      let from : index_before c.args.contexts.now c.loop-rest.rest ≡ a.entry.index = ap (index_before c.args.contexts.now) one ∙ here in
      context_climbed es cs i a _ c.climb_from-back.result (c.climb_from-back.ensures.at ∙ here) (c.climb_from-back.ensures.from ∙ here) _ _
      (c.loop-rest.invariant.so_far nest s cs e k ∙ ap (λ m. gathered_from es m (drop c.loop-rest.rest cs)) from
      ∙ ap (λ m. gathered_from es a.entry.index (drop m cs)) (one ∙ sym last))
      (c.in_ok-append_holders.ensures.appended nest s)
      ∙ ap (λ m. gathered_from es m (drop i cs)) c.before-in-loop-rest.ensures;
}

pub returns-clause-holders : goal.returns-clause-holders
returns-clause-holders g c = λ nest s cs e k.
    let es = nodes_of c.args.table.now.bytes nest in
    let none : c.loop-rest.rest ≡ 0 = omega (arith, c.loop-rest-test.false) in
    c.reverse.ensures.items
    ∙ ap reverse (c.loop-rest.invariant.so_far nest s cs e k
    ∙ ap (λ m. gathered_from es (index_before c.args.contexts.now m) (drop m cs)) none)
    ∙ all_climbed es cs

pub returns-clause-nodes : goal.returns-clause-nodes
returns-clause-nodes g c =
    each_index (IsNodeOf _ _) _ (subst (Each (IsNodeOf _ _)) (sym c.reverse.ensures.items) (each_reverse _ _ c.loop-rest.invariant.nodes))
