use Rattle.std.proofs.Common.{◌≡◌, ◌-◌, ◌+◌, ◌≤◌, ◌∙◌, ◌∷◌, [], suc, drop, ap, sym, subst, arith, length}
use Rattle.std.specs.List.{AllByRecursion as Each, slice_index_or}
use Rattle.std.proofs.lemmas.List.{drop_all}
use Rattle.xml_model.specs.declared.Kind.TheVariants as kinds
use Rattle.xml_model.specs.declared.Node.{Node}
use Rattle.vtd_words.specs.Table.{IsNodeOf, nodes_of}
use Rattle.xpath_steps.specs.Holders.{index_before}
use Rattle.xpath_steps.specs.Waits.{flagged, Gathered}
use Rattle.xpath_steps.proofs.AboveLemmas.{each_index, each_reverse}
use Rattle.xpath_steps.proofs.ParentLemmas.{before_earlier, none_yet, turned_round}
use Rattle.xpath_steps.proofs.StepLemmas.{At, at_index, as_many, context_is, node_at}
use Rattle.xpath_steps.proofs.parents.parents.Goals as goal

pub loop-rest-init : goal.loop-rest-init
loop-rest-init g c = record {
  within = omega arith;
  nodes = rw c.new-held.ensures.items tt;
  gathered = λ nest s cs e k.
      let none : drop (length c.args.contexts.now) cs ≡ [] = drop_all (length c.args.contexts.now) cs (omega (arith, as_many cs _ e)) in
      rw c.new-held.ensures.items
      (subst (λ ds. Gathered (nodes_of c.args.table.now.bytes nest) ds (index_before c.args.contexts.now (length c.args.contexts.now))
      (flagged c.new-waiting.result) [])
      (sym none) (none_yet nest _ s.accepted.document.nests (index_before c.args.contexts.now (length c.args.contexts.now)) (flagged c.new-waiting.result)
      c.new-waiting.ensures));
}

pub loop-rest-preserved : goal.loop-rest-preserved
loop-rest-preserved g c = record {
  within = omega (arith, c.loop-rest.invariant.within);
  nodes = c.in_ok-append_parents.ensures.nodes;
  gathered = λ nest s cs e k.
      let i = c.loop-rest.rest - 1 in
      let es = nodes_of c.args.table.now.bytes nest in
      let few : i + 1 ≤ length cs = omega (arith, as_many cs _ e, c.loop-rest-test.true, c.loop-rest.invariant.within) in
      let a : At cs i = at_index cs i (omega (arith, few)) in
      let d : Node = record { kind = kinds.Root; at = 0 } in
      let here : (slice_index_or c.args.contexts.now i d).at ≡ a.entry.index = ap (λ n. n.at) (node_at cs c.args.contexts.now e i a d) in
      let in_it = context_is es cs k c.args.contexts.now e i a d in
      let one : c.loop-rest.rest ≡ suc i = omega (arith, c.loop-rest-test.true) in
      let last : suc i ≡ i + 1 = omega arith in
      let from : index_before c.args.contexts.now c.loop-rest.rest ≡ (slice_index_or c.args.contexts.now i d).at =
      ap (index_before c.args.contexts.now) one in
      let old = c.loop-rest.invariant.gathered nest s cs e k in
      let there : Gathered es (drop (i + 1) cs) (slice_index_or c.args.contexts.now i d).at (flagged c.loop-rest.waiting) c.loop-rest.held.items =
      subst (λ n. Gathered es (drop n cs) (slice_index_or c.args.contexts.now i d).at (flagged c.loop-rest.waiting) c.loop-rest.held.items) (one ∙ last)
      (subst (λ n. Gathered es (drop c.loop-rest.rest cs) n (flagged c.loop-rest.waiting) c.loop-rest.held.items) from old) in
      let earlier : index_before c.args.contexts.now i ≤ (slice_index_or c.args.contexts.now i d).at =
      omega (arith, here, before_earlier cs k.rise c.args.contexts.now e i a (omega (arith, few))) in
      subst (λ n. Gathered es (drop i cs) n (flagged c.append_parents.new.waiting) c.append_parents.new.held.items) c.before-in-loop-rest.ensures
      (subst (λ ds. Gathered es ds c.before-in-loop-rest.result (flagged c.append_parents.new.waiting) c.append_parents.new.held.items) (sym a.split)
      (c.in_ok-append_parents.ensures.gathered nest s (a.entry ∷ drop (i + 1) cs) (omega (arith, c.before-in-loop-rest.ensures, earlier))
      (c.await_parent.ensures nest s a.entry in_it (drop (i + 1) cs) c.loop-rest.held.items there)));
}

pub returns-clause-nodes : goal.returns-clause-nodes
returns-clause-nodes g c =
    each_index (IsNodeOf _ _) _ (subst (Each (IsNodeOf _ _)) (sym c.reverse.ensures.items) (each_reverse _ _ c.loop-rest.invariant.nodes))

pub returns-clause-parents : goal.returns-clause-parents
returns-clause-parents g c = λ nest s cs e k.
    let none : c.loop-rest.rest ≡ 0 = omega (arith, c.loop-rest-test.false) in
    c.reverse.ensures.items
    ∙ turned_round nest _ s.accepted.document.nests cs (flagged c.loop-rest.waiting) c.loop-rest.held.items
    (subst (λ m. Gathered (nodes_of c.args.table.now.bytes nest) (drop m cs) (index_before c.args.contexts.now m) (flagged c.loop-rest.waiting)
    c.loop-rest.held.items) none (c.loop-rest.invariant.gathered nest s cs e k))
