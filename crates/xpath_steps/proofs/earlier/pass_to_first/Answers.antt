use Rattle.std.proofs.Common.{◌≡◌, ◌-◌, ◌+◌, ◌≤◌, ◌∙◌, ◌∷◌, [], suc, drop, ap, sym, subst, arith, length, inl, inr}
use Rattle.std.specs.List.{slice_index_or}
use Rattle.std.proofs.lemmas.Bool.{cases_lt}
use Rattle.std.proofs.lemmas.List.{drop_all}
use Rattle.xml_model.specs.declared.Kind.TheVariants as kinds
use Rattle.xml_model.specs.declared.Node.{Node}
use Rattle.vtd_words.specs.Table.{nodes_of}
use Rattle.xpath_steps.specs.Earlier.{children_among, Earlier}
use Rattle.xpath_steps.specs.Holders.{index_before}
use Rattle.xpath_steps.specs.Waits.{flagged}
use Rattle.xpath_steps.proofs.EarlierLemmas.{none_yet_earlier}
use Rattle.xpath_steps.proofs.ParentLemmas.{before_earlier}
use Rattle.xpath_steps.proofs.StepLemmas.{At, at_index, as_many, context_is, node_at}
use Rattle.xpath_steps.proofs.earlier.pass_to_first.Goals as goal

pub loop-rest-init : goal.loop-rest-init
loop-rest-init g c = record {
  within = omega arith;
  some = c.requires.some;
  nodes = rw c.requires.empty tt;
  gathered = λ nest s cs e k.
      let none : drop (length c.args.contexts.now) cs ≡ [] = drop_all (length c.args.contexts.now) cs (omega (arith, as_many cs _ e)) in
      rw c.requires.empty
      (subst (λ ds. Earlier (nodes_of c.args.table.now.bytes nest) (children_among ds) (index_before c.args.contexts.now (length c.args.contexts.now))
      (flagged c.args.waiting.now) [])
      (sym none) (none_yet_earlier nest _ s.accepted.document.nests (index_before c.args.contexts.now (length c.args.contexts.now))
      (flagged c.args.waiting.now) c.requires.none));
}

pub loop-rest-preserved : goal.loop-rest-preserved
loop-rest-preserved g c = record {
  within = omega (arith, c.loop-rest.invariant.within);
  some = omega (arith, c.loop-rest-test.true);
  nodes = c.in_ok-_stop.ensures.nodes;
  gathered = λ nest s cs e k.
      let i = c.loop-rest.rest - 1 in
      let es = nodes_of c.args.table.now.bytes nest in
      let few : i + 1 ≤ length cs = omega (arith, as_many cs _ e, c.loop-rest-test.true, c.loop-rest.invariant.within) in
      let a : At cs i = at_index cs i (omega (arith, few)) in
      let d : Node = record { kind = kinds.Root; at = 0 } in
      let here : (slice_index_or c.args.contexts.now i d).at ≡ a.entry.index = ap (λ n. n.at) (node_at cs c.args.contexts.now e i a d) in
      let in_it = context_is es cs k c.args.contexts.now e i a d in
      let one : c.loop-rest.rest ≡ suc i = omega (arith, c.loop-rest-test.true) in
      let last : suc i ≡ i + 1 = omega arith in
      let from : index_before c.args.contexts.now c.loop-rest.rest ≡ (slice_index_or c.args.contexts.now i d).at =
      ap (index_before c.args.contexts.now) one in
      let old = c.loop-rest.invariant.gathered nest s cs e k in
      let there : Earlier es (children_among (drop (i + 1) cs)) (slice_index_or c.args.contexts.now i d).at (flagged c.loop-rest.waiting) c.loop-rest.held.items =
      subst (λ n. Earlier es (children_among (drop n cs)) (slice_index_or c.args.contexts.now i d).at (flagged c.loop-rest.waiting) c.loop-rest.held.items)
      (one ∙ last)
      (subst (λ n. Earlier es (children_among (drop c.loop-rest.rest cs)) n (flagged c.loop-rest.waiting) c.loop-rest.held.items) from old) in
      let earlier : index_before c.args.contexts.now i ≤ (slice_index_or c.args.contexts.now i d).at =
      omega (arith, here, before_earlier cs k.rise c.args.contexts.now e i a (omega (arith, few))) in
      let order : c.before-to.result ≤ (slice_index_or c.args.contexts.now i d).at = omega (arith, c.before-to.ensures, earlier) in
      let stop : c.in_ok-_stop._stop ≡ c.before-to.result = elim (cases_lt c.before-to.result c.in_ok-_stop._stop) [
        | inl more ↦
            let last : c.in_ok-_stop._stop ≡ suc (c.in_ok-_stop._stop - 1) = omega (arith, more) in
            absurd (omega (arith, c.in_ok-_stop.ensures.stop nest s (c.in_ok-_stop._stop - 1) last more))
        | inr less ↦ omega (arith, less, c.in_ok-_stop.ensures.range order)
      ] in
      let all : Earlier es (children_among (a.entry ∷ drop (i + 1) cs)) c.in_ok-_stop._stop (flagged c.pass_context.new.waiting) c.pass_context.new.held.items =
      c.in_ok-_stop.ensures.gathered nest s a.entry in_it (drop (i + 1) cs) order there in
      subst (λ ds. Earlier es (children_among ds) (index_before c.args.contexts.now i) (flagged c.pass_context.new.waiting) c.pass_context.new.held.items)
      (sym a.split)
      (subst (λ n. Earlier es (children_among (a.entry ∷ drop (i + 1) cs)) n (flagged c.pass_context.new.waiting) c.pass_context.new.held.items)
      (stop ∙ c.before-to.ensures) all);
}

pub returns-clause-gathered : goal.returns-clause-gathered
returns-clause-gathered g c = λ nest s cs e k.
    let one : c.loop-rest.rest ≡ 1 = omega (arith, c.loop-rest.invariant.some, c.loop-rest-test.false) in
    subst (λ m. Earlier (nodes_of c.args.table.now.bytes nest) (children_among (drop m cs)) (index_before c.args.contexts.now m)
    (flagged c.loop-rest.waiting) c.loop-rest.held.items) one (c.loop-rest.invariant.gathered nest s cs e k)
