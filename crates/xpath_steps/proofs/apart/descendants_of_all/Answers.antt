use Rattle.std.proofs.Common.{◌≡◌, ◌+◌, ◌++◌, ◌∙◌, ap, sym, arith, drop, refl, subst, [], append-nil}
use Rattle.std.specs.List.{slice_index_or}
use Rattle.xml_model.specs.declared.Kind.TheVariants as kinds
use Rattle.xml_model.specs.declared.Axis.TheVariants as axes
use Rattle.xml_model.specs.declared.Node.{Node}
use Rattle.vtd_words.specs.Table.{node_of, nodes_of}
use Rattle.xpath_axes.specs.Tests.{node_test}
use Rattle.xpath_steps.proofs.StepLemmas.{At, at_index, node_at, context_is, all_gathered, gathered_on}
use Rattle.xpath_steps.proofs.StepLemmas.{below, one_of, skipped, gone_down, none_below, all_below, as_many}
use Rattle.xpath_steps.proofs.apart.descendants_of_all.Goals as goal
use Rattle.xpath_steps.proofs.apart.descendants_of_all.Goals.{then-low-context+in_ok-low, else-low-context}

pub loop-context-preserved : goal.loop-context-preserved
loop-context-preserved g c = record {
  names = elim c.if-low-context.branch [
    | then-low-context+in_ok-low w ↦ subst (λ x. g.N.Names.knows x c.args.table.now) (sym w.names-is) w.in_ok-low.ensures.names
    | else-low-context w ↦ subst (λ x. g.N.Names.knows x c.args.table.now) (sym w.names-is) c.loop-context.invariant.names
  ];
  so_far = λ nest s cs e k.
      let i = c.loop-context.context-index in
      let test = node_test c.args.test.now in
      let es = nodes_of c.args.table.now.bytes nest in
      let a : At cs i = at_index cs i (omega (arith, as_many cs _ e, c.loop-context-test.true)) in
      let d : Node = record { kind = kinds.Root; at = 0 } in
      let here : slice_index_or c.args.contexts.now i d ≡ node_of a.entry = node_at cs c.args.contexts.now e i a d in
      let index : (slice_index_or c.args.contexts.now i d).at ≡ a.entry.index = ap (λ n. n.at) here in
      elim c.if-low-context.branch [
        | then-low-context+in_ok-low w ↦
            let in_it = context_is es cs k c.args.contexts.now e i a d in
            let low : c.if-low-context.low ≡ a.entry.past = w.low-is ∙ w.in_ok-low.ensures.past nest s a.entry in_it in
            gathered_on _ _ _ (one_of axes.Descendant test es a.entry) _ _ (c.loop-context.invariant.so_far nest s cs e k)
            (gone_down test es cs i c.loop-context.low a (omega (arith, w.if-low-context.true, index))
            ∙ ap (λ n. one_of axes.Descendant test es a.entry ++ below test es n (drop (i + 1) cs)) (sym low))
            (ap (λ v. v.items) w.held-is ∙ w.in_ok-low.ensures.appended nest s a.entry in_it)
        | else-low-context w ↦
            gathered_on _ _ _ [] _ _ (c.loop-context.invariant.so_far nest s cs e k)
            (skipped test es cs i c.loop-context.low a (omega (arith, w.if-low-context.false, index))
            ∙ ap (λ n. below test es n (drop (i + 1) cs)) (sym w.low-is))
            (ap (λ v. v.items) w.held-is ∙ sym (append-nil _))
      ];
}

pub loop-context-init : goal.loop-context-init
loop-context-init g c = record { names = c.requires.names; so_far = λ nest s cs e k. rw c.new-held.ensures.items refl }

pub returns-clause-step : goal.returns-clause-step
returns-clause-step g c = λ nest s cs e k.
    all_gathered _ _ _ (c.loop-context.invariant.so_far nest s cs e k)
    (none_below (node_test c.args.test.now) (nodes_of c.args.table.now.bytes nest) cs c.loop-context.context-index c.loop-context.low
    (omega (arith, as_many cs _ e, c.loop-context-test.false)))
    ∙ sym (all_below nest _ s.accepted.document.nests cs k (node_test c.args.test.now))
