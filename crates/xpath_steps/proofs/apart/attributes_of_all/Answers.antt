use Rattle.std.proofs.Common.{◌∙◌, sym, arith, refl}
use Rattle.xml_model.specs.declared.Kind.TheVariants as kinds
use Rattle.xml_model.specs.declared.Axis.TheVariants as axes
use Rattle.xml_model.specs.declared.Node.{Node}
use Rattle.vtd_words.specs.Table.{nodes_of}
use Rattle.xpath_axes.specs.Tests.{node_test}
use Rattle.xpath_steps.proofs.StepLemmas.{At, at_index, context_is, all_gathered, gathered_on, one_of, each_at_index, each_ended, all_attributes, as_many}
use Rattle.xpath_steps.proofs.apart.attributes_of_all.Goals as goal

pub loop-context-init : goal.loop-context-init
loop-context-init g c = record { names = c.requires.names; so_far = λ nest s cs e k. rw c.new-held.ensures.items refl }

pub loop-context-preserved : goal.loop-context-preserved
loop-context-preserved g c = record {
  names = c.in_ok-append_attributes.ensures.names;
  so_far = λ nest s cs e k.
      let i = c.loop-context.context-index in
      let test = node_test c.args.test.now in
      let es = nodes_of c.args.table.now.bytes nest in
      let a : At cs i = at_index cs i (omega (arith, as_many cs _ e, c.loop-context-test.true)) in
      let d : Node = record { kind = kinds.Root; at = 0 } in
      let in_it = context_is es cs k c.args.contexts.now e i a d in
      gathered_on _ _ _ (one_of axes.Attribute test es a.entry) _ _ (c.loop-context.invariant.so_far nest s cs e k)
      (each_at_index axes.Attribute test es cs i a) (c.in_ok-append_attributes.ensures.appended nest s a.entry in_it);
}

pub returns-clause-step : goal.returns-clause-step
returns-clause-step g c = λ nest s cs e k.
    all_gathered _ _ _ (c.loop-context.invariant.so_far nest s cs e k)
    (each_ended axes.Attribute (node_test c.args.test.now) (nodes_of c.args.table.now.bytes nest) cs c.loop-context.context-index
    (omega (arith, as_many cs _ e, c.loop-context-test.false)))
    ∙ sym (all_attributes nest _ s.accepted.document.nests cs k (node_test c.args.test.now))
