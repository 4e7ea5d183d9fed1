use Rattle.std.proofs.Common.{[], ◌∷◌, arith, refl, false, map, filter}
use Rattle.xml_model.specs.declared.Kind.TheVariants as kinds
use Rattle.xml_model.specs.declared.Node.{Node}
use Rattle.xml_model.specs.Names.{passes}
use Rattle.vtd_words.specs.Table.{node_of, nodes_of}
use Rattle.xpath_axes.specs.Tests.{node_test}
use Rattle.xpath_steps.proofs.StepLemmas.{At, at_index, entry_is, all_gathered, gathered_on, self_at_index, self_ended, as_many}
use Rattle.xpath_steps.proofs.selves.those_passing.Goals as goal

pub loop-node-init : goal.loop-node-init
loop-node-init g c = record { names = c.requires.names; so_far = λ nest s cs e k. rw c.new-held.ensures.items refl }

pub loop-node-preserved : goal.loop-node-preserved
loop-node-preserved g c = record {
  names = c.in_ok-append_if.ensures.names;
  so_far = λ nest s cs e k.
      let i = c.loop-node.node-index in
      let test = node_test c.args.test.now in
      let a : At cs i = at_index cs i (omega (arith, as_many cs _ e, c.loop-node-test.true)) in
      let d : Node = record { kind = kinds.Root; at = 0 } in
      let in_it = entry_is (nodes_of c.args.table.now.bytes nest) cs k c.args.nodes.now e i a d in
      gathered_on _ _ _ (map node_of (filter (passes test false) (a.entry ∷ []))) _ _ (c.loop-node.invariant.so_far nest s cs e k)
      (self_at_index test cs i a) (c.in_ok-append_if.ensures.appended nest s a.entry in_it);
}

pub returns-clause-passing : goal.returns-clause-passing
returns-clause-passing g c = λ nest s cs e k.
    all_gathered _ _ _ (c.loop-node.invariant.so_far nest s cs e k)
    (self_ended (node_test c.args.test.now) cs c.loop-node.node-index (omega (arith, as_many cs _ e, c.loop-node-test.false)))
