use Rattle.std.proofs.Common.{◌≡◌, ap, sym, ◌∙◌, length, arith}
use Rattle.std.proofs.lemmas.List.Elements.{All-from_recursion}
use Rattle.std.proofs.lemmas.Result.{err_from_is_err_and}
use Rattle.xml_model.specs.declared.Kind.TheVariants as kinds
use Rattle.xml_model.specs.declared.Node.{Node}
use Rattle.vtd_words.specs.Table.{nodes_of}
use Rattle.vtd_modifier.proofs.Joined.{Here, here, many, no_more, one_more, refused}
use Rattle.vtd_modifier.proofs.making.splices_of.Goals as goal

pub loop-node-preserved : goal.loop-node-preserved
loop-node-preserved g c =
    let d : Node = record { kind = kinds.Root; at = 0 } in
    let are : c.as_slice-node-items.result.now ≡ c.args.nodes.now = c.as_slice-node-items.ensures.value ∙ c.nodes.view_is in
    record {
      made = λ nest s es k.
          let h = here c.args.nodes.now (nodes_of c.args.nav.now.bytes nest) es c.loop-node.node-index d k (rw are at c.loop-node-test.true) in
          one_more _ _ _ es _ _ _ _ h (c.loop-node.invariant.made nest s es k) ((rw are at c.in_ok-push_node.ensures.added) nest s h.entry h.holds);
      within = c.in_ok-push_node.ensures.within c.loop-node.invariant.within;
    }

pub returns-in_err-push_node-clause-refused : goal.returns-in_err-push_node-clause-refused
returns-in_err-push_node-clause-refused g c =
    let p = err_from_is_err_and c.from_residual.result c.from_residual.ensures.1 in
    let d : Node = record { kind = kinds.Root; at = 0 } in
    let are : c.as_slice-node-items.result.now ≡ c.args.nodes.now = c.as_slice-node-items.ensures.value ∙ c.nodes.view_is in
    rw (p.1, p.2) (λ nest s es k.
    let h = here c.args.nodes.now (nodes_of c.args.nav.now.bytes nest) es c.loop-node.node-index d k (rw are at c.loop-node-test.true) in
    refused _ _ _ es _ _ _ _ h (sym c.if-not-has_name.ensures) (c.loop-node.invariant.made nest s es k)
    ((rw are at c.in_err-push_node.ensures.refused) nest s h.entry h.holds))

pub returns-clause-within : goal.returns-clause-within
returns-clause-within g c = All-from_recursion _ _ c.loop-node.invariant.within

pub returns-clause-made : goal.returns-clause-made
returns-clause-made g c = λ nest s es k.
    let are : c.as_slice-node-items.result.now ≡ c.args.nodes.now = c.as_slice-node-items.ensures.value ∙ c.nodes.view_is in
    no_more _ _ es c.loop-node.node-index _ (omega (arith, many _ _ es k, ap length are, c.loop-node-test.false)) (sym c.if-not-has_name.ensures)
    (c.loop-node.invariant.made nest s es k)
