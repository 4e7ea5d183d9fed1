use Rattle.std.proofs.Common.{◌≡◌, ◌+◌, ◌-◌, ◌∙◌, ap, sym, subst, arith, length, reverse}
use Rattle.std.specs.List.{AllByRecursion as Each}
use Rattle.xml_model.specs.declared.Kind.TheVariants as kinds
use Rattle.xml_model.specs.declared.Node.{Node}
use Rattle.vtd_words.specs.Table.{IsNodeOf, node_of, nodes_of}
use Rattle.xpath_axes.specs.Tests.{node_test}
use Rattle.xpath_steps.proofs.AboveLemmas.{each_index, each_reverse}
use Rattle.xpath_steps.proofs.EndLemmas.{preceding_left, none_precede}
use Rattle.xpath_steps.proofs.StepLemmas.{At, at_index, context_is, as_many}
use Rattle.xpath_steps.proofs.ends.gather_preceding.Goals as goal

pub returns-then-count-eq0-clause-step : goal.returns-then-count-eq0-clause-step
returns-then-count-eq0-clause-step g c = λ nest s cs e k.
    let none : length cs ≡ 0 = omega (arith, as_many cs _ e, c.if-count-eq0.true) in
    c.new.ensures.items ∙ sym (none_precede nest _ s.accepted.document.nests cs k (node_test c.args.test.now) none)

pub returns-clause-step : goal.returns-clause-step
returns-clause-step g c = λ nest s cs e k.
    let i = length c.args.contexts.now - 1 in
    let a : At cs i = at_index cs i (omega (arith, as_many cs _ e, c.if-count-eq0.false)) in
    let d : Node = record { kind = kinds.Root; at = 0 } in
    let in_it = context_is (nodes_of c.args.table.now.bytes nest) cs k c.args.contexts.now e i a d in
    let last : i + 1 ≡ length cs = omega (arith, as_many cs _ e, c.if-count-eq0.false) in
    c.reverse.ensures.items ∙ ap reverse (c.in_ok-held.ensures.gathered nest s
    ∙ ap (λ xs. Rattle.std.proofs.Common.map node_of xs) (c.back_from-back.ensures.axis nest s a.entry in_it (node_test c.args.test.now)))
    ∙ preceding_left nest _ s.accepted.document.nests cs k (node_test c.args.test.now) i a last

pub returns-then-count-eq0-clause-nodes : goal.returns-then-count-eq0-clause-nodes
returns-then-count-eq0-clause-nodes g c = rw c.new.ensures.items (λ k d l. absurd (omega (arith, l)))

pub returns-clause-nodes : goal.returns-clause-nodes
returns-clause-nodes g c =
    each_index (IsNodeOf _ _) _ (subst (Each (IsNodeOf _ _)) (sym c.reverse.ensures.items) (each_reverse _ _ c.in_ok-held.ensures.nodes))
