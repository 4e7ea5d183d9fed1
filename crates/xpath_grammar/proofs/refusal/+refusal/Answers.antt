use Rattle.std.specs.Prelude.{option_map}
use Rattle.std.proofs.Common.{◌&&◌, not, false, Some, sym, ◌∙◌, ap, arith}
use Rattle.xpath_tokens.specs.Reading.{or_else}
use Rattle.xpath_grammar.specs.Tree.{tree_of, trees_of, walk_of}
use Rattle.xpath_grammar.specs.Static.{marks, wanted, list_marks, axis_fault, test_fault}
use Rattle.xpath_grammar.specs.Checking.{first_in}
use Rattle.xpath_grammar.specs.Functions.{gives_nodes}
use Rattle.xpath_grammar.proofs.FirstFault.{none_left, descends_begin, descends_on, descends_lacking, descends_end, wanted_lacking, list_on, steps_on}
use Rattle.xpath_grammar.proofs.FirstFault.{steps_there}
use Rattle.xpath_grammar.proofs.refusal.+refusal.Goals as goal

pub expr_fault-loop-part-init : goal.expr_fault-loop-part-init
expr_fault-loop-part-init t c =
    descends_begin c.args.bindings.now (tree_of c.args.expr.now) (c.tail_fault-found.ensures ∙ ap (first_in c.args.bindings.now) c.tail_of.ensures.marks)

pub expr_fault-returns-then-lacks_nodes : goal.expr_fault-returns-then-lacks_nodes
expr_fault-returns-then-lacks_nodes t c =
    let p = tree_of c.in-Some.part.now in
    let lacking = sym (c.lacks_nodes.ensures ∙ ap (λ x. x && not (gives_nodes p)) c.needs_nodes.ensures) ∙ c.if-lacks_nodes.true in
    ap Some c.needed_fault.ensures ∙ descends_lacking c.args.bindings.now p c.loop-part.invariant (sym c.in-Some.ensures) lacking

pub expr_fault-loop-part-preserved : goal.expr_fault-loop-part-preserved
expr_fault-loop-part-preserved t c =
    let p = tree_of c.in-Some.part.now in
    let fine = sym (c.lacks_nodes.ensures ∙ ap (λ x. x && not (gives_nodes p)) c.needs_nodes.ensures) ∙ c.if-lacks_nodes.false in
    let tail = c.tail_fault.ensures ∙ ap (first_in c.args.bindings.now) c.tail_of-in-Some.ensures.marks in
    rw (c.earlier-found.ensures) (descends_on c.args.bindings.now p c.loop-part.invariant (sym c.in-Some.ensures) fine tail)

pub expr_fault-returns : goal.expr_fault-returns
expr_fault-returns t c =
    let none = none_left c.inner_part.result c.in_default.not-Some in
    c.earlier.ensures
    ∙ ap (λ x. or_else x c.loop-part.found) c.own_fault.ensures
    ∙ descends_end c.args.bindings.now c.loop-part.invariant (sym c.inner_part.ensures ∙ ap (option_map (λ e. tree_of e.now)) none)

pub list_fault-loop-rest-preserved : goal.list_fault-loop-rest-preserved
list_fault-loop-rest-preserved t c =
    let bs = c.args.bindings.now in
    let o = list_on bs c.loop-rest.needed (tree_of c.in-More.first.value) (trees_of c.in-More.after.value) (trees_of c.loop-rest.rest.now) (ap trees_of c.in-More.is) (c.wanted_fault-fault.ensures ∙ ap (λ e. first_in bs (wanted c.loop-rest.needed (tree_of e) (marks (tree_of e)))) c.deref.ensures) c.is_some.ensures c.if-is_some.false in
    let m = c.loop-rest.invariant.smaller in
    let n = o.smaller in
    rw (c.deref-rest.ensures) (record { same = c.loop-rest.invariant.same ∙ o.same; smaller = omega (arith, m, n) })

pub steps_fault-returns-then-is_some : goal.steps_fault-returns-then-is_some
steps_fault-returns-then-is_some t c =
    let bs = c.args.bindings.now in
    let s = c.in-More.step.value in
    let own = c.earlier-own.ensures ∙ ap (λ x. or_else x c.test_fault.result) (c.axis_fault.ensures ∙ ap (λ x. axis_fault x.axis) c.deref.ensures) ∙ ap (or_else (axis_fault s.axis)) (c.test_fault.ensures ∙ ap (λ x. test_fault bs x.test) c.deref-in-More.ensures) in
    let list = c.list_fault.ensures ∙ ap (λ x. first_in bs (list_marks false (trees_of x.predicates))) c.deref-in-More-2.ensures in
    let both = c.earlier-fault.ensures ∙ ap (λ x. or_else x c.list_fault.result) own ∙ ap (or_else (or_else (axis_fault s.axis) (test_fault bs s.test))) list in
    steps_there bs s.axis s.test (trees_of s.predicates) (walk_of c.in-More.after.value) (walk_of c.loop-rest.rest.now) (ap walk_of c.in-More.is) both c.is_some.ensures c.if-is_some.true ∙ sym c.loop-rest.invariant.same

pub steps_fault-loop-rest-preserved : goal.steps_fault-loop-rest-preserved
steps_fault-loop-rest-preserved t c =
    let bs = c.args.bindings.now in
    let s = c.in-More.step.value in
    let own = c.earlier-own.ensures ∙ ap (λ x. or_else x c.test_fault.result) (c.axis_fault.ensures ∙ ap (λ x. axis_fault x.axis) c.deref.ensures) ∙ ap (or_else (axis_fault s.axis)) (c.test_fault.ensures ∙ ap (λ x. test_fault bs x.test) c.deref-in-More.ensures) in
    let list = c.list_fault.ensures ∙ ap (λ x. first_in bs (list_marks false (trees_of x.predicates))) c.deref-in-More-2.ensures in
    let both = c.earlier-fault.ensures ∙ ap (λ x. or_else x c.list_fault.result) own ∙ ap (or_else (or_else (axis_fault s.axis) (test_fault bs s.test))) list in
    let o = steps_on bs s.axis s.test (trees_of s.predicates) (walk_of c.in-More.after.value) (walk_of c.loop-rest.rest.now) (ap walk_of c.in-More.is) both c.is_some.ensures c.if-is_some.false in
    let m = c.loop-rest.invariant.smaller in
    let n = o.smaller in
    rw (c.deref-rest.ensures) (record { same = c.loop-rest.invariant.same ∙ o.same; smaller = omega (arith, m, n) })

pub wanted_fault-returns-then-lacks_nodes : goal.wanted_fault-returns-then-lacks_nodes
wanted_fault-returns-then-lacks_nodes t c =
    ap Some c.needed_fault.ensures ∙ sym (wanted_lacking c.args.bindings.now c.args.nodes (tree_of c.args.expr.now) (sym c.lacks_nodes.ensures ∙ c.if-lacks_nodes.true))
