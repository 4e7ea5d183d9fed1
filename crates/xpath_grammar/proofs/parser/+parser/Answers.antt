use Rattle.std.proofs.Common.{◌≡◌, Some, Err, take, sym, ◌∙◌, ap, subst}
use Rattle.std.proofs.lemmas.List.{take_rest}
use Rattle.xpath_grammar.specs.declared.expr.Expr.{Expr}
use Rattle.xpath_grammar.specs.declared.expr.Exprs.{Exprs}
use Rattle.xpath_grammar.specs.Grammar.{Derives, OrExpr, UnaryExpr, UnionExpr, PathExpr, FilterExpr, PrimaryExpr, Arguments, RelativeLocationPath, StepPart, Predicates, path_location, location_relative}
use Rattle.xpath_grammar.specs.Cutting.{symbol, operand, form, as_expr, as_exprs, as_walk, as_step, ArgumentLevel, RelativeLevel}
use Rattle.xpath_grammar.specs.Tree.{tree_of, trees_of}
use Rattle.xpath_grammar.specs.Shape.{test_of, after_test, IsStepTest}
use Rattle.xpath_grammar.specs.Grammar.{expr, exprs}
use Rattle.xpath_grammar.specs.Cutting.{applied, AreBinary}
use Rattle.xpath_tokens.proofs.Runs.{some_list, empty_list}
use Rattle.xpath_grammar.proofs.Remaining.{Remaining}
use Rattle.xpath_grammar.proofs.Applied.{AreBinary-push}
use Rattle.xpath_grammar.proofs.Parsing.{chain_begin, chain_on, chain_binary, refuses_at, filter_refuses_at, filter_refuses_after, answers, makes, binary_one, cut_right, cut_none, unary_rest, unary_made, absolute_rest, deep_rest, relative_only, root_made, absolute_made, deep_made, filter_err, from_none, from_parts, from_made, filter_parts, filter_none, filter_made, primary_made, primary_inner, variable_made, literal_made, number_made, call_made, call_made_none, no_primary_shape, trees_begin, walks_begin, arguments_on, arguments_end, predicate_parts, no_predicate, predicate_inner, predicates_on, predicates_end, relative_on, relative_end, dot_made, step_rest, step_made, step_refused_at}
use Rattle.xpath_grammar.proofs.Going.{cut_inside, first_inside, cuts_pop, cuts_none, popped_none}
use Rattle.xpath_grammar.proofs.parser.+parser.Goals as goal

pub unary-returns-in_err-part : goal.unary-returns-in_err-part
unary-returns-in_err-part t c =
    refuses_at UnaryExpr UnionExpr as_expr as_expr c.args.tokens.now c.after_minuses-count.result.1.now c.in_err-part.field-0.0 c.from_residual.result c.from_residual.ensures.1 c.in_err-part.ensures (λ e d. rw c.after_minuses-count.ensures.rest (unary_rest e d))

pub unary-returns : goal.unary-returns
unary-returns t c =
    let part = rw c.after_minuses-count.ensures.rest at c.in_ok-part.ensures in
    makes UnaryExpr as_expr c.args.tokens.now c.negated_times.result _ c.negated_times.ensures (λ x h. rw (h, c.after_minuses-count.ensures.count) (unary_made c.args.tokens.now part))

pub path-returns-in_err-steps-in-Absolute : goal.path-returns-in_err-steps-in-Absolute
path-returns-in_err-steps-in-Absolute t c =
    refuses_at PathExpr RelativeLocationPath as_expr as_walk c.args.tokens.now c.in-Absolute.rest.now c.in_err-steps-in-Absolute.field-0.0 c.from_residual.result c.from_residual.ensures.1 c.in_err-steps-in-Absolute.ensures (absolute_rest c.in-Absolute.ensures.0 c.in-Absolute.ensures.1)

pub path-returns-in_err-steps-in-Deep : goal.path-returns-in_err-steps-in-Deep
path-returns-in_err-steps-in-Deep t c =
    refuses_at PathExpr RelativeLocationPath as_expr as_walk c.args.tokens.now c.in-Deep.rest.now c.in_err-steps-in-Deep.field-0.0 c.from_residual-in_err-steps-in-Deep.result c.from_residual-in_err-steps-in-Deep.ensures.1 c.in_err-steps-in-Deep.ensures (deep_rest c.in-Deep.ensures)

pub path-returns-in_err-steps-in-Steps : goal.path-returns-in_err-steps-in-Steps
path-returns-in_err-steps-in-Steps t c =
    refuses_at PathExpr RelativeLocationPath as_expr as_walk c.args.tokens.now c.args.tokens.now c.in_err-steps-in-Steps.field-0.0 c.from_residual-in_err-steps-in-Steps.result c.from_residual-in_err-steps-in-Steps.ensures.1 c.in_err-steps-in-Steps.ensures (relative_only c.in-Steps.ensures)

pub path-returns-in-Root : goal.path-returns-in-Root
path-returns-in-Root t c =
    root_made c.in-Root.ensures

pub path-returns-in_ok-steps-in-Absolute : goal.path-returns-in_ok-steps-in-Absolute
path-returns-in_ok-steps-in-Absolute t c =
    absolute_made c.in-Absolute.ensures.0 c.in_ok-steps-in-Absolute.ensures

pub path-returns-in_ok-steps-in-Deep : goal.path-returns-in_ok-steps-in-Deep
path-returns-in_ok-steps-in-Deep t c =
    makes PathExpr as_expr c.args.tokens.now c.deep.result _ c.deep.ensures (λ x h. deep_made c.in-Deep.ensures c.in_ok-steps-in-Deep.ensures h)

pub path-returns-in_ok-steps-in-Steps : goal.path-returns-in_ok-steps-in-Steps
path-returns-in_ok-steps-in-Steps t c =
    path_location (location_relative c.in_ok-steps-in-Steps.ensures)

pub from_filter-parts_at-requires : goal.from_filter-parts_at-requires
from_filter-parts_at-requires t c = first_inside c.in-Some.ensures

pub from_filter-returns-in_err-start-in-Some : goal.from_filter-returns-in_err-start-in-Some
from_filter-returns-in_err-start-in-Some t c =
    refuses_at {Y = Expr} PathExpr FilterExpr as_expr as_expr c.args.tokens.now c.parts_at.result.prefix.now c.in_err-start-in-Some.field-0.0 c.from_residual.result c.from_residual.ensures.1 (filter_err _ _ c.in_err-start-in-Some.ensures) (λ e d. let p = from_parts c.requires c.in-Some.ensures e d in (p.start, rw c.parts_at.ensures.prefix p.left))

pub from_filter-returns-in_err-steps-in-Some : goal.from_filter-returns-in_err-steps-in-Some
from_filter-returns-in_err-steps-in-Some t c =
    refuses_at PathExpr RelativeLocationPath as_expr as_walk c.args.tokens.now c.parts_at.result.back.now c.in_err-steps-in-Some.field-0.0 c.from_residual-in_err-steps-in-Some.result c.from_residual-in_err-steps-in-Some.ensures.1 c.in_err-steps-in-Some.ensures (λ e d. let p = from_parts c.requires c.in-Some.ensures e d in (p.steps, rw c.parts_at.ensures.back p.right))

pub from_filter-returns-in-None : goal.from_filter-returns-in-None
from_filter-returns-in-None t c =
    from_none c.args.tokens.now c.filter.result c.requires c.in-None.ensures c.filter.ensures

pub from_filter-returns-in_ok-steps-in-Some-2 : goal.from_filter-returns-in_ok-steps-in-Some-2
from_filter-returns-in_ok-steps-in-Some-2 t c =
    let left = rw c.parts_at.ensures.prefix at c.in_ok-start-in-Some.ensures in
    let right = rw c.parts_at.ensures.back at c.in_ok-steps-in-Some.ensures in
    makes PathExpr as_expr c.args.tokens.now c.from.result _ c.from.ensures (λ x h. from_made c.parts_at.result.token.now c.in-Some.ensures c.parts_at.ensures.token left right c.in_ok-steps-in-Some-2.ensures h)

pub filter-returns-in_err-start-in-Some : goal.filter-returns-in_err-start-in-Some
filter-returns-in_err-start-in-Some t c =
    filter_refuses_at {Y = Expr} PrimaryExpr as_expr c.args.tokens.now (take c.in-Some.i c.args.tokens.now) c.in_err-start-in-Some.field-0.0 c.from_residual.result c.from_residual.ensures.1 c.in_err-start-in-Some.ensures (λ e d. let p = filter_parts c.in-Some.ensures e d in (p.start, p.left))

pub filter-returns-in_err-predicates-in-Some : goal.filter-returns-in_err-predicates-in-Some
filter-returns-in_err-predicates-in-Some t c =
    filter_refuses_after {Y = Exprs} Predicates as_exprs c.args.tokens.now c.args.tokens.now c.in-Some.i c.in_err-predicates-in-Some.field-0.0 c.from_residual-in_err-predicates-in-Some.result c.from_residual-in_err-predicates-in-Some.ensures.1 c.in_err-predicates-in-Some.ensures (λ e d. let p = filter_parts c.in-Some.ensures e d in (p.predicates, p.right))

pub filter-returns-in-None : goal.filter-returns-in-None
filter-returns-in-None t c =
    filter_none c.args.tokens.now c.primary.result c.in-None.ensures c.primary.ensures

pub filter-returns-in_ok-predicates-in-Some : goal.filter-returns-in_ok-predicates-in-Some
filter-returns-in_ok-predicates-in-Some t c =
    let right = rw take_rest at c.in_ok-predicates-in-Some.ensures in filter_made c.args.tokens.now c.in-Some.i _ _ c.filtered.result c.in-Some.ensures c.in_ok-start-in-Some.ensures right c.filtered.ensures

pub primary-returns-then-is_empty : goal.primary-returns-then-is_empty
primary-returns-then-is_empty t c =
    makes PrimaryExpr as_expr c.args.tokens.now c.call.result _ c.call.ensures (λ x h. call_made_none c.in-Call.ensures (empty_list c.in-Call.inner.now c.is_empty.ensures c.if-is_empty.true) h)

pub primary-returns-in-Variable : goal.primary-returns-in-Variable
primary-returns-in-Variable t c =
    makes PrimaryExpr as_expr c.args.tokens.now c.variable.result _ c.variable.ensures (λ x h. variable_made c.in-Variable.ensures h)

pub primary-returns-in-Literal : goal.primary-returns-in-Literal
primary-returns-in-Literal t c =
    makes PrimaryExpr as_expr c.args.tokens.now c.literal.result _ c.literal.ensures (λ x h. literal_made c.in-Literal.ensures h)

pub primary-returns-in-Number : goal.primary-returns-in-Number
primary-returns-in-Number t c =
    makes PrimaryExpr as_expr c.args.tokens.now c.number.result _ c.number.ensures (λ x h. number_made c.in-Number.ensures h)

pub primary-returns-in-Bracketed : goal.primary-returns-in-Bracketed
primary-returns-in-Bracketed t c =
    answers PrimaryExpr OrExpr as_expr c.args.tokens.now c.in-Bracketed.inner.now c.chain.result c.chain.ensures (λ x d. primary_made c.in-Bracketed.ensures d) (primary_inner c.in-Bracketed.ensures)

pub primary-returns-in_ok-arguments-in-Call : goal.primary-returns-in_ok-arguments-in-Call
primary-returns-in_ok-arguments-in-Call t c =
    makes PrimaryExpr as_expr c.args.tokens.now c.call-in-Call.result _ c.call-in-Call.ensures (λ x h. call_made c.in-Call.ensures c.in_ok-arguments-in-Call.ensures h)

pub primary-returns-in-Other : goal.primary-returns-in-Other
primary-returns-in-Other t c =
    no_primary_shape c.in-Other.ensures

pub arguments-loop-i-init : goal.arguments-loop-i-init
arguments-loop-i-init t c =
    record { remaining = trees_begin Arguments c.args.tokens.now; cuts = c.in_ok-cuts.ensures }

pub arguments-parts_at-requires : goal.arguments-parts_at-requires
arguments-parts_at-requires t c = cut_inside (cuts_pop _ _ c.loop-i.invariant.cuts c.in-Some.ensures.items).last

pub arguments-returns-in_err-part : goal.arguments-returns-in_err-part
arguments-returns-in_err-part t c =
    let p = cuts_pop _ _ c.loop-i.invariant.cuts c.in-Some.ensures.items in
    refuses_at Arguments OrExpr as_exprs as_expr c.args.tokens.now c.parts_at.result.back.now c.in_err-part.field-0.0 c.from_residual-in_err-part.result c.from_residual-in_err-part.ensures.1 c.in_err-part.ensures (λ e d. let x = c.loop-i.invariant.remaining.only e d in rw c.parts_at.ensures.back (cut_right ArgumentLevel p.last x.0 x.1))

pub arguments-loop-i-preserved : goal.arguments-loop-i-preserved
arguments-loop-i-preserved t c =
    let p = cuts_pop _ _ c.loop-i.invariant.cuts c.in-Some.ensures.items in
    let part = rw c.parts_at.ensures.back at c.in_ok-part.ensures in
    rw c.parts_at.ensures.prefix (record {
      remaining = arguments_on c.loop-i.invariant.remaining p.last part c.in_ok-all.ensures;
      cuts = p.others;
    })

pub arguments-returns-in_err-part-2 : goal.arguments-returns-in_err-part-2
arguments-returns-in_err-part-2 t c =
    let free = cuts_none c.loop-i.invariant.cuts (popped_none _ _ _ c.in_default.ensures.cases.0 c.in_default.ensures.items c.in_default.ensures.rest) in
    refuses_at Arguments OrExpr as_exprs as_expr c.args.tokens.now c.loop-i.rest.now c.in_err-part-2.field-0.0 c.from_residual-in_err-part-2.result c.from_residual-in_err-part-2.ensures.1 c.in_err-part-2.ensures (λ e d. let x = c.loop-i.invariant.remaining.only e d in cut_none ArgumentLevel free x.0 x.1)

pub arguments-returns : goal.arguments-returns
arguments-returns t c =
    makes Arguments as_exprs c.args.tokens.now c.more-2.result _ c.more-2.ensures (λ x h. arguments_end c.loop-i.invariant.remaining c.in_ok-part-2.ensures h)

pub predicates-loop-i-init : goal.predicates-loop-i-init
predicates-loop-i-init t c =
    record { remaining = trees_begin Predicates c.args.tokens.now; cuts = c.in_ok-cuts.ensures }

pub predicates-parts_at-requires : goal.predicates-parts_at-requires
predicates-parts_at-requires t c = cut_inside (cuts_pop _ _ c.loop-i.invariant.cuts c.in-Some.ensures.items).last

pub predicates-returns-in_default-unsquared : goal.predicates-returns-in_default-unsquared
predicates-returns-in_default-unsquared t c =
    let p = cuts_pop _ _ c.loop-i.invariant.cuts c.in-Some.ensures.items in
    λ e d. let x = c.loop-i.invariant.remaining.only e d in let q = predicate_parts p.last x.0 x.1 in c.in_default-unsquared.ensures q.inner (c.parts_at.ensures.back ∙ q.whole)

pub predicates-returns-in_err-part : goal.predicates-returns-in_err-part
predicates-returns-in_err-part t c =
    let p = cuts_pop _ _ c.loop-i.invariant.cuts c.in-Some.ensures.items in
    let w = sym c.parts_at.ensures.back ∙ c.in-Some-unsquared.ensures in
    refuses_at Predicates OrExpr as_exprs as_expr c.args.tokens.now c.in-Some-unsquared.inner.now c.in_err-part.field-0.0 c.from_residual-in_err-part.result c.from_residual-in_err-part.ensures.1 c.in_err-part.ensures (λ e d. let x = c.loop-i.invariant.remaining.only e d in predicate_inner p.last w x.0 x.1)

pub predicates-loop-i-preserved : goal.predicates-loop-i-preserved
predicates-loop-i-preserved t c =
    let p = cuts_pop _ _ c.loop-i.invariant.cuts c.in-Some.ensures.items in
    let w = sym c.parts_at.ensures.back ∙ c.in-Some-unsquared.ensures in
    rw c.parts_at.ensures.prefix (record {
      remaining = predicates_on c.loop-i.invariant.remaining p.last w c.in_ok-part.ensures c.in_ok-all.ensures;
      cuts = p.others;
    })

pub predicates-returns-then-is_empty : goal.predicates-returns-then-is_empty
predicates-returns-then-is_empty t c =
    predicates_end c.loop-i.invariant.remaining (empty_list c.loop-i.rest.now c.is_empty.ensures c.if-is_empty.true)

pub predicates-returns : goal.predicates-returns
predicates-returns t c =
    let free = cuts_none c.loop-i.invariant.cuts (popped_none _ _ _ c.in_default.ensures.cases.0 c.in_default.ensures.items c.in_default.ensures.rest) in
    λ e d. let x = c.loop-i.invariant.remaining.only e d in no_predicate (some_list c.loop-i.rest.now c.is_empty.ensures c.if-is_empty.false) free x.0 x.1

pub relative-loop-i-init : goal.relative-loop-i-init
relative-loop-i-init t c =
    record { remaining = walks_begin c.args.tokens.now; cuts = c.in_ok-cuts.ensures }

pub relative-parts_at-requires : goal.relative-parts_at-requires
relative-parts_at-requires t c = cut_inside (cuts_pop _ _ c.loop-i.invariant.cuts c.in-Some.ensures.items).last

pub relative-returns-in_err-part : goal.relative-returns-in_err-part
relative-returns-in_err-part t c =
    let p = cuts_pop _ _ c.loop-i.invariant.cuts c.in-Some.ensures.items in
    refuses_at RelativeLocationPath StepPart as_walk as_step c.args.tokens.now c.parts_at.result.back.now c.in_err-part.field-0.0 c.from_residual-in_err-part.result c.from_residual-in_err-part.ensures.1 c.in_err-part.ensures (λ e d. let x = c.loop-i.invariant.remaining.only e d in rw c.parts_at.ensures.back (cut_right RelativeLevel p.last x.0 x.1))

pub relative-loop-i-preserved : goal.relative-loop-i-preserved
relative-loop-i-preserved t c =
    let p = cuts_pop _ _ c.loop-i.invariant.cuts c.in-Some.ensures.items in
    let part = rw c.parts_at.ensures.back at c.in_ok-part.ensures in
    rw c.parts_at.ensures.prefix (record {
      remaining = relative_on c.parts_at.result.token.now c.loop-i.invariant.remaining p.last c.parts_at.ensures.token part c.in_ok-after.ensures c.in_ok-all.ensures;
      cuts = p.others;
    })

pub relative-returns-in_err-part-2 : goal.relative-returns-in_err-part-2
relative-returns-in_err-part-2 t c =
    let free = cuts_none c.loop-i.invariant.cuts (popped_none _ _ _ c.in_default.ensures.cases.0 c.in_default.ensures.items c.in_default.ensures.rest) in
    refuses_at RelativeLocationPath StepPart as_walk as_step c.args.tokens.now c.loop-i.rest.now c.in_err-part-2.field-0.0 c.from_residual-in_err-part-2.result c.from_residual-in_err-part-2.ensures.1 c.in_err-part-2.ensures (λ e d. let x = c.loop-i.invariant.remaining.only e d in cut_none RelativeLevel free x.0 x.1)

pub relative-returns : goal.relative-returns
relative-returns t c =
    makes RelativeLocationPath as_walk c.args.tokens.now c.step_more-2.result _ c.step_more-2.ensures (λ x h. relative_end c.loop-i.invariant.remaining c.in_ok-part-2.ensures h)

pub step-returns-in-Some : goal.step-returns-in-Some
step-returns-in-Some t c = dot_made c.args.tokens.now c.in-Some.axis (sym c.dot_axis.ensures ∙ c.in-Some.is)

pub step-returns-in_err-test : goal.step-returns-in_err-test
step-returns-in_err-test t c =
    step_refused_at c.args.tokens.now c.in_err-test.field-0.0 c.from_residual.result (sym c.dot_axis.ensures ∙ c.in_default.is) c.from_residual.ensures.1 (subst (λ z. IsStepTest z (Err c.in_err-test.field-0.0)) c.axis_part-axis.ensures.rest c.in_err-test.ensures)

pub step-returns-in_err-predicates : goal.step-returns-in_err-predicates
step-returns-in_err-predicates t c =
    let after = c.after_test.ensures.rest ∙ ap after_test c.axis_part-axis.ensures.rest in
    refuses_at StepPart Predicates as_step as_exprs c.args.tokens.now c.after_test.result.now c.in_err-predicates.field-0.0 c.from_residual-in_err-predicates.result c.from_residual-in_err-predicates.ensures.1 c.in_err-predicates.ensures (λ e d. rw after (step_rest (sym c.dot_axis.ensures ∙ c.in_default.is) e d))

pub step-returns : goal.step-returns
step-returns t c =
    let after = c.after_test.ensures.rest ∙ ap after_test c.axis_part-axis.ensures.rest in
    let is_test = subst (λ z. test_of z ≡ Some c.in_ok-test.test) c.axis_part-axis.ensures.rest c.in_ok-test.ensures in
    let part = subst (λ z. Derives Predicates z (exprs (trees_of c.in_ok-predicates.predicates))) after c.in_ok-predicates.ensures in
    rw c.axis_part-axis.ensures.axis (step_made c.args.tokens.now is_test part)

pub chain-loop-i-init : goal.chain-loop-i-init
chain-loop-i-init t c =
    record {
      remaining = subst (λ z. Remaining (symbol (form c.args.level)) expr (λ a. applied a z) c.args.tokens.now c.args.tokens.now) (sym c.new-after.ensures.items) (chain_begin (symbol (form c.args.level)) c.args.tokens.now);
      binary = subst AreBinary (sym c.new-after.ensures.items) tt;
      cuts = rw (← c.rank.ensures) c.in_ok-cuts.ensures;
    }

pub chain-parts_at-requires : goal.chain-parts_at-requires
chain-parts_at-requires t c = cut_inside (cuts_pop _ _ c.loop-i.invariant.cuts c.in-Some.ensures.items).last

pub chain-loop-i-preserved : goal.chain-loop-i-preserved
chain-loop-i-preserved t c =
    let p = cuts_pop _ _ c.loop-i.invariant.cuts c.in-Some.ensures.items in
    let part = rw c.parts_at.ensures.back at c.in_ok-part.ensures in
    let items = c.in_ok-push.ensures.items in
    rw c.parts_at.ensures.prefix (record {
      remaining = subst (λ z. Remaining (symbol (form c.args.level)) expr (λ a. applied a z) c.args.tokens.now (take c.in-Some.i c.loop-i.rest.now)) (sym items) (chain_on c.args.level c.loop-i.after.items _ c.loop-i.invariant.remaining p.last c.parts_at.ensures.token part);
      binary = subst AreBinary (sym items) (AreBinary-push _ _ c.loop-i.invariant.binary (chain_binary c.args.level _ p.last c.parts_at.ensures.token));
      cuts = p.others;
    })

pub chain-returns-in_err-part : goal.chain-returns-in_err-part
chain-returns-in_err-part t c =
    let p = cuts_pop _ _ c.loop-i.invariant.cuts c.in-Some.ensures.items in
    refuses_at (symbol (form c.args.level)) (operand (form c.args.level)) as_expr as_expr c.args.tokens.now c.parts_at.result.back.now c.in_err-part.field-0.0 c.from_residual-in_err-part.result c.from_residual-in_err-part.ensures.1 c.in_err-part.ensures (λ e d. let x = c.loop-i.invariant.remaining.only e d in rw c.parts_at.ensures.back (cut_right (form c.args.level) p.last x.0 x.1))

pub chain-returns-in_err-first : goal.chain-returns-in_err-first
chain-returns-in_err-first t c =
    let free = cuts_none c.loop-i.invariant.cuts (popped_none _ _ _ c.in_default.ensures.cases.0 c.in_default.ensures.items c.in_default.ensures.rest) in
    refuses_at (symbol (form c.args.level)) (operand (form c.args.level)) as_expr as_expr c.args.tokens.now c.loop-i.rest.now c.in_err-first.field-0.0 c.from_residual-in_err-first.result c.from_residual-in_err-first.ensures.1 c.in_err-first.ensures (λ e d. let x = c.loop-i.invariant.remaining.only e d in cut_none (form c.args.level) free x.0 x.1)

pub chain-returns : goal.chain-returns
chain-returns t c =
    makes (symbol (form c.args.level)) as_expr c.args.tokens.now c.applied.result _ c.applied.ensures (λ x h. subst (λ z. Derives (symbol (form c.args.level)) c.args.tokens.now (expr z)) (sym h) (c.loop-i.invariant.remaining.sound (tree_of c.in_ok-first.first) (binary_one c.args.level c.in_ok-first.ensures)))
