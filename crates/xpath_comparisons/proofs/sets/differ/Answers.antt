use Rattle.std.proofs.Common.{◌∙◌, ap, sym, not}
use Rattle.std.specs.Prelude.{◌&&◌}
use Rattle.std.specs.List.{list_any}
use Rattle.xpath_comparisons.proofs.SetLemmas.{unlike, differ_first, differ_rest}
use Rattle.xpath_comparisons.proofs.sets.differ.Goals as goal

pub returns-then-any_like : goal.returns-then-any_like
returns-then-any_like g c = λ ts us h k.
    c.if-any_like.true
    ∙ differ_first _ _ c.args.nodes.now c.in-Some.rest.now c.in-Some.first.now ts us c.any_like.result c.in-Some.ensures.cases.0 h
    (λ s w. c.any_like.ensures s us w k) c.if-any_like.true

pub returns-then-not-is_empty : goal.returns-then-not-is_empty
returns-then-not-is_empty g c = λ ts us h k.
    differ_rest _ _ c.args.nodes.now c.in-Some.rest.now c.args.others.now c.in-Some.first.now ts us c.any_like.result
    c.any_like-then-not-is_empty.result c.in-Some.ensures.cases.0 h k (λ s w. c.any_like.ensures s us w k) c.if-any_like.false
    (λ s ss w m. c.any_like-then-not-is_empty.ensures s ss w m
    ∙ sym (ap (λ b. not b && list_any (unlike s) ss) (sym c.is_empty.ensures ∙ c.if-not-is_empty.true)))

pub returns-else-not-is_empty : goal.returns-else-not-is_empty
returns-else-not-is_empty g c = λ ts us h k.
    differ_rest _ _ c.args.nodes.now c.in-Some.rest.now c.args.others.now c.in-Some.first.now ts us c.any_like.result
    (not c.is_empty.result) c.in-Some.ensures.cases.0 h k (λ s w. c.any_like.ensures s us w k) c.if-any_like.false
    (λ s ss w m. ap not c.if-not-is_empty.false
    ∙ sym (ap (λ b. not b && list_any (unlike s) ss) (sym c.is_empty.ensures ∙ c.if-not-is_empty.false)))
