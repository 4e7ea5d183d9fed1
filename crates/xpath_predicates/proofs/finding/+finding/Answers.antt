use Rattle.std.proofs.Common.{◌∙◌, ap, sym}
use Rattle.xpath_axes.specs.Iters.{to_come}
use Rattle.xpath_axes.specs.Tests.{node_test}
use Rattle.xpath_grammar.specs.Tree.{walk_of}
use Rattle.xpath_meaning.specs.Context.{on_axis}
use Rattle.xpath_predicates.specs.Asks.{any_found}
use Rattle.xpath_predicates.proofs.Found.{along, asking_found, begins, ends, goes_on}
use Rattle.xpath_predicates.proofs.finding.+finding.Goals as goal

pub any_along-loop-next-init : goal.any_along-loop-next-init
any_along-loop-next-init g t c = record {
  bytes = c.axis_iter_by-left.ensures.bytes;
  words = c.axis_iter_by-left.ensures.words;
  names = c.axis_iter_by-left.ensures.names;
  so_far = λ nest h d e1 e2 e k.
      begins c.args.asked.now (any_found (walk_of c.args.rest.now) d) c.args.axis (node_test c.args.test.now) e d.document _ _ e1
      (c.axis_iter_by-left.ensures.axis nest h e (rw (sym e1) k));
}

pub any_along-loop-next-preserved : goal.any_along-loop-next-preserved
any_along-loop-next-preserved g t c = record {
  bytes = c.next_by.ensures.bytes ∙ c.loop-next.invariant.bytes;
  words = c.next_by.ensures.words ∙ c.loop-next.invariant.words;
  names = c.any_found.ensures.names;
  so_far = λ nest h d e1 e2 e k.
      goes_on c.args.asked.now (any_found (walk_of c.args.rest.now) d) c.args.axis (node_test c.args.test.now) e d.document c.in-Some.next _ _ _ _ c.in_ok-any_found.field-0 _
      (c.loop-next.invariant.so_far nest h d e1 e2 e k) (c.next_by.ensures.left nest (rw (c.loop-next.invariant.bytes, c.loop-next.invariant.words) h)) c.in-Some.is
      (λ x m. c.in_ok-any_found.ensures.decides nest h d e1 e2 x m) c.either-found.ensures;
}

pub any_along-returns-then-found-clause-decides : goal.any_along-returns-then-found-clause-decides
any_along-returns-then-found-clause-decides g t c = λ nest h d e1 e2 e k.
    asking_found c.args.asked.now (walk_of c.args.rest.now) d (on_axis c.args.axis (node_test c.args.test.now) e d.document) _ _
    (goes_on c.args.asked.now (any_found (walk_of c.args.rest.now) d) c.args.axis (node_test c.args.test.now) e d.document c.in-Some.next _ (to_come c.next_by.new.self nest) _ _ c.in_ok-any_found.field-0 c.either-found.result
    (c.loop-next.invariant.so_far nest h d e1 e2 e k) (c.next_by.ensures.left nest (rw (c.loop-next.invariant.bytes, c.loop-next.invariant.words) h)) c.in-Some.is
    (λ x m. c.in_ok-any_found.ensures.decides nest h d e1 e2 x m) c.either-found.ensures)
    c.if-found.true (sym c.is_sure-sure.ensures ∙ c.if-sure.true)

pub any_along-returns-clause-decides : goal.any_along-returns-clause-decides
any_along-returns-clause-decides g t c = λ nest h d e1 e2 e k.
    ends c.args.asked.now (any_found (walk_of c.args.rest.now) d) c.args.axis (node_test c.args.test.now) e d.document _ _ _ _
    (c.loop-next.invariant.so_far nest h d e1 e2 e k) (c.next_by.ensures.left nest (rw (c.loop-next.invariant.bytes, c.loop-next.invariant.words) h)) c.in_default.is
    (c.in_default.ensures.end nest (rw (c.loop-next.invariant.bytes, c.loop-next.invariant.words) h))

pub any_found-returns-in-Known-clause-decides : goal.any_found-returns-in-Known-clause-decides
any_found-returns-in-Known-clause-decides g t c =
    along _ _ _ c.args.node c.args.asked.now _ (walk_of c.args.steps.now) _ _ _ _ c.in-Known.axis _ _ _ (node_test c.resolved-test.result)
    (ap walk_of c.in-More.is) (ap (λ x. x.axis) c.deref.ensures) c.in-Known.is (ap (λ x. x.test) c.deref-in-Known.ensures) c.resolved-test.ensures (ap walk_of c.deref-in-Known-2.ensures) c.any_along.ensures.decides
