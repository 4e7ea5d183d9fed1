use Rattle.std.proofs.Common.{◌∙◌, sym, refl, subst, arith, ◌+◌, ◌<◌, drop, length-append}
use Rattle.std.proofs.lemmas.List.{get_or-take, length-take, length-drop}
use Rattle.vtd_namespaces.specs.Rounds.{IsNumbered}
use Rattle.vtd_namespaces.proofs.RepeatLemmas.{none_passed, all_passed}
use Rattle.vtd_namespaces.proofs.RoundLemmas.{repeat_there, all_of_round}
use Rattle.vtd_namespaces.proofs.many_names.repeat_by_rounds.Goals as goal

pub loop-first-init : goal.loop-first-init
loop-first-init g c = record {
  len = refl;
  room = omega (arith, c.requires.first);
  bound = omega (arith, c.ranges.first.fits);
  passed = λ rs s at others hold. none_passed c.args.bytes.now rs c.args.first at others hold;
}

pub first_in_round-least-requires-clause-names : goal.first_in_round-least-requires-clause-names
first_in_round-least-requires-clause-names g c = λ rs s k d l.
    let w : k < c.gather-count.result = omega (arith, l, length-take c.gather-count.result c.gather-count.new.round) in
    subst (IsNumbered c.args.bytes.now rs c.args.first (c.loop-first.start + k)) (sym (get_or-take c.gather-count.result c.gather-count.new.round k d w)) (c.gather-count.ensures.names rs s k d w)

pub returns-then-least-end : goal.returns-then-least-end
returns-then-least-end g c = λ rs s at others hold.
    repeat_there c.args.bytes.now rs c.args.first c.loop-first.start c.first_in_round-least.result at others c.parts_at.result (c.loop-first.invariant.passed rs s at others hold) (c.first_in_round-least.ensures.here rs s)
    (λ m a b. c.gather-count.ensures.kind rs s m a (omega (arith, b, c.if-least-end.true))) (c.first_in_round-least.ensures.none rs s)
    (c.first_in_round-least.ensures.some rs s (omega (arith, c.if-least-end.true, length-take c.gather-count.result c.gather-count.new.round, c.gather-count.ensures.within, c.gather-count.ensures.len))) (c.parts_at.ensures.parts rs s)

pub returns-then-count-round : goal.returns-then-count-round
returns-then-count-round g c = λ rs s at others hold.
    let end = c.loop-first.start + c.gather-count.result in
    all_passed c.args.bytes.now rs c.args.first end at others
    (all_of_round c.args.bytes.now rs c.args.first c.loop-first.start end c.first_in_round-least.result at others (c.loop-first.invariant.passed rs s at others hold) (omega arith) (omega (arith, c.if-least-end.false)) (c.gather-count.ensures.kind rs s) (c.first_in_round-least.ensures.none rs s))
    (c.gather-count.ensures.end rs s (omega (arith, c.if-count-round.true)))

pub loop-first-preserved : goal.loop-first-preserved
loop-first-preserved g c = record {
  len = length-append c.first_in_round-least.new.round (drop c.gather-count.result c.gather-count.new.round) ∙ omega (arith, c.first_in_round-least.ensures.len, length-take c.gather-count.result c.gather-count.new.round, length-drop c.gather-count.result c.gather-count.new.round, c.gather-count.ensures.within, c.gather-count.ensures.len, c.loop-first.invariant.len);
  room = c.gather-count.ensures.room;
  bound = c.gather-count.ensures.bound;
  passed = λ rs s at others hold.
      let end = c.loop-first.start + c.gather-count.result in
      all_of_round c.args.bytes.now rs c.args.first c.loop-first.start end c.first_in_round-least.result at others (c.loop-first.invariant.passed rs s at others hold) (omega arith) (omega (arith, c.if-least-end.false)) (c.gather-count.ensures.kind rs s) (c.first_in_round-least.ensures.none rs s);
}
