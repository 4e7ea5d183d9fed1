use Rattle.std.proofs.Common.{◌∙◌, sym, arith}
use Rattle.vtd_namespaces.proofs.RepeatLemmas.{none_passed, all_passed, next_name}
use Rattle.vtd_namespaces.proofs.repeats.repeat_in.Goals as goal

pub loop-parts-init : goal.loop-parts-init
loop-parts-init g c = record { room = omega arith; bound = omega arith; passed = λ rs s at others hold. none_passed c.args.bytes.now rs c.args.first at others hold }

pub returns-then-is_among : goal.returns-then-is_among
returns-then-is_among g c = λ rs s at others hold.
    (next_name c.args.bytes.now rs c.args.first c.loop-parts.earlier at others c.in-Some.parts c.slice_of.result.now (c.loop-parts.invariant.passed rs s at others hold) (c.in-Some.ensures.some rs s) c.in-Some.ensures.kind c.slice_of.ensures).hit
    (sym (c.is_among.ensures rs s) ∙ c.if-is_among.true)

pub loop-parts-preserved : goal.loop-parts-preserved
loop-parts-preserved g c = record {
  room = omega (arith, c.in-Some.ensures.room);
  bound = omega (arith, c.in-Some.ensures.bound);
  passed = λ rs s at others hold.
      (next_name c.args.bytes.now rs c.args.first c.loop-parts.earlier at others c.in-Some.parts c.slice_of.result.now (c.loop-parts.invariant.passed rs s at others hold) (c.in-Some.ensures.some rs s) c.in-Some.ensures.kind c.slice_of.ensures).miss
      (sym (c.is_among.ensures rs s) ∙ c.if-is_among.false);
}

pub returns : goal.returns
returns g c = λ rs s at others hold. all_passed c.args.bytes.now rs c.args.first c.loop-parts.earlier at others (c.loop-parts.invariant.passed rs s at others hold) (c.in_default.ensures.none rs s)
