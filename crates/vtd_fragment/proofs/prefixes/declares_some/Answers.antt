use Rattle.std.proofs.Common.{◌+◌, arith}
use Rattle.vtd_fragment.proofs.PrefixLemmas.{none_plain, next_plain, all_plain}
use Rattle.vtd_fragment.proofs.prefixes.declares_some.Goals as goal

pub loop-parts-init : goal.loop-parts-init
loop-parts-init g c = record { room = omega arith; bound = omega arith; plain = λ rs s bytes at t hold. none_plain bytes rs (c.args.tag + 1) at t hold }

pub loop-parts-preserved : goal.loop-parts-preserved
loop-parts-preserved g c = record {
  room = omega (arith, c.in-Some.ensures.room);
  bound = omega (arith, c.in-Some.ensures.bound);
  plain = λ rs s bytes at t hold.
      next_plain bytes rs (c.args.tag + 1) c.loop-parts.number t c.in-Some.parts (c.loop-parts.invariant.plain rs s bytes at t hold) (c.in-Some.ensures.some rs s) c.in-Some.ensures.kind c.if-parts.false;
}

pub returns : goal.returns
returns g c = λ no rs s bytes at t hold p. all_plain bytes rs (c.args.tag + 1) c.loop-parts.number t (c.loop-parts.invariant.plain rs s bytes at t hold) (c.in_default.ensures.none rs s) p
