use Rattle.std.proofs.Common.{◌+◌, arith}
use Rattle.std.specs.Prelude.{option_map}
use Rattle.vtd_fragment.specs.Prefixes.{raised}
use Rattle.vtd_fragment.proofs.PrefixLemmas.{none_along, next_along, all_along, raised_twice}
use Rattle.vtd_fragment.proofs.prefixes.hide.Goals as goal

pub loop-parts-init : goal.loop-parts-init
loop-parts-init g c = record {
  room = omega arith;
  bound = omega arith;
  along = λ rs s at t hold. none_along (option_map (raised c.args.past)) c.args.prefixes.now c.args.bytes.now rs (c.args.tag + 1) at t hold;
}

pub loop-parts-preserved : goal.loop-parts-preserved
loop-parts-preserved g c = record {
  room = omega (arith, c.in-Some.ensures.room);
  bound = omega (arith, c.in-Some.ensures.bound);
  along = λ rs s at t hold.
      next_along (option_map (raised c.args.past)) (raised_twice c.args.past) c.args.prefixes.now c.loop-parts.prefixes c.hide_name.new.prefixes c.args.bytes.now rs (c.args.tag + 1) c.loop-parts.number t c.in-Some.parts c.slice_of.result.now
      (c.loop-parts.invariant.along rs s at t hold) (c.in-Some.ensures.some rs s) c.in-Some.ensures.kind c.slice_of.ensures c.in_ok-hide_name.ensures;
}

pub returns : goal.returns
returns g c = λ rs s at t hold p.
    all_along (option_map (raised c.args.past)) c.args.prefixes.now c.loop-parts.prefixes c.args.bytes.now rs (c.args.tag + 1) c.loop-parts.number t (c.loop-parts.invariant.along rs s at t hold) (c.in_default.ensures.none rs s) p
