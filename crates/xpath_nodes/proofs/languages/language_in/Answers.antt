use Rattle.std.proofs.Common.{◌∙◌, sym, arith}
use Rattle.xpath_nodes.proofs.LanguageLemmas.{none_sought, all_sought, next_sought}
use Rattle.xpath_nodes.proofs.languages.language_in.Goals as goal

pub loop-parts-init : goal.loop-parts-init
loop-parts-init g c = record { room = omega arith; bound = omega arith; sought = λ rs s at t hold. none_sought c.args.bytes.now rs c.args.first at t hold }

pub returns-then-eq : goal.returns-then-eq
returns-then-eq g c = λ rs s at t hold.
    (next_sought c.args.bytes.now rs c.args.first c.loop-parts.number t c.in-Some.parts c.slice_of.result.now (c.loop-parts.invariant.sought rs s at t hold)
    (c.in-Some.ensures.some rs s) c.in-Some.ensures.kind c.slice_of.ensures).hit
    (sym c.eq.ensures ∙ c.if-eq.true)

pub loop-parts-preserved : goal.loop-parts-preserved
loop-parts-preserved g c = record {
  room = omega (arith, c.in-Some.ensures.room);
  bound = omega (arith, c.in-Some.ensures.bound);
  sought = λ rs s at t hold.
      (next_sought c.args.bytes.now rs c.args.first c.loop-parts.number t c.in-Some.parts c.slice_of.result.now (c.loop-parts.invariant.sought rs s at t hold)
      (c.in-Some.ensures.some rs s) c.in-Some.ensures.kind c.slice_of.ensures).miss
      (sym c.eq.ensures ∙ c.if-eq.false);
}

pub returns : goal.returns
returns g c = λ rs s at t hold. all_sought c.args.bytes.now rs c.args.first c.loop-parts.number t (c.loop-parts.invariant.sought rs s at t hold)
    (c.in_default.ensures.none rs s)
