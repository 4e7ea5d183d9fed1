use Rattle.std.proofs.Common.{◌∙◌, ap, arith, ◌+◌, length}
use Rattle.vtd_text.specs.Joined.{slice_of}
use Rattle.vtd_namespaces.proofs.RoundLemmas.{names_sorted, least_more, none_below}
use Rattle.vtd_namespaces.proofs.many_names.first_in_round.Goals as goal

pub loop-number-preserved : goal.loop-number-preserved
loop-number-preserved g c = record {
  below = omega (arith, c.lesser-least.ensures.below, c.loop-number.invariant.below);
  least = λ rs s.
      least_more c.args.bytes.now rs c.args.first c.args.start (c.args.start + length c.sort_unstable.new.self) c.loop-number.number c.loop-number.least c.lesser-least.result c.sort_unstable.new.self c.first_named.result c.slice_of-name.result.now
      (c.slice_of-name.ensures ∙ ap (slice_of c.args.bytes.now) (c.parts_at.ensures.parts rs s))
      (names_sorted c.args.bytes.now rs c.args.first c.args.start c.args.round.now c.sort_unstable.new.self c.sort_unstable.ensures.permutation c.sort_unstable.ensures.len (c.requires.names rs s))
      c.first_named.ensures.found c.first_named.ensures.least
      (record { below = c.lesser-least.ensures.below; later = c.lesser-least.ensures.later; earlier = c.lesser-least.ensures.earlier; from = c.lesser-least.ensures.from })
      c.loop-number-test.true (c.loop-number.invariant.least rs s);
}

pub returns-clause-none : goal.returns-clause-none
returns-clause-none g c = λ rs s n a b.
    none_below c.args.bytes.now rs c.args.first c.args.start (c.args.start + length c.sort_unstable.new.self) c.loop-number.number c.loop-number.least (c.loop-number.invariant.least rs s) (omega (arith, c.loop-number-test.false)) c.loop-number.invariant.below n a b
