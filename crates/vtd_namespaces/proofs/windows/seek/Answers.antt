use Rattle.std.proofs.Common.{◌∙◌, refl, arith, length-set}
use Rattle.vtd_namespaces.proofs.WindowLemmas.{names_found, others_left, names_there, names_kept}
use Rattle.vtd_namespaces.proofs.windows.seek.Goals as goal

pub loop-number-preserved : goal.loop-number-preserved
loop-number-preserved g c = record {
  len = length-set c.loop-number.found c.loop-number.number c.found_in.result ∙ c.loop-number.invariant.len;
  found = λ rs s.
      names_found c.args.bytes.now rs c.args.at c.loop-number.number c.args.round.now c.sort_unstable.new.self c.args.found.now c.loop-number.found _ c.found_in.result _ c.sort_unstable.ensures.permutation (omega (arith, c.loop-number-test.true, c.loop-number.invariant.len)) (c.parts_at-parts.ensures.parts rs s) refl
      c.found_in.ensures.found c.loop-number.invariant.left (c.loop-number.invariant.found rs s);
  left = others_left c.loop-number.number c.args.found.now c.loop-number.found c.found_in.result c.loop-number.invariant.left;
  there = names_there c.loop-number.number c.args.round.now c.sort_unstable.new.self c.args.found.now c.loop-number.found _ c.found_in.result c.sort_unstable.ensures.permutation (omega (arith, c.loop-number-test.true, c.loop-number.invariant.len)) refl c.found_in.ensures.there c.loop-number.invariant.left c.loop-number.invariant.there;
  kept = names_kept c.loop-number.number c.args.found.now c.loop-number.found _ c.found_in.result (omega (arith, c.loop-number-test.true, c.loop-number.invariant.len)) refl c.found_in.ensures.kept c.loop-number.invariant.left c.loop-number.invariant.kept;
}
