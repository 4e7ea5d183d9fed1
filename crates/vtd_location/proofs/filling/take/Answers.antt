use Rattle.std.proofs.Common.{◌≡◌, ◌==◌, false, arith}
use Rattle.std.proofs.lemmas.Bool.Decides.{nat_tests}
use Rattle.vtd_location.proofs.FillLemmas.{settles_now, filled_to_tag, filled_to_other}
use Rattle.vtd_location.proofs.filling.take.Goals as goal

pub returns-then-parts-ne-START_TAG : goal.returns-then-parts-ne-START_TAG
returns-then-parts-ne-START_TAG c =
    let f : (c.args.parts.token == 0) ≡ false = grind (arith, nat_tests) in
    filled_to_other _ _ _ _ c.args.parts c.requires.within c.requires.parts f c.requires.so_far

pub settle-requires : goal.settle-requires
settle-requires c = settles_now _ _ _ _ (omega arith) c.requires.so_far

pub returns : goal.returns
returns c = filled_to_tag _ _ _ _ _ _ c.args.parts c.requires.within c.requires.parts (omega arith) c.waiting_at.ensures c.settle.ensures.lists c.settle.ensures.room c.requires.so_far
