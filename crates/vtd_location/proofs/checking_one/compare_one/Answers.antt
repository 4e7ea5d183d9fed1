use Rattle.std.proofs.Common.{◌≤◌, ◌∙◌, arith, length}
use Rattle.vtd_words.proofs.Shown.{shown_length}
use Rattle.vtd_location.specs.ScanningOne.{levels_one_in}
use Rattle.vtd_location.proofs.PassingOne.{compared_one}
use Rattle.vtd_location.proofs.checking_one.compare_one.Goals as goal

pub returns : goal.returns
returns g c = λ rs s.
    let lists = g.W.Words.lists c.args.words.now in
    let past : length rs ≤ c.loop-at.at = omega (arith, c.loop-at-test.false, c.len-at-end.ensures, shown_length lists.records rs s) in
    c.first_difference_one.ensures
    ∙ compared_one (levels_one_in (g.V.Words.lists c.args.stored.now)) c.loop-at.lanes c.loop-at.at rs (c.loop-at.invariant.each rs s) c.loop-at.invariant.to.last past
