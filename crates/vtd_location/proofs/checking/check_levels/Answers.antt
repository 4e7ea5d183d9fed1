use Rattle.std.proofs.Common.{◌≤◌, ◌∙◌, sym, arith, length}
use Rattle.xml_model.specs.Levels.{levels}
use Rattle.vtd_words.proofs.Shown.{shown_length}
use Rattle.vtd_location.specs.Nav.{levels_in}
use Rattle.vtd_location.proofs.Passing.{compared, same_levels}
use Rattle.vtd_location.proofs.checking.check_levels.Goals as goal

pub returns-in-Some-clause-differ : goal.returns-in-Some-clause-differ
returns-in-Some-clause-differ g c = λ rs s.
    let lists = g.W.Words.lists c.args.words.now in
    let past : length rs ≤ c.loop-at.at = omega (arith, c.loop-at-test.false, c.len-at-end.ensures, shown_length lists.records rs s) in
    sym (compared (levels_in lists) c.loop-at.lanes c.loop-at.at rs (c.loop-at.invariant.each rs s) c.loop-at.invariant.to.last past) ∙ sym c.first_difference.ensures ∙ c.in-Some.is

pub returns-in-None-clause-same : goal.returns-in-None-clause-same
returns-in-None-clause-same g c = λ rs s.
    let lists = g.W.Words.lists c.args.words.now in
    let past : length rs ≤ c.loop-at.at = omega (arith, c.loop-at-test.false, c.len-at-end.ensures, shown_length lists.records rs s) in
    same_levels (levels_in lists) (levels rs)
    (sym (compared (levels_in lists) c.loop-at.lanes c.loop-at.at rs (c.loop-at.invariant.each rs s) c.loop-at.invariant.to.last past) ∙ sym c.first_difference.ensures ∙ c.in-None.is)
