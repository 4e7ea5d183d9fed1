use Rattle.std.proofs.Common.{◌∙◌, ap, sym}
use Rattle.xml_model.specs.Levels.{levels_one}
use Rattle.vtd_words.specs.Lists.{Lists}
use Rattle.vtd_location.specs.Differences.{differ_levels_one, levels_one_of}
use Rattle.vtd_location.specs.ScanningOne.{levels_one_in}
use Rattle.vtd_location.proofs.PassingOne.{same_levels_one}
use Rattle.vtd_location.proofs.checking_one.check_levels_one.Goals as goal

pub returns-in-None-clause-same : goal.returns-in-None-clause-same
returns-in-None-clause-same g c = λ rs s.
    let stored = ap (λ (x : Lists). differ_levels_one (levels_one_in x) (levels_one rs)) c.in-Some.ensures.lists in
    same_levels_one (levels_one_of c.args.level1.now c.args.level2.now c.args.level3.now) (levels_one rs) (sym (c.in-None.ensures rs s ∙ stored))
