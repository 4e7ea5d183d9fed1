use Rattle.std.proofs.Common.{refl}
use Rattle.vtd_script.proofs.ChangeParts.{applied_as, makes_no_file, prepares_apply, stops_apply}
use Rattle.vtd_script.proofs.session.Session.apply.Goals as goal

pub returns-clause-known : goal.returns-clause-known
returns-clause-known c = λ files.
    prepares_apply _ _ files c.in-Ok.built _ c.in-Ok.ensures (applied_as _ _ _ _ _ c.self.view_is c.in-Ok-apply.ensures.applied) refl refl

pub returns-in-Err-clause-known : goal.returns-in-Err-clause-known
returns-in-Err-clause-known c = λ files. stops_apply _ files c.in-Err.stop c.in-Err.ensures

pub returns-in-Err-clause-no_file : goal.returns-in-Err-clause-no_file
returns-in-Err-clause-no_file c = makes_no_file _ c.in-Err.stop c.in-Err.ensures
