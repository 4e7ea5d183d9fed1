use Rattle.vtd_script.proofs.StepLaws.{some_step, kept_step}
use Rattle.vtd_script.proofs.laws.some_step.Goals as goal

pub returns : goal.returns
returns c = λ s line w. let a = some_step s line w in (a.0, a.1, kept_step s line a.0 a.1 w)
