use Rattle.vtd_script.proofs.RunLaws.{exact}
use Rattle.vtd_script.proofs.laws.exact.Goals as goal

pub returns : goal.returns
returns c = λ pb p ob o keep s lines end out files np no e. exact _ _ keep s lines end out files np no e
