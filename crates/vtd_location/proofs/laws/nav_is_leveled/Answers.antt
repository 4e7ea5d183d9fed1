use Rattle.vtd_location.proofs.NavLaws.{is_leveled}
use Rattle.vtd_location.proofs.laws.nav_is_leveled.Goals as goal

pub returns : goal.returns
returns c = is_leveled
