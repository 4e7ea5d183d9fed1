use Rattle.vtd_location.proofs.NavLaws.{is_table}
use Rattle.vtd_location.proofs.laws.nav_is_table.Goals as goal

pub returns : goal.returns
returns c = is_table
