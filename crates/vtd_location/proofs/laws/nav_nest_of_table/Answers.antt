use Rattle.vtd_location.proofs.NavLaws.{nest_of_table}
use Rattle.vtd_location.proofs.laws.nav_nest_of_table.Goals as goal

pub returns : goal.returns
returns c = nest_of_table
