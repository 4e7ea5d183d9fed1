use Rattle.std.proofs.Common.{◌≡◌}
use Rattle.xpath_values.specs.Values.{number_of}
use Rattle.xpath_meaning.proofs.Nodes.{has_nodes_in, meant_in}
use Rattle.xpath_meaning.proofs.NumberLemmas.{number_fits}
use Rattle.xpath_meaning.proofs.operators.to_number.Goals as goal

pub number_of-requires : goal.number_of-requires
number_of-requires g c = has_nodes_in _ _ _ _ c.table_of.ensures.bytes c.table_of.ensures.lists c.table_of.ensures.nav c.requires

pub returns-clause-number : goal.returns-clause-number
returns-clause-number g c = meant_in _ _ _ _ (λ v. c.number_of.result ≡ number_of v) c.table_of.ensures.bytes c.table_of.ensures.lists c.number_of.ensures

pub returns-clause-fits : goal.returns-clause-fits
returns-clause-fits g c = number_fits _ _ _ c.table_of.ensures.nav c.requires (meant_in _ _ _ _ (λ v. c.number_of.result ≡ number_of v) c.table_of.ensures.bytes c.table_of.ensures.lists c.number_of.ensures)
