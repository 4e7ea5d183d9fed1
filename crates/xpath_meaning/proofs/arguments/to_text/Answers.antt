use Rattle.std.proofs.Common.{◌≡◌}
use Rattle.xpath_values.specs.Values.{string_of}
use Rattle.xpath_meaning.proofs.Nodes.{has_nodes_in, meant_in}
use Rattle.xpath_meaning.proofs.arguments.to_text.Goals as goal

pub string_of-requires : goal.string_of-requires
string_of-requires g c = has_nodes_in _ _ _ _ c.table_of.ensures.bytes c.table_of.ensures.lists c.table_of.ensures.nav c.requires

pub returns-in-Ok-clause-text : goal.returns-in-Ok-clause-text
returns-in-Ok-clause-text g c = meant_in _ _ _ _ (λ v. c.in-Ok.text ≡ string_of v) c.table_of.ensures.bytes c.table_of.ensures.lists c.in-Ok.ensures
