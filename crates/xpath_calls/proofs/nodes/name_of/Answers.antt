use Rattle.std.proofs.Common.{◌≡◌}
use Rattle.xpath_meaning.specs.Functions.{whole_name}
use Rattle.xpath_meaning.proofs.Nodes.{entry_in}
use Rattle.xpath_calls.proofs.nodes.name_of.Goals as goal

pub returns-in-Ok-clause-text : goal.returns-in-Ok-clause-text
returns-in-Ok-clause-text g c = entry_in _ _ _ c.args.node (λ e. c.in-Ok.text ≡ whole_name e) c.table_of.ensures.bytes c.table_of.ensures.lists c.in-Ok.ensures
