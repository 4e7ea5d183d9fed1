use Rattle.xpath_meaning.proofs.Nodes.{node_known}
use Rattle.xpath_calls.proofs.nodes.here.Goals as goal

pub returns-clause-known : goal.returns-clause-known
returns-clause-known g c = node_known c.args.scope.now c.args.place c.table_of-table.ensures.nav c.requires
