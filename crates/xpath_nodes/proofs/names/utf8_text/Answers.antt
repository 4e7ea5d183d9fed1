use Rattle.xpath_nodes.proofs.NameLemmas.{decoded}
use Rattle.xpath_nodes.proofs.names.utf8_text.Goals as goal

pub returns-in-Ok : goal.returns-in-Ok
returns-in-Ok c = decoded c.made.result c.in-Ok.piece.now c.args.bytes.now c.in-Ok.ensures.cases.0 c.in-Ok.ensures.cases.1 c.made.ensures
