use Rattle.std.proofs.Common.{sym}
use Rattle.xpath_meaning.specs.Context.{nodes_in}
use Rattle.xpath_meaning.specs.Scope.{AreNodes}
use Rattle.xpath_meaning.proofs.ArgumentLemmas.{argument_of, at_argument}
use Rattle.xpath_meaning.proofs.arguments.nodes_at.Goals as goal

pub nodes_among-requires : goal.nodes_among-requires
nodes_among-requires g c = argument_of _ _ _ _ c.requires (sym c.in-Some.ensures)

pub returns-in-Some-clause-nodes : goal.returns-in-Some-clause-nodes
returns-in-Some-clause-nodes g c = λ d vs a. at_argument d _ vs _ _ (λ v. AreNodes d c.nodes_among.result.now (nodes_in v)) a (sym c.in-Some.ensures) (λ v h. c.nodes_among.ensures.nodes d v h)
