use Rattle.std.proofs.Common.{ap}
use Rattle.xpath_nodes.proofs.StepFacts.{stepped_known, stepped_none}
use Rattle.xpath_nodes.proofs.walker.stepped.Goals as goal

pub returns-in-Known-clause-found : goal.returns-in-Known-clause-found
returns-in-Known-clause-found g c =
    stepped_known _ c.args.place.node _ c.in-Known.axis c.args.test.now _ _ _ c.in-Known.is c.resolved.ensures (ap (λ s. s.bindings) c.scope.view_is) c.on_axis.ensures.found

pub returns-in-Namespace-clause-found : goal.returns-in-Namespace-clause-found
returns-in-Namespace-clause-found g c = stepped_none _ c.args.place.node _ c.args.test.now _ c.in-Namespace.is c.no_nodes.ensures.none
