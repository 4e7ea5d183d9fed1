use Rattle.std.proofs.Common.{ap}
use Rattle.xpath_sweeps.proofs.Unions.{finds_none, finds_union}
use Rattle.xpath_sweeps.proofs.sweeping.step_all.Goals as goal

pub returns-in-Known-clause-found : goal.returns-in-Known-clause-found
returns-in-Known-clause-found g c =
    finds_union _ c.args.nodes.now _ c.in-Known.axis c.args.test.now _ _ _ c.in-Known.is c.resolved-test.ensures (ap (λ s. s.bindings) c.scope.view_is) c.union_along.ensures.found c.union_along.ensures.full

pub returns-in-Namespace-clause-found : goal.returns-in-Namespace-clause-found
returns-in-Namespace-clause-found g c = finds_none _ c.args.nodes.now _ c.args.test.now _ c.in-Namespace.is c.no_nodes.ensures.none
