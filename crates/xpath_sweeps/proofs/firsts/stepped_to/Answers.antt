use Rattle.std.proofs.Common.{ap}
use Rattle.xpath_sweeps.proofs.Ones.{first_known, first_none}
use Rattle.xpath_sweeps.proofs.firsts.stepped_to.Goals as goal

pub returns-in-Known-clause-found : goal.returns-in-Known-clause-found
returns-in-Known-clause-found g c =
    first_known _ c.args.place.node _ c.in-Known.axis c.args.test.now _ _ c.args.first _ c.in-Known.is c.resolved-test.ensures (ap (λ s. s.bindings) c.scope.view_is) c.if-not-first.false c.first_on.ensures.found

pub returns-in-Namespace-clause-found : goal.returns-in-Namespace-clause-found
returns-in-Namespace-clause-found g c = first_none _ c.args.place.node _ c.args.test.now c.args.first _ c.in-Namespace.is c.no_nodes.ensures.none c.if-not-first.false
