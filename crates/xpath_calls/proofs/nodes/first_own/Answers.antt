use Rattle.std.proofs.Common.{sym}
use Rattle.xpath_meaning.specs.Context.{nodes_in}
use Rattle.xpath_calls.specs.Firsts.{IsFirst}
use Rattle.xpath_calls.proofs.FirstLemmas.{first_some, first_none, own_first}
use Rattle.xpath_calls.proofs.OwnLemmas.{at_context}
use Rattle.xpath_calls.proofs.nodes.first_own.Goals as goal

pub returns-in-None-clause-some : goal.returns-in-None-clause-some
returns-in-None-clause-some g c = λ d h vs a. at_context d c.args.arguments.now vs (λ v. IsFirst d.document c.here.result (nodes_in v)) (sym
    c.in-None.ensures) a
    (own_first c.args.scope.now c.args.place c.args.arguments.now c.here.result c.here.ensures.node d h)

pub returns-in-Some-clause-none : goal.returns-in-Some-clause-none
returns-in-Some-clause-none g c = first_none c.args.scope.now c.args.place c.args.arguments.now _ c.nodes_at.result.now _ (sym c.in-Some.ensures)
    c.nodes_at.ensures.nodes c.first_of.ensures.none

pub returns-in-Some-clause-some : goal.returns-in-Some-clause-some
returns-in-Some-clause-some g c = first_some c.args.scope.now c.args.place c.args.arguments.now _ c.nodes_at.result.now _ (sym c.in-Some.ensures)
    c.nodes_at.ensures.nodes c.first_of.ensures.some
