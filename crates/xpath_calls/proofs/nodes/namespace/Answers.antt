use Rattle.xpath_meaning.specs.Functions.{uri_text}
use Rattle.xpath_calls.proofs.FirstLemmas.{first_has, none_has}
use Rattle.xpath_calls.proofs.nodes.namespace.Goals as goal

pub returns-in-None-clause-text : goal.returns-in-None-clause-text
returns-in-None-clause-text g c = none_has c.args.scope.now c.args.place c.args.arguments.now _ uri_text c.in-None.ensures.none c.nameless.ensures.text

pub returns-in-Some-clause-text : goal.returns-in-Some-clause-text
returns-in-Some-clause-text g c = first_has c.args.scope.now c.args.place c.args.arguments.now _ c.in-Some.node uri_text c.in-Some.ensures.some
    c.uri_of.ensures.text
