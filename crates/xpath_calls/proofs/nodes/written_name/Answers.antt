use Rattle.xpath_meaning.specs.Functions.{whole_name}
use Rattle.xpath_calls.proofs.FirstLemmas.{first_has, none_has}
use Rattle.xpath_calls.proofs.nodes.written_name.Goals as goal

pub returns-in-None-clause-text : goal.returns-in-None-clause-text
returns-in-None-clause-text g c = none_has c.args.scope.now c.args.place c.args.arguments.now _ whole_name c.in-None.ensures.none c.nameless.ensures.text

pub returns-in-Some-clause-text : goal.returns-in-Some-clause-text
returns-in-Some-clause-text g c = first_has c.args.scope.now c.args.place c.args.arguments.now _ c.in-Some.node whole_name c.in-Some.ensures.some
    c.name_of.ensures.text
