use Rattle.std.proofs.Common.{Some, ◌∙◌, ap}
use Rattle.xpath_grammar.proofs.BoundPrefixes.{shown_lookup}
use Rattle.xpath_grammar.proofs.held.find.Goals as goal

pub returns-in-Some : goal.returns-in-Some
returns-in-Some c = ap Some c.as_str.ensures ∙ c.in-Some.ensures.value ∙ shown_lookup c.args.held.now.entries c.args.prefix.now c.utf8.prefix

pub returns-in-None : goal.returns-in-None
returns-in-None c = c.in-None.ensures.value ∙ shown_lookup c.args.held.now.entries c.args.prefix.now c.utf8.prefix
