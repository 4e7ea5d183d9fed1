use Rattle.std.proofs.Common.{sym}
use Rattle.xpath_meaning.proofs.ArgumentLemmas.{argument_of}
use Rattle.xpath_meaning.proofs.CallLemmas.{own_found, own_not_found}
use Rattle.xpath_meaning.proofs.calls.own_text.Goals as goal

pub to_text-requires : goal.to_text-requires
to_text-requires g c = argument_of _ _ _ _ c.requires.arguments (sym c.in-Some.ensures)

pub returns-in-Some-clause-text : goal.returns-in-Some-clause-text
returns-in-Some-clause-text g c = own_found _ _ _ _ _ (sym c.in-Some.ensures) c.to_text.ensures.text

pub returns-in-None-clause-text : goal.returns-in-None-clause-text
returns-in-None-clause-text g c = own_not_found _ _ _ _ (sym c.in-None.ensures) c.context_text.ensures.text
