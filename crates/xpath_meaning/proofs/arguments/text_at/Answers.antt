use Rattle.std.proofs.Common.{sym}
use Rattle.xpath_meaning.proofs.ArgumentLemmas.{argument_of, text_found, text_not_found}
use Rattle.xpath_meaning.proofs.arguments.text_at.Goals as goal

pub to_text-requires : goal.to_text-requires
to_text-requires g c = argument_of _ _ _ _ c.requires (sym c.in-Some.ensures)

pub returns-in-Some-clause-text : goal.returns-in-Some-clause-text
returns-in-Some-clause-text g c = text_found _ _ _ _ _ (sym c.in-Some.ensures) c.to_text.ensures.text

pub returns-in-None-clause-text : goal.returns-in-None-clause-text
returns-in-None-clause-text g c = text_not_found _ _ _ _ (sym c.in-None.ensures) c.no_characters.ensures.text
