use Rattle.std.proofs.Common.{◌∙◌}
use Rattle.std.proofs.lemmas.Str.{chars-nil}
use Rattle.xpath_meaning.proofs.arguments.no_characters.Goals as goal

pub returns-clause-text : goal.returns-clause-text
returns-clause-text g c = c.in_ok-make_text.ensures ∙ chars-nil
