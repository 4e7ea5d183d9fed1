use Rattle.std.proofs.Common.{◌∙◌, ap}
use Rattle.xpath_values.specs.Translating.{agrees}
use Rattle.xpath_values.proofs.LanguageLemmas.{language_found}
use Rattle.xpath_values.proofs.languages.is_language.Goals as goal

pub returns : goal.returns
returns g c =
    c.agrees.ensures ∙ ap (agrees c.args.value) c.as_str.ensures ∙ language_found c.args.value c.args.language.now
