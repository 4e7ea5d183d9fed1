use Rattle.std.proofs.Common.{◌∙◌, sym}
use Rattle.vtd_namespaces.specs.Reach.{reaching}
use Rattle.vtd_namespaces.proofs.UriLemmas.{reaching_chain}
use Rattle.xpath_nodes.proofs.LanguageLemmas.{no_language, some_language}
use Rattle.xpath_nodes.proofs.languages.is_of_language.Goals as goal

pub returns-in-None : goal.returns-in-None
returns-in-None g c = λ nest s e w.
    no_language _ e c.args.asked.now c.language_above.result c.in-None.is
    (c.language_above.ensures.found nest s (reaching e) (reaching_chain _ nest e w.0) (sym (c.nearest_element.ensures.found nest s e w)))

pub returns-in-Some : goal.returns-in-Some
returns-in-Some g c = λ nest s e w.
    c.is_language.ensures ∙ some_language _ e c.args.asked.now c.of.result c.language_above.result c.in-Some.attribute c.in-Some.is
    (c.language_above.ensures.found nest s (reaching e) (reaching_chain _ nest e w.0) (sym (c.nearest_element.ensures.found nest s e w))) (c.of.ensures nest s)
