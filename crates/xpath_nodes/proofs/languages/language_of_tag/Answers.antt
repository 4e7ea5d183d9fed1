use Rattle.xpath_nodes.proofs.LanguageLemmas.{tag_has_none, tag_has_one, lang_is_node}
use Rattle.xpath_nodes.proofs.languages.language_of_tag.Goals as goal

pub returns-in-None-clause-found : goal.returns-in-None-clause-found
returns-in-None-clause-found g c =
    tag_has_none _ _ c.bytes.ensures.table.few c.args.tag c.first_attribute.result c.language_in.result c.first_attribute.ensures.index
    (rw (c.bytes.ensures.value, c.words.ensures.value) at c.language_in.ensures) c.in-None.is

pub returns-in-Some-clause-found : goal.returns-in-Some-clause-found
returns-in-Some-clause-found g c =
    tag_has_one _ _ c.bytes.ensures.table.few c.args.tag c.first_attribute.result c.language_in.result c.in-Some.at c.first_attribute.ensures.index
    (rw (c.bytes.ensures.value, c.words.ensures.value) at c.language_in.ensures) c.in-Some.is

pub returns-in-Some-clause-node : goal.returns-in-Some-clause-node
returns-in-Some-clause-node g c =
    lang_is_node _ _ c.bytes.ensures.table.few c.args.tag c.first_attribute.result c.language_in.result c.in-Some.at c.first_attribute.ensures.index
    (rw (c.bytes.ensures.value, c.words.ensures.value) at c.language_in.ensures) c.in-Some.is c.requires
