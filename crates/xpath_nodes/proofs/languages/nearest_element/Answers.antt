use Rattle.std.proofs.Common.{refl}
use Rattle.xpath_nodes.proofs.LanguageLemmas.{root_reaching}
use Rattle.vtd_namespaces.proofs.UriLemmas.{owner_reaching, owner_element}
use Rattle.xpath_nodes.proofs.languages.nearest_element.Goals as goal

pub returns-in-Some-clause-found : goal.returns-in-Some-clause-found
returns-in-Some-clause-found g c = λ nest s e w. owner_reaching _ _ nest s c.args.node.kind c.args.node.at c.in_default.not-Element e w c.in-Some.owner
    (c.in-Some.ensures.parent nest s e w)

pub returns-in-Some-clause-element : goal.returns-in-Some-clause-element
returns-in-Some-clause-element g c = λ z. owner_element _ _ c.args.node c.requires c.in-Some.owner
    (c.in-Some.ensures.parent c.requires.nest c.requires.shown c.requires.entry c.requires.holds) z

pub returns-in-None : goal.returns-in-None
returns-in-None g c = record {
  found = λ nest s e w. root_reaching _ _ nest s c.args.node.kind c.args.node.at (c.in-None.ensures.root.0 refl) e w;
  element = λ z. absurd (z refl);
}
