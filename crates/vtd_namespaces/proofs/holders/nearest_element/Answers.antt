use Rattle.vtd_namespaces.proofs.UriLemmas.{owner_reaching, owner_element}
use Rattle.vtd_namespaces.proofs.holders.nearest_element.Goals as goal

pub returns-in-Some-clause-found : goal.returns-in-Some-clause-found
returns-in-Some-clause-found g c = λ nest s e w. owner_reaching _ _ nest s c.args.node.kind c.args.node.at c.in_default.not-Element e w c.in-Some.owner (c.in-Some.ensures.parent nest s e w)

pub returns-in-Some-clause-element : goal.returns-in-Some-clause-element
returns-in-Some-clause-element g c = λ z. owner_element _ _ c.args.node c.requires.node c.in-Some.owner (c.in-Some.ensures.parent c.requires.node.nest c.requires.node.shown c.requires.node.entry c.requires.node.holds) z
