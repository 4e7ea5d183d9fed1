use Rattle.std.proofs.Common.{◌≡◌, arith, refl}
use Rattle.xml_model.specs.Laws.{holder_index}
use Rattle.vtd_namespaces.proofs.HolderLemmas.{element_at, holder_found, holder_lower, holder_element}
use Rattle.xpath_nodes.proofs.languages.holder_of.Goals as goal

pub returns-in-Some-clause-found : goal.returns-in-Some-clause-found
returns-in-Some-clause-found g c = λ nest s x xs k h. holder_found _ _ nest s x xs k c.args.tag h _ c.in-Some.owner refl (c.in-Some.ensures.parent nest s)

pub returns-in-Some-clause-lower : goal.returns-in-Some-clause-lower
returns-in-Some-clause-lower g c =
    let e = element_at _ _ c.args.tag c.requires in
    let same : c.in-Some.owner.at ≡ holder_index e.holders = holder_found _ _ e.nest e.shown e.own e.holders e.chain c.args.tag e.index _ c.in-Some.owner refl
    (c.in-Some.ensures.parent e.nest e.shown) in
    omega (arith, same, holder_lower _ _ e.nest e.shown e.own e.holders e.chain, e.index)

pub returns-in-Some-clause-element : goal.returns-in-Some-clause-element
returns-in-Some-clause-element g c = λ z.
    let e = element_at _ _ c.args.tag c.requires in
    let same : c.in-Some.owner.at ≡ holder_index e.holders = holder_found _ _ e.nest e.shown e.own e.holders e.chain c.args.tag e.index _ c.in-Some.owner refl
    (c.in-Some.ensures.parent e.nest e.shown) in
    holder_element _ _ e.nest e.shown e.holders e.chain.1 c.in-Some.owner.at same z
