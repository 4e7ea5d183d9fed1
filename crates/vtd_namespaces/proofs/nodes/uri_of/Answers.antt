use Rattle.std.proofs.Common.{◌≡◌, ◌∙◌, ap, sym}
use Rattle.std.proofs.lemmas.Bool.{eqb-true}
use Rattle.vtd_namespaces.specs.Reach.{reaching}
use Rattle.vtd_namespaces.specs.NodeNames.{node_prefix}
use Rattle.vtd_namespaces.proofs.DeclarationLemmas.{empty_encoded, some_length}
use Rattle.vtd_namespaces.proofs.ScopeLemmas.{not_empty}
use Rattle.vtd_namespaces.proofs.UriLemmas.{uri_known, attribute_without, instruction_without, other_kind, element_expanded, attribute_expanded, reaching_chain}
use Rattle.vtd_namespaces.proofs.nodes.uri_of.Goals as goal

pub returns-then-is_empty : goal.returns-then-is_empty
returns-then-is_empty g c = λ nest s e w.
    attribute_without e (w.1 ∙ c.in-Attribute.is) (empty_encoded (node_prefix e.what) (sym (ap (λ l. Rattle.std.proofs.Common.length l) (c.prefix_of-prefix.ensures nest s e w)) ∙ eqb-true _ _ (sym c.is_empty.ensures ∙ c.if-is_empty.true)))

pub returns-in-Element : goal.returns-in-Element
returns-in-Element g c = λ nest s e w.
    c.uri_of_prefix.ensures nest s (reaching e) (reaching_chain _ nest e w.0) (sym (c.nearest_element.ensures.found nest s e w)) (node_prefix e.what) (c.prefix_of-prefix.ensures nest s e w) ∙ uri_known e (element_expanded _ (w.1 ∙ c.in-Element.is)) (λ z. w.1 ∙ c.in-Element.is)

pub returns-else-is_empty : goal.returns-else-is_empty
returns-else-is_empty g c = λ nest s e w.
    c.uri_of_prefix-in-Attribute.ensures nest s (reaching e) (reaching_chain _ nest e w.0) (sym (c.nearest_element-in-Attribute.ensures.found nest s e w)) (node_prefix e.what) (c.prefix_of-prefix.ensures nest s e w)
    ∙ uri_known e (attribute_expanded _ (w.1 ∙ c.in-Attribute.is)) (λ z. absurd (not_empty c.prefix_of-prefix.result.now (node_prefix e.what) (c.prefix_of-prefix.ensures nest s e w) (some_length c.prefix_of-prefix.result.now (sym c.is_empty.ensures ∙ c.if-is_empty.false)) z))

pub returns-in_default : goal.returns-in_default
returns-in_default g c = λ nest s e w. instruction_without e (w.1 ∙ other_kind c.args.node.kind c.requires.named c.in_default.not-Element c.in_default.not-Attribute)
