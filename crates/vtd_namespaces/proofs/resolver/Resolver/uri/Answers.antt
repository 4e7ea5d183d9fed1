use Rattle.std.proofs.Common.{◌∙◌, ap, sym, length}
use Rattle.std.proofs.lemmas.Bool.{eqb-true}
use Rattle.vtd_namespaces.specs.NodeNames.{node_prefix}
use Rattle.vtd_namespaces.proofs.DeclarationLemmas.{empty_encoded, some_length}
use Rattle.vtd_namespaces.proofs.ScopeLemmas.{not_empty}
use Rattle.vtd_namespaces.proofs.UriLemmas.{uri_known, attribute_without, instruction_without, other_kind, element_expanded, attribute_expanded}
use Rattle.vtd_namespaces.proofs.resolver.Resolver.uri.Goals as goal

pub returns-then-is_empty-clause-uri : goal.returns-then-is_empty-clause-uri
returns-then-is_empty-clause-uri g c =
    let prefix = rw c.self.view_is at c.prefix_of-prefix.ensures in
    λ nest s e w.
    attribute_without e (w.1 ∙ c.in-Attribute.is)
    (empty_encoded (node_prefix e.what) (sym (ap (λ l. length l) (prefix nest s e w)) ∙ eqb-true _ _ (sym c.is_empty.ensures ∙ c.if-is_empty.true)))

pub returns-in-Element-clause-uri : goal.returns-in-Element-clause-uri
returns-in-Element-clause-uri g c =
    let prefix = rw c.self.view_is at c.prefix_of-prefix.ensures in
    λ nest s e w.
    c.bound.ensures.uri nest s e w (node_prefix e.what) (prefix nest s e w)
    ∙ uri_known e (element_expanded _ (w.1 ∙ c.in-Element.is)) (λ z. w.1 ∙ c.in-Element.is)

pub returns-else-is_empty-clause-uri : goal.returns-else-is_empty-clause-uri
returns-else-is_empty-clause-uri g c =
    let prefix = rw c.self.view_is at c.prefix_of-prefix.ensures in
    λ nest s e w.
    c.bound-in-Attribute.ensures.uri nest s e w (node_prefix e.what) (prefix nest s e w)
    ∙ uri_known e (attribute_expanded _ (w.1 ∙ c.in-Attribute.is)) (λ z.
    absurd (not_empty c.prefix_of-prefix.result.now (node_prefix e.what) (prefix nest s e w)
    (some_length c.prefix_of-prefix.result.now (sym c.is_empty.ensures ∙ c.if-is_empty.false)) z))

pub returns-in_default-clause-uri : goal.returns-in_default-clause-uri
returns-in_default-clause-uri g c = λ nest s e w.
    instruction_without e (w.1 ∙ other_kind c.args.node.kind c.requires.named c.in_default.not-Element c.in_default.not-Attribute)
