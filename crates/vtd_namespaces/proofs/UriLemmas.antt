-- The URI of a prefix and the expanded name of a node.
use Rattle.std.proofs.Common.{◌≡◌, ℕ, Bool, true, false, cond, ◌&&◌, List, [], ◌∷◌, length, refl, ap, ap₂, sym, ◌∙◌, subst, Option, Some, None, bytes_eq, codes}
use Rattle.std.specs.Prelude.{encode_utf8_all, IsUtf8}
use Rattle.std.specs.Option.{unwrap_or}
use Rattle.std.specs.List.{Contains}
use Rattle.std.specs.Str.{chars}
use Rattle.std.proofs.lemmas.Str.{chars-nil}
use Rattle.xml_model.specs.declared.Kind.{Kind}
use Rattle.xml_model.specs.declared.Kind.TheVariants as kinds
use Rattle.xml_model.specs.declared.Node.{Node}
use Rattle.xml_model.specs.Chars.{prefix_of}
use Rattle.xml_model.specs.Items.{Attribute, Tag, first_place, is_nil}
use Rattle.xml_model.specs.Nest.{Forest}
use Rattle.xml_model.specs.Tree.{Thing, Entry, Holder, Identifies, kind_of}
use Rattle.xml_model.specs.Content.{value_content}
use Rattle.xml_model.specs.Names.{binding, attribute_uri, declared, nearest, xml_uri, expanded, expanded_name, tags_of, NameTest, any, any_in, named, name_passes}
use Rattle.xml_model.specs.Laws.{holder_index}
use Rattle.vtd_words.specs.Lists.{Lists}
use Rattle.vtd_words.specs.Table.{IsNestOf, IsNodeOf, IsParent, nodes_of}
use Rattle.vtd_text.specs.NameRecords.{IsNameOf}
use Rattle.xml_model.proofs.Each.{each_at}
use Rattle.vtd_namespaces.specs.Scope.{IsNearest, Chain, tags_in}
use Rattle.vtd_namespaces.specs.Reach.{with_own, reaching, IsElementAt}
use Rattle.vtd_namespaces.specs.NodeNames.{HasName, HasExpandedName, node_prefix, node_local, uri_in}
use Rattle.vtd_namespaces.proofs.ChainLemmas.{document_chain}
use Rattle.vtd_namespaces.proofs.DeclarationLemmas.{empty_encoded}
use Rattle.vtd_namespaces.proofs.OffenceLemmas.{eq_nil}
use Rattle.vtd_namespaces.proofs.ScopeLemmas.{is_xml, nearest_found, nearest_none, name_of_nearest, not_empty}
use Rattle.vtd_namespaces.proofs.HolderLemmas.{parent_index, holder_element}
use Rattle.vtd_namespaces.proofs.NodeNameLemmas.{text_same}

-- a prefix

pub bind_xml : (prefix p : List ℕ) (tags : List Tag) → prefix ≡ encode_utf8_all p → bytes_eq prefix (codes "xml") ≡ true → Some xml_uri ≡ binding p tags
unfolding binding
bind_xml prefix p tags e t = sym (ap (λ b. cond b (Some xml_uri) (declared p (nearest p tags))) (sym (is_xml prefix p e) ∙ t))

bind_other : (prefix p : List ℕ) (tags : List Tag) → prefix ≡ encode_utf8_all p → bytes_eq prefix (codes "xml") ≡ false → binding p tags ≡ declared p (nearest p tags)
unfolding binding
bind_other prefix p tags e t = ap (λ b. cond b (Some xml_uri) (declared p (nearest p tags))) (sym (is_xml prefix p e) ∙ t)

declared_none : (p : List ℕ) → declared p None ≡ None
declared_none [] = refl
declared_none (c ∷ p) = refl

pub bind_none : (es : List Entry) (hs : List Holder) (prefix p : List ℕ) (r : Option ℕ) → prefix ≡ encode_utf8_all p → bytes_eq prefix (codes "xml") ≡ false → r ≡ None → IsNearest es hs p r → None ≡ binding p (tags_in hs)
bind_none es hs prefix p r e t k f = sym (bind_other prefix p (tags_in hs) e t ∙ ap (declared p) (nearest_none es hs p r k f) ∙ declared_none p)

bind_found : (bytes : List ℕ) (nest : Forest) (hs : List Holder) (prefix p : List ℕ) (r : Option ℕ) (n : ℕ) (value : List ℕ) → prefix ≡ encode_utf8_all p → bytes_eq prefix (codes "xml") ≡ false → r ≡ Some n → IsNearest (nodes_of bytes nest) hs p r →
    ((a : Attribute) → IsNameOf bytes nest n a → value ≡ value_content a.value) → binding p (tags_in hs) ≡ declared p (Some value)
bind_found bytes nest hs prefix p r n value e t k f v =
    let d = nearest_found (nodes_of bytes nest) hs p r n k f in
    bind_other prefix p (tags_in hs) e t ∙ ap (declared p) (d.nearest_says ∙ ap (λ x. Some x) (sym (v d.declared.declaration (name_of_nearest bytes nest hs p n d))))

is_empty_value : (r : Bool) (v : List ℕ) → r ≡ bytes_eq v (chars []) → is_nil v ≡ r
is_empty_value r v e = sym (e ∙ ap (bytes_eq v) chars-nil ∙ eq_nil v)

-- the default namespace, taken away
pub bind_taken : (bytes : List ℕ) (nest : Forest) (hs : List Holder) (prefix p : List ℕ) (r : Option ℕ) (n : ℕ) (value : List ℕ) (b : Bool) → prefix ≡ encode_utf8_all p → bytes_eq prefix (codes "xml") ≡ false → r ≡ Some n → IsNearest (nodes_of bytes nest) hs p r →
    ((a : Attribute) → IsNameOf bytes nest n a → value ≡ value_content a.value) → length prefix ≡ 0 → b ≡ bytes_eq value (chars []) → b ≡ true → None ≡ binding p (tags_in hs)
bind_taken bytes nest hs prefix p r n value b e t k f v z w h =
    let none : p ≡ [] = empty_encoded p (sym (ap length e) ∙ z) in
    sym (bind_found bytes nest hs prefix p r n value e t k f v ∙ ap (λ q. declared q (Some value)) none ∙ ap (λ x. cond x None (Some value)) (is_empty_value b value w ∙ h))

-- a value that is not empty, or a prefix that is not
pub bind_kept : (bytes : List ℕ) (nest : Forest) (hs : List Holder) (prefix p : List ℕ) (r : Option ℕ) (n : ℕ) (value other : List ℕ) (b : Bool) → prefix ≡ encode_utf8_all p → bytes_eq prefix (codes "xml") ≡ false → r ≡ Some n → IsNearest (nodes_of bytes nest) hs p r →
    ((a : Attribute) → IsNameOf bytes nest n a → value ≡ value_content a.value) → ((a : Attribute) → IsNameOf bytes nest n a → other ≡ value_content a.value) → length prefix ≡ 0 → b ≡ bytes_eq other (chars []) → b ≡ false → Some value ≡ binding p (tags_in hs)
bind_kept bytes nest hs prefix p r n value other b e t k f v o z w h =
    let none : p ≡ [] = empty_encoded p (sym (ap length e) ∙ z) in
    let d = nearest_found (nodes_of bytes nest) hs p r n k f in
    let same : value ≡ other = v d.declared.declaration (name_of_nearest bytes nest hs p n d) ∙ sym (o d.declared.declaration (name_of_nearest bytes nest hs p n d)) in
    sym (bind_found bytes nest hs prefix p r n value e t k f v ∙ ap (λ q. declared q (Some value)) none ∙ ap (λ x. cond x None (Some value)) (ap is_nil same ∙ is_empty_value b other w ∙ h))

pub bind_prefix : (bytes : List ℕ) (nest : Forest) (hs : List Holder) (prefix p : List ℕ) (r : Option ℕ) (n : ℕ) (value : List ℕ) → prefix ≡ encode_utf8_all p → bytes_eq prefix (codes "xml") ≡ false → r ≡ Some n → IsNearest (nodes_of bytes nest) hs p r →
    ((a : Attribute) → IsNameOf bytes nest n a → value ≡ value_content a.value) → (length prefix ≡ 0 → ⊥) → Some value ≡ binding p (tags_in hs)
bind_prefix bytes nest hs prefix p r n value e t k f v z = sym (bind_found bytes nest hs prefix p r n value e t k f v ∙ kept p (not_empty prefix p e z))
  where
    kept : (q : List ℕ) → (q ≡ [] → ⊥) → declared q (Some value) ≡ Some value
    kept [] h = absurd (h refl)
    kept (c ∷ q) h = refl

-- the nearest element of a node

other_reaching : (what : Thing) (at : ℕ) (hs : List Holder) → (kind_of what ≡ kinds.Element → ⊥) → with_own what at hs ≡ hs
other_reaching (Thing.element t inside) at hs h = absurd (h refl)
other_reaching (Thing.root first f) at hs h = refl
other_reaching (Thing.attribute a) at hs h = refl
other_reaching (Thing.text xs) at hs h = refl
other_reaching (Thing.comment cs) at hs h = refl
other_reaching (Thing.instruction i) at hs h = refl

pub owner_reaching : (bytes : List ℕ) (lists : Lists) (nest : Forest) → IsNestOf bytes lists nest → (kind : Kind) (at : ℕ) → (kind ≡ kinds.Element → ⊥) → (e : Entry) → Identifies kind at e (nodes_of bytes nest) → (node : Node) → IsParent (nodes_of bytes nest) e node → node.at ≡ holder_index (reaching e)
owner_reaching bytes lists nest s kind at h e w node p = parent_index bytes lists nest s e w.0 node p ∙ ap holder_index (sym (other_reaching e.what e.index e.holders (λ k. h (sym w.1 ∙ k))))

pub owner_element : (bytes : List ℕ) (lists : Lists) (node : Node) (n : IsNodeOf bytes lists node) (owner : Node) → IsParent (nodes_of bytes n.nest) n.entry owner → (owner.at ≡ 0 → ⊥) → IsElementAt bytes lists owner.at
owner_element bytes lists node n owner p h =
    holder_element bytes lists n.nest n.shown n.entry.holders (each_at (λ e. Chain (nodes_of bytes n.nest) e.holders) (nodes_of bytes n.nest) n.entry (document_chain n.nest (first_place bytes)) n.holds.0) owner.at
    (parent_index bytes lists n.nest n.shown n.entry n.holds.0 owner p) h

-- what reaches a node is a chain

pub chain_by : (es : List Entry) (e : Entry) (what : Thing) → e.what ≡ what → Contains es e → Chain es e.holders → Chain es (with_own what e.index e.holders)
chain_by es e (Thing.element t inside) w c k = (record { entry = e; there = c; inside = inside; what = w; index = refl; holders = refl }, k)
chain_by es e (Thing.root first f) w c k = k
chain_by es e (Thing.attribute a) w c k = k
chain_by es e (Thing.text xs) w c k = k
chain_by es e (Thing.comment cs) w c k = k
chain_by es e (Thing.instruction i) w c k = k

pub reaching_chain : (bytes : List ℕ) (nest : Forest) (e : Entry) → Contains (nodes_of bytes nest) e → Chain (nodes_of bytes nest) (reaching e)
reaching_chain bytes nest e c = chain_by (nodes_of bytes nest) e e.what refl c (each_at (λ x. Chain (nodes_of bytes nest) x.holders) (nodes_of bytes nest) e (document_chain nest (first_place bytes)) c)

-- the URI of an expanded name

uri_by : (what : Thing) (at : ℕ) (hs : List Holder) → HasExpandedName (kind_of what) → (node_prefix what ≡ [] → kind_of what ≡ kinds.Element) → binding (node_prefix what) (tags_in (with_own what at hs)) ≡ uri_in (expanded_name what (tags_in hs))
uri_by (Thing.element t inside) at hs h p = refl
uri_by (Thing.attribute a) at hs h p = attribute (prefix_of a.name) p
  where
    attribute : (q : List ℕ) → (q ≡ [] → ◌≡◌ {A = Kind} kinds.Attribute kinds.Element) → binding q (tags_in hs) ≡ attribute_uri q (tags_in hs)
    attribute [] k = let z = k refl in absurd (cc)
    attribute (c ∷ q) k = refl
uri_by (Thing.root first f) at hs h p = absurd h
uri_by (Thing.text xs) at hs h p = absurd h
uri_by (Thing.comment cs) at hs h p = absurd h
uri_by (Thing.instruction i) at hs h p = absurd h

pub uri_known : (e : Entry) → HasExpandedName (kind_of e.what) → (node_prefix e.what ≡ [] → kind_of e.what ≡ kinds.Element) → binding (node_prefix e.what) (tags_in (reaching e)) ≡ uri_in (expanded e)
unfolding expanded
uri_known e h p = uri_by e.what e.index e.holders h p

no_uri : (what : Thing) (hs : List Holder) → kind_of what ≡ kinds.Attribute → node_prefix what ≡ [] → None ≡ uri_in (expanded_name what (tags_in hs))
no_uri (Thing.attribute a) hs k p = sym (ap (λ q. attribute_uri q (tags_in hs)) p)
no_uri (Thing.root first f) hs k p = refl
no_uri (Thing.element t inside) hs k p = absurd (cc)
no_uri (Thing.text xs) hs k p = refl
no_uri (Thing.comment cs) hs k p = refl
no_uri (Thing.instruction i) hs k p = refl

pub attribute_without : (e : Entry) → kind_of e.what ≡ kinds.Attribute → node_prefix e.what ≡ [] → None ≡ uri_in (expanded e)
unfolding expanded
attribute_without e k p = no_uri e.what e.holders k p

instruction_by : (what : Thing) (hs : List Holder) → kind_of what ≡ kinds.Instruction → None ≡ uri_in (expanded_name what (tags_in hs))
instruction_by (Thing.instruction i) hs k = refl
instruction_by (Thing.root first f) hs k = refl
instruction_by (Thing.attribute a) hs k = absurd (cc)
instruction_by (Thing.element t inside) hs k = absurd (cc)
instruction_by (Thing.text xs) hs k = refl
instruction_by (Thing.comment cs) hs k = refl

pub instruction_without : (e : Entry) → kind_of e.what ≡ kinds.Instruction → None ≡ uri_in (expanded e)
unfolding expanded
instruction_without e k = instruction_by e.what e.holders k

-- by the kind of a node

pub other_kind : (k : Kind) → HasName k → (k ≡ kinds.Element → ⊥) → (k ≡ kinds.Attribute → ⊥) → k ≡ kinds.Instruction
other_kind kinds.Root h x y = absurd h
other_kind kinds.Element h x y = absurd (x refl)
other_kind kinds.Attribute h x y = absurd (y refl)
other_kind kinds.Text h x y = absurd h
other_kind kinds.Comment h x y = absurd h
other_kind kinds.Instruction h x y = refl

pub element_expanded : (k : Kind) → k ≡ kinds.Element → HasExpandedName k
element_expanded k e = subst HasExpandedName (sym e) tt

pub attribute_expanded : (k : Kind) → k ≡ kinds.Attribute → HasExpandedName k
attribute_expanded k e = subst HasExpandedName (sym e) tt

-- name tests

expanded_by : (what : Thing) (tags : List Tag) → HasExpandedName (kind_of what) → expanded_name what tags ≡ Some (record { uri = uri_in (expanded_name what tags); name = node_local what })
expanded_by (Thing.element t inside) tags h = refl
expanded_by (Thing.attribute a) tags h = refl
expanded_by (Thing.root first f) tags h = absurd h
expanded_by (Thing.text xs) tags h = absurd h
expanded_by (Thing.comment cs) tags h = absurd h
expanded_by (Thing.instruction i) tags h = absurd h

expanded_is : (e : Entry) → HasExpandedName (kind_of e.what) → expanded e ≡ Some (record { uri = uri_in (expanded e); name = node_local e.what })
unfolding expanded
expanded_is e h = expanded_by e.what (tags_of e) h

pub passes_any : (e : Entry) (test : NameTest) → HasExpandedName (kind_of e.what) → test ≡ any → true ≡ name_passes test (expanded e)
passes_any e test h t = sym (ap₂ name_passes t (expanded_is e h))

pub passes_any_in : (e : Entry) (test : NameTest) (uri : List ℕ) (value : Option (List ℕ)) (r : Bool) → HasExpandedName (kind_of e.what) → test ≡ any_in uri → value ≡ uri_in (expanded e) → r ≡ bytes_eq (unwrap_or value []) uri → r ≡ name_passes test (expanded e)
passes_any_in e test uri value r h t v k = k ∙ ap (λ u. bytes_eq (unwrap_or u []) uri) v ∙ sym (ap₂ name_passes t (expanded_is e h))

-- the local part of a test
local_known : (e : Entry) (bytes local : List ℕ) (text : List ℕ) → bytes ≡ encode_utf8_all (node_local e.what) → text ≡ local → IsUtf8 text → bytes_eq bytes text ≡ bytes_eq (node_local e.what) (chars local)
local_known e bytes local text b t u = ap (λ x. bytes_eq x text) b ∙ text_same (node_local e.what) text u ∙ ap (λ x. bytes_eq (node_local e.what) (chars x)) t

and_yes : (a b : Bool) → b ≡ true → (a && b) ≡ a
and_yes true true h = refl
and_yes true false h = h
and_yes false b h = refl

and_no : (a b : Bool) → b ≡ false → (a && b) ≡ false
and_no true b h = h
and_no false b h = refl

pub passes_named : (e : Entry) (test : NameTest) (uri bytes local text : List ℕ) (value : Option (List ℕ)) (r : Bool) → HasExpandedName (kind_of e.what) → test ≡ named uri (chars local) → value ≡ uri_in (expanded e) → bytes ≡ encode_utf8_all (node_local e.what) → text ≡ local → IsUtf8 text →
    bytes_eq bytes text ≡ true → r ≡ bytes_eq (unwrap_or value []) uri → r ≡ name_passes test (expanded e)
passes_named e test uri bytes local text value r h t v b x u y k =
    k ∙ ap (λ z. bytes_eq (unwrap_or z []) uri) v ∙ sym (ap₂ name_passes t (expanded_is e h) ∙ and_yes (bytes_eq (unwrap_or (uri_in (expanded e)) []) uri) (bytes_eq (node_local e.what) (chars local)) (sym (local_known e bytes local text b x u) ∙ y))

pub passes_other : (e : Entry) (test : NameTest) (uri bytes local text : List ℕ) → HasExpandedName (kind_of e.what) → test ≡ named uri (chars local) → bytes ≡ encode_utf8_all (node_local e.what) → text ≡ local → IsUtf8 text → bytes_eq bytes text ≡ false → false ≡ name_passes test (expanded e)
passes_other e test uri bytes local text h t b x u y =
    sym (ap₂ name_passes t (expanded_is e h) ∙ and_no (bytes_eq (unwrap_or (uri_in (expanded e)) []) uri) (bytes_eq (node_local e.what) (chars local)) (sym (local_known e bytes local text b x u) ∙ y))
