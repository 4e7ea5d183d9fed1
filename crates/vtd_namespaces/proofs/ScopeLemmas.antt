-- The URI of a prefix under the tags that reach it.
use Rattle.std.proofs.Common.{◌≡◌, ℕ, Bool, true, false, cond, ◌||◌, List, [], ◌∷◌, length, refl, ap, ap₂, sym, ◌∙◌, subst, Option, Some, None, is_some, bytes_eq, codes, IfSome}
use Rattle.std.specs.Prelude.{encode_utf8_all}
use Rattle.std.proofs.Math.Utf8.{encode}
use Rattle.std.proofs.lemmas.Bool.{false≢true, false_from_ne_true}
use Rattle.std.proofs.lemmas.Slice.Eq.{bytes_eq-Decides}
use Rattle.xml_model.specs.Items.{Attribute, Tag, first_place, is_nil}
use Rattle.xml_model.specs.Nest.{Forest}
use Rattle.xml_model.specs.Records.{Record, records}
use Rattle.xml_model.specs.Scan.{record_at}
use Rattle.xml_model.specs.Tree.{Entry, Holder}
use Rattle.xml_model.specs.Content.{value_content}
use Rattle.xml_model.specs.Names.{binding, attribute_uri, nearest, xml_uri}
use Rattle.xml_model.specs.Accepted.{is_bound}
use Rattle.vtd_words.specs.Lists.{Lists}
use Rattle.vtd_words.specs.Table.{IsTable, Shows, nodes_of}
use Rattle.vtd_words.proofs.Fitting.{nest_shown}
use Rattle.vtd_text.specs.NameRecords.{IsDeclaration, IsNameOf}
use Rattle.vtd_namespaces.specs.Scope.{IsNearestAt, IsNearest, tags_in}
use Rattle.vtd_namespaces.proofs.RepeatLemmas.{eq_encoded}
use Rattle.vtd_namespaces.proofs.DeclarationLemmas.{empty_encoded}

xml_encoded : encode_utf8_all (codes "xml") ≡ codes "xml"
unfolding encode
xml_encoded = refl

pub is_xml : (prefix p : List ℕ) → prefix ≡ encode_utf8_all p → bytes_eq prefix (codes "xml") ≡ bytes_eq p (codes "xml")
is_xml prefix p e = ap₂ bytes_eq e (sym xml_encoded) ∙ eq_encoded p (codes "xml")

-- a table's declaration by its record
pub declaration_there : (bytes : List ℕ) (lists : Lists) → IsTable bytes lists → (r : Option ℕ) → ((rs : List Record) → Shows lists.records rs → IfSome r (λ n. (record_at n rs).token ≡ 3)) → IfSome r (IsDeclaration bytes lists)
declaration_there bytes lists t None h = tt
declaration_there bytes lists t (Some n) h = record { nest = t.nest; shown = t.shown; declaration = h (records t.nest (first_place bytes)) (nest_shown bytes lists t.nest t.few t.shown) }

-- a prefix that is not empty

pub uri_by : (p : List ℕ) (tags : List Tag) → (p ≡ [] → ⊥) → attribute_uri p tags ≡ cond (bytes_eq p (codes "xml")) (Some xml_uri) (nearest p tags)
unfolding binding
uri_by [] tags h = absurd (h refl)
uri_by (c ∷ p) tags h = refl

pub uri_xml : (prefix p : List ℕ) (tags : List Tag) → prefix ≡ encode_utf8_all p → (p ≡ [] → ⊥) → bytes_eq prefix (codes "xml") ≡ true → Some xml_uri ≡ attribute_uri p tags
uri_xml prefix p tags e h t = sym (uri_by p tags h ∙ ap (λ b. cond b (Some xml_uri) (nearest p tags)) (sym (is_xml prefix p e) ∙ t))

uri_other : (prefix p : List ℕ) (tags : List Tag) → prefix ≡ encode_utf8_all p → (p ≡ [] → ⊥) → bytes_eq prefix (codes "xml") ≡ false → attribute_uri p tags ≡ nearest p tags
uri_other prefix p tags e h t = uri_by p tags h ∙ ap (λ b. cond b (Some xml_uri) (nearest p tags)) (sym (is_xml prefix p e) ∙ t)

-- the declaration that is found
pub name_of_nearest : (bytes : List ℕ) (nest : Forest) (hs : List Holder) (p : List ℕ) (n : ℕ) (d : IsNearestAt (nodes_of bytes nest) hs p n) → IsNameOf bytes nest n d.declared.declaration
name_of_nearest bytes nest hs p n d =
    record { entry = d.entry; there = d.there; tag = d.tag; inside = d.inside; element = d.what; number = d.declared.number; holds = d.declared.holds; index = d.declared.index }

pub nearest_found : (es : List Entry) (hs : List Holder) (p : List ℕ) (r : Option ℕ) (n : ℕ) → r ≡ Some n → IsNearest es hs p r → IsNearestAt es hs p n
nearest_found es hs p r n e h = subst (IsNearest es hs p) e h

pub nearest_none : (es : List Entry) (hs : List Holder) (p : List ℕ) (r : Option ℕ) → r ≡ None → IsNearest es hs p r → nearest p (tags_in hs) ≡ None
nearest_none es hs p r e h = subst (IsNearest es hs p) e h

pub uri_found : (bytes : List ℕ) (nest : Forest) (hs : List Holder) (prefix p : List ℕ) (r : Option ℕ) (n : ℕ) (value : List ℕ) → prefix ≡ encode_utf8_all p → (p ≡ [] → ⊥) → bytes_eq prefix (codes "xml") ≡ false →
    r ≡ Some n → IsNearest (nodes_of bytes nest) hs p r → ((a : Attribute) → IsNameOf bytes nest n a → value ≡ value_content a.value) → Some value ≡ attribute_uri p (tags_in hs)
uri_found bytes nest hs prefix p r n value e h t k f v =
    let d = nearest_found (nodes_of bytes nest) hs p r n k f in
    ap (λ x. Some x) (v d.declared.declaration (name_of_nearest bytes nest hs p n d)) ∙ sym (uri_other prefix p (tags_in hs) e h t ∙ d.nearest_says)

pub uri_missing : (es : List Entry) (hs : List Holder) (prefix p : List ℕ) (r : Option ℕ) → prefix ≡ encode_utf8_all p → (p ≡ [] → ⊥) → bytes_eq prefix (codes "xml") ≡ false → r ≡ None → IsNearest es hs p r → None ≡ attribute_uri p (tags_in hs)
uri_missing es hs prefix p r e h t k f = sym (uri_other prefix p (tags_in hs) e h t ∙ nearest_none es hs p r k f)

-- whether a prefix is bound

pub bound_none : (prefix p : List ℕ) (tags : List Tag) → prefix ≡ encode_utf8_all p → length prefix ≡ 0 → true ≡ is_bound p tags
bound_none prefix p tags e z = sym (ap (λ q. is_bound q tags) (empty_encoded p (sym (ap length e) ∙ z)))

pub bound_xml : (prefix p : List ℕ) (tags : List Tag) → prefix ≡ encode_utf8_all p → bytes_eq prefix (codes "xml") ≡ true → true ≡ is_bound p tags
bound_xml prefix p tags e t = sym (ap (λ b. is_nil p || b || is_some (nearest p tags)) (sym (is_xml prefix p e) ∙ t) ∙ by (is_nil p))
  where
    by : (b : Bool) → (b || true || is_some (nearest p tags)) ≡ true
    by true = refl
    by false = refl

not_nil : (p : List ℕ) → (p ≡ [] → ⊥) → is_nil p ≡ false
not_nil [] h = absurd (h refl)
not_nil (c ∷ p) h = refl

pub not_empty : (prefix p : List ℕ) → prefix ≡ encode_utf8_all p → (length prefix ≡ 0 → ⊥) → p ≡ [] → ⊥
not_empty prefix p e h z = h (ap length (e ∙ ap encode_utf8_all z))

nearest_some : (es : List Entry) (hs : List Holder) (p : List ℕ) (r : Option ℕ) → IsNearest es hs p r → is_some r ≡ is_some (nearest p (tags_in hs))
nearest_some es hs p None h = sym (ap is_some h)
nearest_some es hs p (Some n) h = sym (ap is_some h.nearest_says)

pub bound_by : (es : List Entry) (hs : List Holder) (prefix p : List ℕ) (r : Option ℕ) → prefix ≡ encode_utf8_all p → (length prefix ≡ 0 → ⊥) → bytes_eq prefix (codes "xml") ≡ false → IsNearest es hs p r → is_some r ≡ is_bound p (tags_in hs)
bound_by es hs prefix p r e z t f =
    nearest_some es hs p r f ∙ sym (ap₂ (λ a b. a || b || is_some (nearest p (tags_in hs))) (not_nil p (not_empty prefix p e z)) (sym (is_xml prefix p e) ∙ t))

-- equality of texts goes both ways
pub eq_turned : (x y : List ℕ) → bytes_eq x y ≡ bytes_eq y x
eq_turned x y = by (bytes_eq y x) refl
  where
    by : (b : Bool) → bytes_eq y x ≡ b → bytes_eq x y ≡ b
    by true e = (bytes_eq-Decides x y).1 (sym ((bytes_eq-Decides y x).0 e))
    by false e = false_from_ne_true _ (λ t. false≢true (sym e ∙ (bytes_eq-Decides y x).1 (sym ((bytes_eq-Decides x y).0 t))))
