-- The offences of single names.
use Rattle.std.proofs.Common.{◌≡◌, ℕ, zero, suc, ◌+◌, ◌*◌, ◌<◌, Bool, true, false, cond, not, ◌&&◌, ◌||◌, List, [], ◌∷◌, length, take, get_or, refl, ap, ap₂, sym, ◌∙◌, subst, arith, Option, Some, None, is_some, bytes_eq, codes, ◌-◌}
use Rattle.std.specs.Prelude.{encode_utf8_all}
use Rattle.std.specs.List.{list_any}
use Rattle.std.specs.Str.{chars}
use Rattle.std.proofs.Math.Utf8.{encode}
use Rattle.std.proofs.lemmas.Bool.{false≢true}
use Rattle.std.proofs.lemmas.Str.{chars-nil}
use Rattle.std.proofs.lemmas.List.Folds.{list_any_more, list_any_kept}
use Rattle.xml_model.specs.Chars.{size, prefix_of, local_of, after_colon, is_name}
use Rattle.xml_model.specs.Items.{Attribute, Tag, first_place, is_nil, written_attribute}
use Rattle.xml_model.specs.Nest.{Forest}
use Rattle.xml_model.specs.Records.{Record, records, declares, name_token}
use Rattle.xml_model.specs.Scan.{record_at}
use Rattle.xml_model.specs.Tree.{Holder}
use Rattle.xml_model.specs.Names.{Expanded, attribute_uri, xml_uri, xmlns_uri}
use Rattle.xml_model.specs.Accepted.{name_place, is_reserved, declaration_offends, expanded_of, same_expanded}
use Rattle.vtd_words.specs.declared.packing.Parts.{Parts}
use Rattle.vtd_words.specs.Packed.{record_of}
use Rattle.vtd_words.specs.Lists.{Lists}
use Rattle.vtd_words.specs.Table.{nodes_of}
use Rattle.vtd_text.specs.Joined.{slice_of}
use Rattle.vtd_namespaces.specs.NameRecords.{IsAttributeRecord, AreAttributeRecords}
use Rattle.vtd_namespaces.specs.Reach.{IsScope, same_uri}
use Rattle.vtd_namespaces.proofs.NameRecordLemmas.{document_holds}
use Rattle.vtd_namespaces.proofs.DeclarationLemmas.{default_encoded, chain_attributes}
use Rattle.vtd_namespaces.specs.Offences.{is_twin, IsWritten}
use Rattle.vtd_namespaces.proofs.RepeatLemmas.{eq_encoded}
use Rattle.vtd_namespaces.proofs.QNameLemmas.{Prefixed, prefixed}

-- declarations

pub xml_chars : chars (codes "http://www.w3.org/XML/1998/namespace") ≡ xml_uri
unfolding chars
xml_chars = refl

xmlns_chars : chars (codes "http://www.w3.org/2000/xmlns/") ≡ xmlns_uri
unfolding chars
xmlns_chars = refl

pub reserved_first : (r : Bool) (v u : List ℕ) → r ≡ bytes_eq v (chars (codes "http://www.w3.org/XML/1998/namespace")) → v ≡ u → r ≡ true → r ≡ is_reserved u
reserved_first r v u e k t = t ∙ sym (ap (λ b. b || bytes_eq u xmlns_uri) (sym (e ∙ ap₂ bytes_eq k xml_chars) ∙ t))

pub reserved_second : (r s : Bool) (v w u : List ℕ) → r ≡ bytes_eq v (chars (codes "http://www.w3.org/XML/1998/namespace")) → v ≡ u → r ≡ false → s ≡ bytes_eq w (chars (codes "http://www.w3.org/2000/xmlns/")) → w ≡ u → s ≡ is_reserved u
reserved_second r s v w u e k f d l = d ∙ ap₂ bytes_eq l xmlns_chars ∙ sym (ap (λ b. b || bytes_eq u xmlns_uri) (sym (e ∙ ap₂ bytes_eq k xml_chars) ∙ f))

declares_xml_encoded : encode_utf8_all (codes "xmlns:xml") ≡ codes "xmlns:xml"
unfolding encode
declares_xml_encoded = refl

declares_xmlns_encoded : encode_utf8_all (codes "xmlns:xmlns") ≡ codes "xmlns:xmlns"
unfolding encode
declares_xmlns_encoded = refl

-- the names, as the tests on bytes say them
pub record NameTests (name : List ℕ) (cs : List ℕ) : Type 0 where
  pub default : bytes_eq name (codes "xmlns") ≡ bytes_eq cs (codes "xmlns")
  pub xml : bytes_eq name (codes "xmlns:xml") ≡ bytes_eq cs (codes "xmlns:xml")
  pub xmlns : bytes_eq name (codes "xmlns:xmlns") ≡ bytes_eq cs (codes "xmlns:xmlns")

pub name_tests : (name cs : List ℕ) → name ≡ encode_utf8_all cs → NameTests name cs
name_tests name cs e = record {
  default = ap₂ bytes_eq e (sym default_encoded) ∙ eq_encoded cs (codes "xmlns");
  xml = ap₂ bytes_eq e (sym declares_xml_encoded) ∙ eq_encoded cs (codes "xmlns:xml");
  xmlns = ap₂ bytes_eq e (sym declares_xmlns_encoded) ∙ eq_encoded cs (codes "xmlns:xmlns");
}

pub default_offends : (name cs u : List ℕ) (r : Bool) → name ≡ encode_utf8_all cs → bytes_eq name (codes "xmlns") ≡ true → r ≡ is_reserved u → r ≡ declaration_offends cs u
default_offends name cs u r e t k = k ∙ sym (ap (λ b. cond b (is_reserved u) (cond (bytes_eq cs (codes "xmlns:xml")) (not (bytes_eq u xml_uri)) (bytes_eq cs (codes "xmlns:xmlns") || is_nil u || is_reserved u))) (sym (name_tests name cs e).default ∙ t))

pub xml_offends : (name cs u v : List ℕ) (r : Bool) → name ≡ encode_utf8_all cs → bytes_eq name (codes "xmlns") ≡ false → bytes_eq name (codes "xmlns:xml") ≡ true → r ≡ bytes_eq v (chars (codes "http://www.w3.org/XML/1998/namespace")) → v ≡ u →
    not r ≡ declaration_offends cs u
xml_offends name cs u v r e f t k l =
    let n = name_tests name cs e in
    ap not (k ∙ ap₂ bytes_eq l xml_chars)
    ∙ sym (ap₂ (λ a b. cond a (is_reserved u) (cond b (not (bytes_eq u xml_uri)) (bytes_eq cs (codes "xmlns:xmlns") || is_nil u || is_reserved u))) (sym n.default ∙ f) (sym n.xml ∙ t))

others : (name cs u : List ℕ) → name ≡ encode_utf8_all cs → bytes_eq name (codes "xmlns") ≡ false → bytes_eq name (codes "xmlns:xml") ≡ false → declaration_offends cs u ≡ (bytes_eq name (codes "xmlns:xmlns") || is_nil u || is_reserved u)
others name cs u e f g =
    let n = name_tests name cs e in
    ap₂ (λ a b. cond a (is_reserved u) (cond b (not (bytes_eq u xml_uri)) (bytes_eq cs (codes "xmlns:xmlns") || is_nil u || is_reserved u))) (sym n.default ∙ f) (sym n.xml ∙ g)
    ∙ ap (λ b. b || is_nil u || is_reserved u) (sym n.xmlns)

or_three : (a b c : Bool) → a ≡ true → true ≡ (a || b || c)
or_three a true c e = sym (ap (λ x. x || true || c) e)
or_three a false c e = sym (ap (λ x. x || false || c) e)

pub xmlns_offends : (name cs u : List ℕ) → name ≡ encode_utf8_all cs → bytes_eq name (codes "xmlns") ≡ false → bytes_eq name (codes "xmlns:xml") ≡ false → bytes_eq name (codes "xmlns:xmlns") ≡ true → true ≡ declaration_offends cs u
xmlns_offends name cs u e f g t = or_three _ (is_nil u) (is_reserved u) t ∙ sym (others name cs u e f g)

pub eq_nil : (v : List ℕ) → bytes_eq v [] ≡ is_nil v
eq_nil [] = refl
eq_nil (c ∷ v) = refl

pub empty_offends : (name cs u v : List ℕ) (r : Bool) → name ≡ encode_utf8_all cs → bytes_eq name (codes "xmlns") ≡ false → bytes_eq name (codes "xmlns:xml") ≡ false → r ≡ bytes_eq v (chars []) → v ≡ u → r ≡ true → true ≡ declaration_offends cs u
empty_offends name cs u v r e f g k l t =
    let none : is_nil u ≡ true = sym (k ∙ ap₂ bytes_eq l chars-nil ∙ eq_nil u) ∙ t in
    by (bytes_eq name (codes "xmlns:xmlns")) none ∙ sym (others name cs u e f g)
  where
    by : (a : Bool) → is_nil u ≡ true → true ≡ (a || is_nil u || is_reserved u)
    by true q = sym (ap (λ x. true || x || is_reserved u) q)
    by false q = sym (ap (λ x. x || is_reserved u) q)

pub other_offends : (name cs u v : List ℕ) (r s : Bool) → name ≡ encode_utf8_all cs → bytes_eq name (codes "xmlns") ≡ false → bytes_eq name (codes "xmlns:xml") ≡ false → bytes_eq name (codes "xmlns:xmlns") ≡ false → r ≡ bytes_eq v (chars []) → v ≡ u → r ≡ false →
    s ≡ is_reserved u → s ≡ declaration_offends cs u
other_offends name cs u v r s e f g h k l t i =
    let some : is_nil u ≡ false = sym (k ∙ ap₂ bytes_eq l chars-nil ∙ eq_nil u) ∙ t in
    i ∙ sym (others name cs u e f g ∙ ap₂ (λ a b. a || b || is_reserved u) h some)

-- twins

pub same_expanded_is : (x y : Expanded) → same_expanded x y ≡ (same_uri x.uri y.uri && bytes_eq x.name y.name)
same_expanded_is x y = by x.uri y.uri x.name y.name
  where
    by : (u v : Option (List ℕ)) (n m : List ℕ) → same_expanded (record { uri = u; name = n }) (record { uri = v; name = m }) ≡ (same_uri u v && bytes_eq n m)
    by None None n m = refl
    by None (Some v) n m = refl
    by (Some u) None n m = refl
    by (Some u) (Some v) n m = refl

name_of_token : (b : Bool) → ◌≡◌ {A = ℕ} (cond b 3 2) 2 → b ≡ false
name_of_token true h = absurd (omega (arith, h))
name_of_token false h = refl

and_no : (a : Bool) → (a && false) ≡ false
and_no true = refl
and_no false = refl

some_not_none : (o : Option (List ℕ)) → is_some o ≡ true → same_uri o None ≡ false
some_not_none None h = absurd (false≢true h)
some_not_none (Some u) h = refl

-- a name that is no prefix and a colon before a local part
pub record OtherName (bytes : List ℕ) (p : Parts) (b : Attribute) : Type 0 where
  pub token : p.token ≡ name_token b.name
  pub slice : slice_of bytes (record_of p) ≡ encode_utf8_all b.name
  pub prefix : p.prefix ≡ size (prefix_of b.name)
  pub named : is_name b.name ≡ true

pub other_name : (bytes : List ℕ) (rs : List Record) (at place : ℕ) (p : Parts) (b : Attribute) → record_of p ≡ record_at at rs → IsAttributeRecord bytes rs at place b → OtherName bytes p b
other_name bytes rs at place p b e r = record {
  token = ap (λ x. x.token) e ∙ r.token;
  slice = ap (slice_of bytes) e ∙ r.name.slice;
  prefix = ap (λ x. x.prefix) e ∙ r.name.prefix;
  named = r.name.named;
}

twin_is : (bytes : List ℕ) (p : Parts) (tags : List Tag) (a b : Attribute) → OtherName bytes p b → p.token ≡ 2 → is_twin tags a b ≡ (same_uri (attribute_uri (prefix_of a.name) tags) (attribute_uri (prefix_of b.name) tags) && bytes_eq (local_of a.name) (local_of b.name))
twin_is bytes p tags a b o t =
    ap (λ x. not x && same_expanded (expanded_of tags a) (expanded_of tags b)) (name_of_token (declares b.name) (sym o.token ∙ t)) ∙ same_expanded_is (expanded_of tags a) (expanded_of tags b)

pub size_nothing : (cs : List ℕ) → size cs ≡ 0 → cs ≡ []
unfolding size
size_nothing cs h = Rattle.vtd_namespaces.proofs.DeclarationLemmas.empty_encoded cs h

pub twin_unprefixed : (bytes : List ℕ) (p : Parts) (tags : List Tag) (a b : Attribute) → OtherName bytes p b → p.token ≡ 2 → p.prefix ≡ 0 → is_some (attribute_uri (prefix_of a.name) tags) ≡ true → false ≡ is_twin tags a b
twin_unprefixed bytes p tags a b o t z s =
    let none : prefix_of b.name ≡ [] = size_nothing (prefix_of b.name) (sym o.prefix ∙ z) in
    sym (twin_is bytes p tags a b o t
    ∙ ap (λ x. x && bytes_eq (local_of a.name) (local_of b.name)) (ap (λ q. same_uri (attribute_uri (prefix_of a.name) tags) (attribute_uri q tags)) none ∙ some_not_none _ s))

local_same : (a b : Attribute) → Prefixed a.name → Prefixed b.name → (x y : List ℕ) → x ≡ encode_utf8_all (after_colon b.name) → y ≡ encode_utf8_all (after_colon a.name) → bytes_eq x y ≡ bytes_eq (local_of a.name) (local_of b.name)
local_same a b p q x y e f =
    ap₂ bytes_eq e f ∙ eq_encoded (after_colon b.name) (after_colon a.name) ∙ Rattle.vtd_namespaces.proofs.ScopeLemmas.eq_turned (after_colon b.name) (after_colon a.name) ∙ sym (ap₂ bytes_eq p.local q.local)

pub record TwinTests (bytes : List ℕ) (p : Parts) (tags : List Tag) (a b : Attribute) (x y : List ℕ) : Type 0 where
  pub differ : bytes_eq x y ≡ false → false ≡ is_twin tags a b
  pub agree : bytes_eq x y ≡ true → (r : Bool) → r ≡ same_uri (attribute_uri (prefix_of a.name) tags) (attribute_uri (prefix_of b.name) tags) → r ≡ is_twin tags a b
  pub one : prefix_of a.name ≡ [] → ⊥
  pub other : prefix_of b.name ≡ [] → ⊥

pub twin_tests : (bytes : List ℕ) (p : Parts) (tags : List Tag) (a b : Attribute) (name : List ℕ) (prefix : ℕ) (x y : List ℕ) → OtherName bytes p b → IsWritten name prefix a → p.token ≡ 2 → (p.prefix ≡ 0 → ⊥) → (prefix ≡ 0 → ⊥) →
    x ≡ encode_utf8_all (after_colon b.name) → y ≡ encode_utf8_all (after_colon a.name) → TwinTests bytes p tags a b x y
twin_tests bytes p tags a b name prefix x y o w t h k e f =
    let pa = prefixed a.name (λ z. k (w.prefix_size ∙ z)) in
    let pb = prefixed b.name (λ z. h (o.prefix ∙ z)) in
    let same = local_same a b pa pb x y e f in
    record {
      differ = λ d. sym (twin_is bytes p tags a b o t ∙ ap (λ z. same_uri (attribute_uri (prefix_of a.name) tags) (attribute_uri (prefix_of b.name) tags) && z) (sym same ∙ d) ∙ and_no _);
      agree = λ d r g. g ∙ sym (twin_is bytes p tags a b o t ∙ ap (λ z. same_uri (attribute_uri (prefix_of a.name) tags) (attribute_uri (prefix_of b.name) tags) && z) (sym same ∙ d) ∙ and_yes _);
      one = pa.some;
      other = pb.some;
    }
  where
    and_yes : (z : Bool) → (z && true) ≡ z
    and_yes true = refl
    and_yes false = refl

-- the attribute by its number

pub attribute_number : (others : List Attribute) (bytes : List ℕ) (rs : List Record) (n at k : ℕ) (d : Attribute) → AreAttributeRecords bytes rs n at others → k < length others → (place : ℕ) × IsAttributeRecord bytes rs (n + 2 * k) place (get_or others k d)
attribute_number [] bytes rs n at k d s h = absurd (omega arith)
attribute_number (a ∷ others) bytes rs n at zero d s h = let e : n ≡ n + 2 * 0 = omega arith in (name_place at a, subst (λ m. IsAttributeRecord bytes rs m (name_place at a) a) e s.0)
attribute_number (a ∷ others) bytes rs n at (suc k) d s h =
    let r = attribute_number others bytes rs (n + 2) (at + size (written_attribute a)) k d s.1 (omega arith) in
    let e : n + 2 + 2 * k ≡ n + 2 * suc k = omega arith in
    (r.0, subst (λ m. IsAttributeRecord bytes rs m r.0 (get_or others k d)) e r.1)

-- of the nearest tag of a scope
pub scope_attribute : (bytes : List ℕ) (lists : Lists) (open_tags : List ℕ) (depth : ℕ) (nest : Forest) (x : Holder) (xs : List Holder) → IsScope bytes lists open_tags depth nest (x ∷ xs) →
    (first k : ℕ) (d : Attribute) → first ≡ x.index + 1 → k < length x.tag.attributes → (place : ℕ) × IsAttributeRecord bytes (records nest (first_place bytes)) (first + 2 * k) place (get_or x.tag.attributes k d)
scope_attribute bytes lists open_tags depth nest x xs s first k d e h =
    let rs = records nest (first_place bytes) in
    let a = chain_attributes bytes rs (nodes_of bytes nest) (document_holds bytes nest s.shown.accepted.document) x xs s.chain.0 in
    let r = attribute_number x.tag.attributes bytes rs (x.index + 1) a.0 k d a.1 h in
    (r.0, subst (λ m. IsAttributeRecord bytes rs (m + 2 * k) r.0 (get_or x.tag.attributes k d)) (sym e) r.1)

any_later : (f : Attribute → Bool) (others : List Attribute) (k m : ℕ) → list_any f (take k others) ≡ true → list_any f (take (k + m) others) ≡ true
any_later f others k zero h = let e : k + 0 ≡ k = omega arith in ap (λ n. list_any f (take n others)) e ∙ h
any_later f others k (suc m) h = let e : k + suc m ≡ k + m + 1 = omega arith in ap (λ n. list_any f (take n others)) e ∙ list_any_kept f others (k + m) (any_later f others k m h)

pub any_found : (f : Attribute → Bool) (others : List Attribute) (k n : ℕ) (d : Attribute) → k < length others → k < n → f (get_or others k d) ≡ true → true ≡ list_any f (take n others)
any_found f others k n d h l t =
    let here : list_any f (take (k + 1) others) ≡ true = list_any_more f others k d h ∙ or_second (list_any f (take k others)) _ t in
    let e : k + 1 + (n - (k + 1)) ≡ n = omega arith in
    sym (ap (λ m. list_any f (take m others)) (sym e) ∙ any_later f others (k + 1) (n - (k + 1)) here)
  where
    or_second : (a b : Bool) → b ≡ true → (a || b) ≡ true
    or_second true b e = refl
    or_second false b e = e

pub any_passed : (f : Attribute → Bool) (others : List Attribute) (k : ℕ) (d : Attribute) → k < length others → list_any f (take k others) ≡ false → f (get_or others k d) ≡ false → list_any f (take (k + 1) others) ≡ false
any_passed f others k d h e t = list_any_more f others k d h ∙ ap₂ (λ a b. a || b) e t
