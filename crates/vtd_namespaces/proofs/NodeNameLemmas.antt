-- The names of nodes, by their first records.
use Rattle.std.proofs.Common.{◌≡◌, ℕ, suc, ◌<◌, ◌^◌, true, ◌==◌, List, [], ◌∷◌, length, refl, ap, sym, ◌∙◌, subst, arith, Option, Some, bytes_eq, codes, ne_eqb}
use Rattle.std.specs.Prelude.{encode_utf8_all, IsUtf8}
use Rattle.std.specs.Str.{chars}
use Rattle.std.proofs.Math.Utf8.{encode}
use Rattle.std.proofs.lemmas.Str.{encodes-chars, chars-nil}
use Rattle.xml_model.specs.declared.Kind.{Kind}
use Rattle.xml_model.specs.declared.Kind.TheVariants as kinds
use Rattle.xml_model.specs.Chars.{size, prefix_of, local_of, is_name}
use Rattle.xml_model.specs.Items.{first_place}
use Rattle.xml_model.specs.Nest.{Forest}
use Rattle.xml_model.specs.Records.{Record, records}
use Rattle.xml_model.specs.Scan.{record_at, kind_of_token}
use Rattle.xml_model.specs.Tree.{Thing, Entry, Identifies, kind_of}
use Rattle.xml_model.specs.Names.{xml_uri}
use Rattle.xml_model.specs.Laws.{FirstRecordShows}
use Rattle.xml_model.proofs.Each.{each_at}
use Rattle.xml_model.proofs.Bounds.{nest_shallow}
use Rattle.xml_model.proofs.FirstRecords.{first_records}
use Rattle.vtd_words.specs.declared.packing.Parts.{Parts}
use Rattle.vtd_words.specs.Packed.{record_of}
use Rattle.vtd_words.specs.Lists.{Lists}
use Rattle.vtd_words.specs.Table.{IsNestOf, Shows, nodes_of}
use Rattle.vtd_words.proofs.Fitting.{nest_shown}
use Rattle.vtd_text.specs.Joined.{slice_of}
use Rattle.vtd_namespaces.specs.NameRecords.{IsRecordOfThing, HasNameRecord}
use Rattle.vtd_namespaces.specs.NodeNames.{HasName, node_prefix, node_local}
use Rattle.vtd_namespaces.proofs.NameRecordLemmas.{document_holds}
use Rattle.vtd_namespaces.proofs.RepeatLemmas.{eq_encoded}

-- an element or an attribute, by its record
pub record IsNamed (bytes : List ℕ) (p : Parts) (what : Thing) : Type 0 where
  pub name : List ℕ
  pub slice : slice_of bytes (record_of p) ≡ encode_utf8_all name
  pub prefix : p.prefix ≡ size (prefix_of name)
  pub named : is_name name ≡ true
  pub prefix_is : node_prefix what ≡ prefix_of name
  pub local_is : node_local what ≡ local_of name

-- what the record of a node with a name says
pub record NameKnown (bytes : List ℕ) (p : Parts) (what : Thing) : Type 0 where
  pub instruction : p.token ≡ 7 → (node_prefix what ≡ []) × (slice_of bytes (record_of p) ≡ encode_utf8_all (node_local what))
  pub other : (p.token ≡ 7 → ⊥) → IsNamed bytes p what

name_by : (bytes : List ℕ) (rs : List Record) (p : Parts) (n at : ℕ) (what : Thing) → record_of p ≡ record_at n rs → IsRecordOfThing bytes rs n at what → kind_of_token p.token ≡ Some (kind_of what) → HasName (kind_of what) → NameKnown bytes p what
name_by bytes rs p n at (Thing.element t inside) e w k h = record {
  instruction = λ z. let q : ◌≡◌ {A = Option Kind} (Some kinds.Instruction) (Some kinds.Element) = sym (ap kind_of_token z) ∙ k in absurd (cc);
  other = λ z. record { name = t.name; slice = ap (slice_of bytes) e ∙ w.name.slice; prefix = ap (λ r. r.prefix) e ∙ w.name.prefix; named = w.name.named; prefix_is = refl; local_is = refl };
}
name_by bytes rs p n at (Thing.attribute a) e w k h = record {
  instruction = λ z. let q : ◌≡◌ {A = Option Kind} (Some kinds.Instruction) (Some kinds.Attribute) = sym (ap kind_of_token z) ∙ k in absurd (cc);
  other = λ z. record { name = a.name; slice = ap (slice_of bytes) e ∙ w.name.slice; prefix = ap (λ r. r.prefix) e ∙ w.name.prefix; named = w.name.named; prefix_is = refl; local_is = refl };
}
name_by bytes rs p n at (Thing.instruction i) e w k h = record { instruction = λ z. (refl, ap (slice_of bytes) e ∙ w.slice); other = λ z. absurd (z (ap (λ r. r.token) e ∙ w.token)) }
name_by bytes rs p n at (Thing.root first f) e w k h = absurd h
name_by bytes rs p n at (Thing.text xs) e w k h = absurd h
name_by bytes rs p n at (Thing.comment cs) e w k h = absurd h

pub name_known : (bytes : List ℕ) (lists : Lists) → length bytes < 2 ^ 30 → (nest : Forest) → IsNestOf bytes lists nest → (kind : Kind) (at : ℕ) → HasName kind → (p : Parts) → ((rs : List Record) → Shows lists.records rs → record_of p ≡ record_at at rs) →
    (e : Entry) → Identifies kind at e (nodes_of bytes nest) → NameKnown bytes p e.what
name_known bytes lists few nest s kind at h p here e w =
    let rs = records nest (first_place bytes) in
    let there : record_of p ≡ record_at e.index rs = here rs (nest_shown bytes lists nest few s) ∙ ap (λ n. record_at n rs) (sym w.2) in
    let f = each_at (FirstRecordShows rs) (nodes_of bytes nest) e (first_records nest (first_place bytes) (nest_shallow nest s.accepted.document.nests)) w.0 in
    let t = each_at (HasNameRecord bytes rs) (nodes_of bytes nest) e (document_holds bytes nest s.accepted.document) w.0 in
    name_by bytes rs p e.index e.start e.what there t (ap (λ r. kind_of_token r.token) there ∙ f.kind) (subst HasName (sym w.1) h)

-- texts

pub empty_text : (text : List ℕ) → IsUtf8 text → (length text == 0) ≡ bytes_eq [] (chars text)
empty_text [] u = sym (ap (bytes_eq []) chars-nil)
empty_text (b ∷ text) u = by (chars (b ∷ text)) refl
  where
    by : (cs : List ℕ) → chars (b ∷ text) ≡ cs → (length (b ∷ text) == 0) ≡ bytes_eq [] cs
    by [] e = let z : ◌≡◌ {A = List ℕ} (b ∷ text) [] = sym (encodes-chars (b ∷ text) u) ∙ ap encode_utf8_all e in absurd (cc)
    by (c ∷ cs) e = ne_eqb (suc (length text)) 0 (λ z. omega arith)

xml_uri_encoded : encode_utf8_all xml_uri ≡ codes "http://www.w3.org/XML/1998/namespace"
unfolding encode
xml_uri_encoded = refl

-- bytes of a text against those of another
pub text_same : (xs text : List ℕ) → IsUtf8 text → bytes_eq (encode_utf8_all xs) text ≡ bytes_eq xs (chars text)
text_same xs text u = ap (bytes_eq (encode_utf8_all xs)) (sym (encodes-chars text u)) ∙ eq_encoded xs (chars text)

pub xml_text : (text : List ℕ) → IsUtf8 text → bytes_eq text (codes "http://www.w3.org/XML/1998/namespace") ≡ bytes_eq xml_uri (chars text)
xml_text text u = Rattle.vtd_namespaces.proofs.ScopeLemmas.eq_turned text (codes "http://www.w3.org/XML/1998/namespace") ∙ ap (λ x. bytes_eq x text) (sym xml_uri_encoded) ∙ text_same xml_uri text u
