-- The names of nodes as they are written, by their first records.
use Rattle.std.proofs.Common.{◌≡◌, ℕ, ◌<◌, ◌^◌, List, length, refl, ap, sym, ◌∙◌, subst}
use Rattle.std.specs.Option.{unwrap_or}
use Rattle.std.specs.Prelude.{encode_utf8_all, IsUtf8, IfOk, Result, []}
use Rattle.std.specs.Str.{chars}
use Rattle.std.proofs.lemmas.Result.{IfOk-weaker}
use Rattle.std.proofs.lemmas.Slice.Eq.{bytes_eq-Decides}
use Rattle.std.proofs.lemmas.Str.{encodes-chars, chars-encodes, chars-nil}
use Rattle.std.proofs.Math.Utf8.{encode}
use Rattle.xml_model.specs.declared.Kind.{Kind}
use Rattle.xml_model.specs.declared.Kind.TheVariants as kinds
use Rattle.xml_model.specs.Names.{xml_uri, expanded}
use Rattle.xml_model.specs.Items.{first_place}
use Rattle.xml_model.specs.Nest.{Forest}
use Rattle.xml_model.specs.Records.{Record, records}
use Rattle.xml_model.specs.Scan.{record_at}
use Rattle.xml_model.specs.Tree.{Thing, Entry, Identifies, kind_of}
use Rattle.xml_model.proofs.Each.{each_at}
use Rattle.vtd_words.specs.declared.packing.Parts.{Parts}
use Rattle.vtd_words.specs.Packed.{record_of}
use Rattle.vtd_words.specs.Lists.{Lists}
use Rattle.xml_model.specs.declared.Node.{Node}
use Rattle.vtd_words.specs.Table.{IsNestOf, ForEachEntry, Shows, nodes_of}
use Rattle.vtd_words.proofs.Fitting.{nest_shown}
use Rattle.vtd_text.specs.Joined.{slice_of}
use Rattle.vtd_namespaces.specs.NameRecords.{IsRecordOfThing, HasNameRecord}
use Rattle.vtd_namespaces.specs.NodeNames.{HasName}
use Rattle.vtd_namespaces.proofs.NameRecordLemmas.{document_holds}
use Rattle.vtd_namespaces.proofs.RepeatLemmas.{eq_encoded}
use Rattle.vtd_namespaces.specs.Uris.{uri_value}
use Rattle.vtd_namespaces.specs.declared.uri.Uri.{Uri}
use Rattle.vtd_namespaces.specs.declared.uri.Uri.TheVariants as uris
use Rattle.vtd_namespaces.specs.NodeNames.{node_local}
use Rattle.xpath_meaning.specs.Functions.{written_name, uri_text, local_part}

written_by : (bytes : List ℕ) (rs : List Record) (n at : ℕ) (what : Thing) → IsRecordOfThing bytes rs n at what → HasName (kind_of what) →
    slice_of bytes (record_at n rs) ≡ encode_utf8_all (written_name what)
written_by bytes rs n at (Thing.element t inside) w h = w.name.slice
written_by bytes rs n at (Thing.attribute a) w h = w.name.slice
written_by bytes rs n at (Thing.instruction i) w h = w.slice
written_by bytes rs n at (Thing.root first f) w h = absurd h
written_by bytes rs n at (Thing.text xs) w h = absurd h
written_by bytes rs n at (Thing.comment cs) w h = absurd h

pub written_known : (bytes : List ℕ) (lists : Lists) → length bytes < 2 ^ 30 → (nest : Forest) → IsNestOf bytes lists nest → (kind : Kind) (at : ℕ) →
    HasName kind → (p : Parts) → ((rs : List Record) → Shows lists.records rs → record_of p ≡ record_at at rs) →
    (e : Entry) → Identifies kind at e (nodes_of bytes nest) → slice_of bytes (record_of p) ≡ encode_utf8_all (written_name e.what)
written_known bytes lists few nest s kind at h p here e w =
    let rs = records nest (first_place bytes) in
    let there : record_of p ≡ record_at e.index rs = here rs (nest_shown bytes lists nest few s) ∙ ap (λ n. record_at n rs) (sym w.2) in
    let t = each_at (HasNameRecord bytes rs) (nodes_of bytes nest) e (document_holds bytes nest s.accepted.document) w.0 in
    ap (slice_of bytes) there ∙ written_by bytes rs e.index e.start e.what t (subst HasName (sym w.1) h)

-- texts that are made of bytes

pub no_characters : {E : Type 0} (r : Result (List ℕ) E) → IfOk r (λ t. t ≡ chars []) → IfOk r (λ t. t ≡ [])
no_characters r h = IfOk-weaker r (λ t. t ≡ chars []) (λ t. t ≡ []) (λ t e. e ∙ chars-nil) h

encodes_one : (x y : List ℕ) → encode_utf8_all x ≡ encode_utf8_all y → x ≡ y
encodes_one x y h = (bytes_eq-Decides x y).0 (sym (eq_encoded x y) ∙ (bytes_eq-Decides (encode_utf8_all x) (encode_utf8_all y)).1 h)

pub decoded : {E : Type 0} (r : Result (List ℕ) E) (piece bytes : List ℕ) → piece ≡ bytes → IsUtf8 bytes → IfOk r (λ t. t ≡ chars piece) →
    IfOk r (λ t. (cs : List ℕ) → bytes ≡ encode_utf8_all cs → t ≡ cs)
decoded r piece bytes p u h =
    IfOk-weaker r (λ t. t ≡ chars piece) (λ t. (cs : List ℕ) → bytes ≡ encode_utf8_all cs → t ≡ cs)
    (λ t e cs w. e ∙ ap chars p ∙ encodes_one (chars bytes) cs (encodes-chars bytes u ∙ w)) h

-- of a node's name
pub named_text : {E : Type 0} (r : Result (List ℕ) E) (bytes : List ℕ) (lists : Lists) (node : Node) (name : Entry → List ℕ) (written : List ℕ) →
    ForEachEntry bytes lists node (λ nest e. written ≡ encode_utf8_all (name e)) →
    IfOk r (λ t. (cs : List ℕ) → written ≡ encode_utf8_all cs → t ≡ cs) → IfOk r (λ t. ForEachEntry bytes lists node (λ nest e. t ≡ name e))
named_text r bytes lists node name written known h =
    IfOk-weaker r (λ t. (cs : List ℕ) → written ≡ encode_utf8_all cs → t ≡ cs) (λ t. ForEachEntry bytes lists node (λ nest e. t ≡ name e))
    (λ t k nest s e w. k (name e) (known nest s e w)) h

-- URIs

uri_encoded : encode_utf8_all xml_uri ≡ xml_uri
unfolding encode
uri_encoded = refl

xml_characters : chars xml_uri ≡ xml_uri
xml_characters = ap chars (sym uri_encoded) ∙ chars-encodes xml_uri refl

pub xml_text : {W E : Type 0} (r : Result (List ℕ) E) (uri : Uri W) → uri ≡ uris.Xml → IfOk r (λ t. t ≡ chars xml_uri) →
    IfOk r (λ t. t ≡ unwrap_or (uri_value uri) [])
xml_text r uri k h = IfOk-weaker r (λ t. t ≡ chars xml_uri) (λ t. t ≡ unwrap_or (uri_value uri) [])
    (λ t e. e ∙ xml_characters ∙ sym (ap (λ u. unwrap_or (uri_value u) []) k)) h

no_uri_by : (e : Entry) (what : Thing) → (kind_of what ≡ kinds.Element → ⊥) → (kind_of what ≡ kinds.Attribute → ⊥) → [] ≡ uri_text (record e { what = what })
unfolding expanded
no_uri_by e (Thing.element t inside) x y = absurd (x refl)
no_uri_by e (Thing.attribute a) x y = absurd (y refl)
no_uri_by e (Thing.root first f) x y = refl
no_uri_by e (Thing.text xs) x y = refl
no_uri_by e (Thing.comment cs) x y = refl
no_uri_by e (Thing.instruction i) x y = refl

pub no_uri_text : {E : Type 0} (r : Result (List ℕ) E) (bytes : List ℕ) (lists : Lists) (node : Node) → (node.kind ≡ kinds.Element → ⊥) →
    (node.kind ≡ kinds.Attribute → ⊥) → IfOk r (λ t. t ≡ []) → IfOk r (λ t. ForEachEntry bytes lists node (λ nest e. t ≡ uri_text e))
no_uri_text r bytes lists node x y h =
    IfOk-weaker r (λ t. t ≡ []) (λ t. ForEachEntry bytes lists node (λ nest e. t ≡ uri_text e))
    (λ t k nest s e w. k ∙ no_uri_by e e.what (λ q. x (sym w.1 ∙ q)) (λ q. y (sym w.1 ∙ q))) h

-- the words of both crates are one

pub local_same : (what : Thing) → node_local what ≡ local_part what
local_same (Thing.element t inside) = refl
local_same (Thing.attribute a) = refl
local_same (Thing.instruction i) = refl
local_same (Thing.root first f) = refl
local_same (Thing.text xs) = refl
local_same (Thing.comment cs) = refl
