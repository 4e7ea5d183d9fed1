-- Plain names do not offend.
use Rattle.std.proofs.Common.{◌≡◌, ℕ, ◌+◌, ◌<◌, ◌^◌, Bool, true, false, cond, not, ◌||◌, List, [], ◌∷◌, ◌++◌, length, refl, ap, ap₂, sym, ◌∙◌, subst, arith, None, bytes_eq, codes, append_assoc, ⊎_elim}
use Rattle.std.specs.List.{AllByRecursion as Each}
use Rattle.xml_model.specs.Chars.{size, prefix_of, is_qname}
use Rattle.xml_model.specs.Items.{Attribute, Tag, first_place, written_attribute}
use Rattle.xml_model.specs.Nest.{Forest}
use Rattle.xml_model.specs.Records.{Record, records, declares, attributes_place}
use Rattle.xml_model.specs.Scan.{record_at}
use Rattle.xml_model.specs.Tree.{Thing}
use Rattle.xml_model.specs.Names.{tags_of}
use Rattle.xml_model.specs.Accepted.{over_names, repeats, offences, repeated, is_bound, tag_offends, attribute_offends, offending_attributes, name_place, seen_with}
use Rattle.xml_model.proofs.Each.{each_append, each_more}
use Rattle.vtd_words.specs.declared.packing.Parts.{Parts}
use Rattle.vtd_words.specs.Packed.{record_of}
use Rattle.vtd_words.specs.Lists.{Lists}
use Rattle.vtd_words.specs.Table.{IsNestOf, Shows, nodes_of}
use Rattle.vtd_words.proofs.Fitting.{nest_shown}
use Rattle.vtd_namespaces.specs.NameRecords.{AreAttributeRecords, IsRecordOfThing}
use Rattle.vtd_namespaces.specs.Faults.{first_of, thing_faults, node_faults}
use Rattle.vtd_namespaces.specs.Offences.{seen_after, IsFine}
use Rattle.vtd_namespaces.specs.Plain.{IsPlain, ArePlain}
use Rattle.vtd_namespaces.proofs.DeclarationLemmas.{token_two}
use Rattle.vtd_namespaces.proofs.QNameLemmas.{unprefixed}
use Rattle.vtd_namespaces.proofs.OffenceLemmas.{other_name}
use Rattle.vtd_namespaces.proofs.AttributeLemmas.{by_no_prefix}
use Rattle.vtd_namespaces.proofs.InspectLemmas.{fresh, fine_from, seen_more}
use Rattle.vtd_namespaces.proofs.NodeLemmas.{all_before}
use Rattle.vtd_namespaces.proofs.TagLemmas.{Known, all_known}
use Rattle.vtd_namespaces.proofs.RoundLemmas.{below_or}
use Rattle.vtd_words.proofs.Shown.{shown_length}

plain_attributes : (bytes : List ℕ) (rs : List Record) → ArePlain bytes rs → (tags : List Tag) (n at start : ℕ) (done left : List Attribute) → AreAttributeRecords bytes rs n at left → Each (IsFine tags) done → repeated start [] (done ++ left) ≡ [] →
    offending_attributes tags at (seen_after tags [] done) left ≡ []
plain_attributes bytes rs plain tags n at start done [] hold fine new = refl
plain_attributes bytes rs plain tags n at start done (a ∷ left) hold fine new =
    let r = record_at n rs in
    let p : Parts = record { token = r.token; depth = r.depth; prefix = r.prefix; length = r.len; offset = r.offset } in
    let o = other_name bytes rs n (name_place at a) p a refl hold.0 in
    let w : n < length rs = omega (arith, hold.0.room) in
    let is = plain n w in
    let d : declares a.name ≡ false = token_two (declares a.name) (λ k. is.undeclared (o.token ∙ k)) in
    let two : r.token ≡ 2 = o.token ∙ ap (λ (b : Bool). cond b 3 2) d in
    let name = is.attribute two in
    let off : false ≡ attribute_offends tags (seen_after tags [] done) a =
    by_no_prefix bytes p tags done a o (name.qualified a.name o.named o.slice o.prefix) is.undeclared name.unprefixed fine (fresh done left a start [] new) in
    let more : offending_attributes tags (at + size (written_attribute a)) (seen_after tags [] (done ++ (a ∷ []))) left ≡ [] =
    plain_attributes bytes rs plain tags (n + 2) (at + size (written_attribute a)) start (done ++ (a ∷ [])) left hold.1 (each_append (IsFine tags) done (a ∷ []) fine (fine_from tags (seen_after tags [] done) a (sym off), tt)) (ap (repeated start []) (append_assoc done (a ∷ []) left) ∙ new) in
    ap (λ b. cond b (name_place at a ∷ []) [] ++ offending_attributes tags (at + size (written_attribute a)) (seen_with tags a (seen_after tags [] done)) left) (sym off)
    ∙ ap (λ z. offending_attributes tags (at + size (written_attribute a)) z left) (sym (seen_more tags done a [])) ∙ more

plain_tag : (tags : List Tag) (name : List ℕ) → prefix_of name ≡ [] → is_qname name ≡ true → tag_offends tags name ≡ false
plain_tag tags name p q = ap₂ (λ x y. not x || bytes_eq y (codes "xmlns") || not (is_bound y tags)) q p

plain_thing : (bytes : List ℕ) (rs : List Record) → ArePlain bytes rs → (n at : ℕ) (tags : List Tag) (what : Thing) → n < length rs → IsRecordOfThing bytes rs n at what → thing_faults repeats at tags what ≡ [] → thing_faults offences at tags what ≡ []
plain_thing bytes rs plain n at tags (Thing.element t inside) w h u =
    let name = (plain n w).tag h.token in
    let none = (unprefixed t.name (sym h.name.prefix ∙ name.unprefixed)).none in
    let attributes : offending_attributes (t ∷ tags) (attributes_place at t) [] t.attributes ≡ [] = plain_attributes bytes rs plain (t ∷ tags) (n + 1) (attributes_place at t) (attributes_place at t) [] t.attributes h.attributes tt u in
    ap (λ b. cond b ((at + 1) ∷ []) [] ++ offending_attributes (t ∷ tags) (attributes_place at t) [] t.attributes) (plain_tag (t ∷ tags) t.name none (name.qualified t.name h.name.named h.name.slice h.name.prefix)) ∙ attributes
plain_thing bytes rs plain n at tags (Thing.instruction i) w h u = ap (λ b. cond b ((at + 2) ∷ []) []) ((plain n w).target h.token i.target h.slice)
plain_thing bytes rs plain n at tags (Thing.root first f) w h u = refl
plain_thing bytes rs plain n at tags (Thing.attribute a) w h u = refl
plain_thing bytes rs plain n at tags (Thing.text xs) w h u = refl
plain_thing bytes rs plain n at tags (Thing.comment cs) w h u = refl

pub plain_found : (bytes : List ℕ) (lists : Lists) (nest : Forest) → length bytes < 2 ^ 30 → IsNestOf bytes lists nest → over_names repeats [] (first_place bytes) nest ≡ [] → ((rs : List Record) → Shows lists.records rs → ArePlain bytes rs) →
    None ≡ first_of (over_names offences [] (first_place bytes) nest)
plain_found bytes lists nest few s h plain =
    let rs = records nest (first_place bytes) in
    let shows = nest_shown bytes lists nest few s in
    all_before offences bytes lists nest few s (length lists.records) (omega arith)
    (each_more (Known bytes nest) (λ e. e.index < length lists.records → node_faults offences e ≡ [])
    (λ e k l. plain_thing bytes rs (plain rs shows) e.index e.start (tags_of e) e.what (omega (arith, l, shown_length lists.records rs shows)) k.holds k.unrepeated)
    (nodes_of bytes nest) (all_known bytes lists nest s h))

-- one record more is plain
pub plain_more : (bytes : List ℕ) (rs : List Record) (at : ℕ) (p : Parts) → record_of p ≡ record_at at rs → IsPlain bytes (record_of p) → ((n : ℕ) → n < at → IsPlain bytes (record_at n rs)) → (n : ℕ) → n < at + 1 → IsPlain bytes (record_at n rs)
plain_more bytes rs at p here is h n l = ⊎_elim (h n) (λ m. let e : at ≡ n = omega (arith, l, m) in subst (λ k. IsPlain bytes (record_at k rs)) e (subst (IsPlain bytes) here is)) (below_or n at)
