-- The nodes of a document that have names, by the types of their records.
use Rattle.std.proofs.Common.{◌≡◌, ℕ, zero, suc, ◌+◌, ◌<◌, ◌≤◌, ◌^◌, true, cond, ◌&&◌, ◌||◌, List, [], ◌∷◌, length, drop, refl, ap, sym, ◌∙◌, subst, arith, Option, Some, None, ⊎_elim, not}
use Rattle.std.specs.List.{AllByRecursion as Each}
use Rattle.std.proofs.lemmas.Bool.{cases_lt}
use Rattle.xml_model.specs.declared.Kind.{Kind}
use Rattle.xml_model.specs.declared.Kind.TheVariants as kinds
use Rattle.xml_model.specs.Items.{Attribute, Tag, first_place}
use Rattle.xml_model.specs.Nest.{Forest}
use Rattle.xml_model.specs.Records.{Record, records, forest_records, attributes_place}
use Rattle.xml_model.specs.Scan.{record_at, kind_of_token, kind_by_scan, begins_by_scan, is_start_token, begins_node, next_prev, is_text_token, joins_prev, level_of, run_has}
use Rattle.xml_model.specs.Tree.{Thing, Entry, Identifies, all, at_index, kind_of}
use Rattle.xml_model.specs.Laws.{FirstRecordShows}
use Rattle.xml_model.specs.Names.{tags_of}
use Rattle.xml_model.specs.Accepted.{Faults, over_names, repeated, repeats}
use Rattle.xml_model.proofs.Each.{each_both, each_more, each_always, each_at, Rising}
use Rattle.xml_model.proofs.Rise.{index, indexes_rise}
use Rattle.xml_model.proofs.ScanSteps.{begins_here}
use Rattle.xml_model.proofs.FirstRecords.{first_records}
use Rattle.xml_model.proofs.Bounds.{nest_shallow}
use Rattle.vtd_words.specs.Lists.{Lists}
use Rattle.vtd_words.specs.declared.packing.Parts.{Parts}
use Rattle.vtd_words.specs.Packed.{record_of}
use Rattle.vtd_words.specs.Table.{IsNestOf, Shows, nodes_of}
use Rattle.vtd_words.proofs.Fitting.{nest_shown}
use Rattle.vtd_words.proofs.Owners.{kind_in, holds_in}
use Rattle.vtd_namespaces.specs.NameRecords.{AreAttributeRecords, IsRecordOfThing, HasNameRecord}
use Rattle.vtd_namespaces.specs.Faults.{first_of, node_faults, thing_faults}
use Rattle.vtd_words.proofs.Shown.{shown_length}
use Rattle.vtd_namespaces.proofs.NameRecordLemmas.{document_holds}
use Rattle.vtd_namespaces.proofs.FaultLemmas.{NoneBefore, first_found, none_found, none_listed}

-- where the record with an index is of a type that always begins a node, a node of that kind has it as its first
starts_there : (rs : List Record) (n : ℕ) (kind : Kind) → n < length rs → is_start_token (record_at n rs).token ≡ true → kind_of_token (record_at n rs).token ≡ Some kind → kind_by_scan n rs ≡ Some kind
starts_there rs zero kind l s k = k
starts_there rs (suc n) kind l s k =
    let e : suc n ≡ n + 1 = omega arith in
    let b : begins_by_scan (suc n) rs ≡ true =
    ap (λ m. begins_by_scan m rs) e ∙ begins_here n rs (omega (arith, l))
    ∙ ap (λ m. begins_node (next_prev (record_at n rs)) (record_at m rs) (drop (n + 2) rs)) (sym e) ∙ ap (λ x. x || (is_text_token (record_at (suc n) rs).token && not (joins_prev (next_prev (record_at n rs)) (level_of (record_at (suc n) rs))) && run_has (level_of (record_at (suc n) rs)) (record_at (suc n) rs ∷ drop (n + 2) rs))) s in
    ap (λ x. cond x (kind_of_token (record_at (suc n) rs).token) None) b ∙ k

pub node_there : (bytes : List ℕ) (lists : Lists) (nest : Forest) → IsNestOf bytes lists nest → (n : ℕ) (kind : Kind) → let rs = records nest (first_place bytes) in
    n < length rs → is_start_token (record_at n rs).token ≡ true → kind_of_token (record_at n rs).token ≡ Some kind → (e : Entry) × Identifies kind n e (nodes_of bytes nest)
node_there bytes lists nest s n kind l t k =
    let known = starts_there (records nest (first_place bytes)) n kind l t k in
    holds_in bytes nest n kind (at_index n (nodes_of bytes nest)) refl (sym known ∙ sym (kind_in bytes lists nest s n))

-- each node begins before the records end
pub indexes_low : (bytes : List ℕ) (nest : Forest) (n : ℕ) → length (records nest (first_place bytes)) ≤ n → Each (λ e. e.index < n) (nodes_of bytes nest)
unfolding records
indexes_low bytes nest n h =
    let first = first_place bytes in
    low (all nest first) 0 (suc (length (forest_records 0 first nest))) (indexes_rise nest first) h
  where
    low : (es : List Entry) (from high : ℕ) → Rising index from es high → high ≤ n → Each (λ e. e.index < n) es
    low [] from high r k = tt
    low (e ∷ es) from high r k = (before es (suc e.index) high r.1 k, low es (suc e.index) high r.1 k)
      where
        before : (es : List Entry) (from high : ℕ) → Rising index from es high → high ≤ n → from ≤ n
        before [] from high r k = omega arith
        before (x ∷ es) from high r k = let q : suc x.index ≤ n = before es (suc x.index) high r.1 k in omega (arith, r.0, q)

pub none_before_first : (w : Faults) (es : List Entry) → NoneBefore w 0 es
none_before_first w es = each_always (λ e. e.index < 0 → node_faults w e ≡ []) (λ e h. absurd (omega arith)) es

-- one record further
pub none_more : (w : Faults) (n : ℕ) (es : List Entry) → NoneBefore w n es → Each (λ e. e.index ≡ n → node_faults w e ≡ []) es → NoneBefore w (n + 1) es
none_more w n es h k = each_both (λ e. e.index < n → node_faults w e ≡ []) (λ e. e.index ≡ n → node_faults w e ≡ []) (λ e. e.index < n + 1 → node_faults w e ≡ []) step es h k
  where
    split : (p : ℕ) (X : Type 0) → (p < n → X) → (p ≡ n → X) → p < n + 1 → X
    split p X f g l = ⊎_elim f (λ h. g (omega arith)) (cases_lt p n)

    step : (e : Entry) → (e.index < n → node_faults w e ≡ []) → (e.index ≡ n → node_faults w e ≡ []) → e.index < n + 1 → node_faults w e ≡ []
    step e f g l = split e.index (node_faults w e ≡ []) f g l

-- names that repeat an earlier one

pub element_token : (n : ℕ) → kind_of_token n ≡ Some kinds.Element → n ≡ 0
element_token n h = grind arith

untagged : (at : ℕ) (tags : List Tag) (what : Thing) (token : ℕ) → (token ≡ 0 → ⊥) → kind_of_token token ≡ Some (kind_of what) → thing_faults repeats at tags what ≡ []
untagged at tags (Thing.element u inside) token t k = absurd (t (element_token token k))
untagged at tags (Thing.root first f) token t k = refl
untagged at tags (Thing.attribute a) token t k = refl
untagged at tags (Thing.text xs) token t k = refl
untagged at tags (Thing.comment cs) token t k = refl
untagged at tags (Thing.instruction i) token t k = refl

-- a record of another type than 0 begins no element
pub no_tag : (bytes : List ℕ) (lists : Lists) (nest : Forest) → length bytes < 2 ^ 30 → IsNestOf bytes lists nest → (n : ℕ) (p : Parts) → ((rs : List Record) → Shows lists.records rs → record_of p ≡ record_at n rs) → (p.token ≡ 0 → ⊥) →
    NoneBefore repeats n (nodes_of bytes nest) → NoneBefore repeats (n + 1) (nodes_of bytes nest)
no_tag bytes lists nest few s n p here t before =
    let rs = records nest (first_place bytes) in
    let token : p.token ≡ (record_at n rs).token = ap (λ r. r.token) (here rs (nest_shown bytes lists nest few s)) in
    none_more repeats n (nodes_of bytes nest) before
    (each_more (FirstRecordShows rs) (λ e. e.index ≡ n → node_faults repeats e ≡ [])
    (λ e f h. untagged e.start (tags_of e) e.what p.token t (ap kind_of_token token ∙ subst (λ k. kind_of_token (record_at k rs).token ≡ Some (kind_of e.what)) h f.kind))
    (nodes_of bytes nest) (first_records nest (first_place bytes) (nest_shallow nest s.accepted.document.nests)))

-- what is known of the attributes whose records begin at an index
abbrev pub AttributesKnown : List ℕ → List ℕ → ℕ → Option ℕ → Type 0
AttributesKnown bytes words n r = (rs : List Record) → Shows words rs → (at : ℕ) (others : List Attribute) → AreAttributeRecords bytes rs n at others → r ≡ first_of (repeated at [] others)

tag_known : (bytes : List ℕ) (rs : List Record) (words : List ℕ) (n index : ℕ) (r : Option ℕ) → Shows words rs → AttributesKnown bytes words (n + 1) r → (at : ℕ) (tags : List Tag) (what : Thing) → index ≡ n → kind_of what ≡ kinds.Element → IsRecordOfThing bytes rs index at what →
    r ≡ first_of (thing_faults repeats at tags what)
tag_known bytes rs words n index r s known at tags (Thing.element t inside) h k w = known rs s (attributes_place at t) t.attributes (subst (λ m. AreAttributeRecords bytes rs (m + 1) (attributes_place at t) t.attributes) h w.attributes)
tag_known bytes rs words n index r s known at tags (Thing.root first f) h k w = absurd (cc)
tag_known bytes rs words n index r s known at tags (Thing.attribute a) h k w = absurd (cc)
tag_known bytes rs words n index r s known at tags (Thing.text xs) h k w = absurd (cc)
tag_known bytes rs words n index r s known at tags (Thing.comment cs) h k w = absurd (cc)
tag_known bytes rs words n index r s known at tags (Thing.instruction i) h k w = absurd (cc)

pub same_kind : (j k : Kind) → Some j ≡ Some k → j ≡ k
same_kind j k h = cc

-- a tag none of whose names repeats an earlier one
pub tag_passed : (bytes : List ℕ) (lists : Lists) (nest : Forest) → length bytes < 2 ^ 30 → IsNestOf bytes lists nest → (n : ℕ) (p : Parts) (r : Option ℕ) → ((rs : List Record) → Shows lists.records rs → record_of p ≡ record_at n rs) → p.token ≡ 0 →
    AttributesKnown bytes lists.records (n + 1) r → r ≡ None → NoneBefore repeats n (nodes_of bytes nest) → NoneBefore repeats (n + 1) (nodes_of bytes nest)
tag_passed bytes lists nest few s n p r here t known none before =
    let rs = records nest (first_place bytes) in
    let shows = nest_shown bytes lists nest few s in
    let token : (record_at n rs).token ≡ 0 = sym (ap (λ r. r.token) (here rs shows)) ∙ t in
    none_more repeats n (nodes_of bytes nest) before
    (each_both (FirstRecordShows rs) (HasNameRecord bytes rs) (λ e. e.index ≡ n → node_faults repeats e ≡ [])
    (λ e f w h.
    let kind : kind_of e.what ≡ kinds.Element = same_kind _ _ (sym f.kind ∙ ap (λ k. kind_of_token (record_at k rs).token) h ∙ ap kind_of_token token) in
    none_listed (node_faults repeats e) (sym (tag_known bytes rs lists.records n e.index r shows known e.start (tags_of e) e.what h kind w) ∙ none))
    (nodes_of bytes nest) (first_records nest (first_place bytes) (nest_shallow nest s.accepted.document.nests)) (document_holds bytes nest s.accepted.document))

-- a tag one of whose names does
pub tag_repeats : (bytes : List ℕ) (lists : Lists) (nest : Forest) → length bytes < 2 ^ 30 → IsNestOf bytes lists nest → (n at : ℕ) (p : Parts) (r : Option ℕ) → ((rs : List Record) → Shows lists.records rs → record_of p ≡ record_at n rs) → p.token ≡ 0 → n < length lists.records →
    AttributesKnown bytes lists.records (n + 1) r → r ≡ Some at → NoneBefore repeats n (nodes_of bytes nest) → Some at ≡ first_of (over_names repeats [] (first_place bytes) nest)
tag_repeats bytes lists nest few s n at p r here t within known some before =
    let rs = records nest (first_place bytes) in
    let shows = nest_shown bytes lists nest few s in
    let token : (record_at n rs).token ≡ 0 = sym (ap (λ r. r.token) (here rs shows)) ∙ t in
    let many : n < length rs = omega (arith, within, shown_length lists.records rs shows) in
    let there = node_there bytes lists nest s n kinds.Element many (ap is_start_token token) (ap kind_of_token token) in
    let e = there.0 in
    let w = each_at (HasNameRecord bytes rs) (nodes_of bytes nest) e (document_holds bytes nest s.accepted.document) there.1.0 in
    sym (first_found repeats (first_place bytes) n at nest before e there.1.0 there.1.2
    (sym (tag_known bytes rs lists.records n e.index r shows known e.start (tags_of e) e.what there.1.2 there.1.1 w) ∙ some))

-- the end of the records
pub all_before : (w : Faults) (bytes : List ℕ) (lists : Lists) (nest : Forest) → length bytes < 2 ^ 30 → IsNestOf bytes lists nest → (n : ℕ) → length lists.records ≤ n → NoneBefore w n (nodes_of bytes nest) → None ≡ first_of (over_names w [] (first_place bytes) nest)
all_before w bytes lists nest few s n h before =
    let rs = records nest (first_place bytes) in
    sym (none_found w (first_place bytes) n nest before (indexes_low bytes nest n (omega (arith, h, shown_length lists.records rs (nest_shown bytes lists nest few s)))))
