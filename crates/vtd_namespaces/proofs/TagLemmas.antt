-- Whether a tag's names offend, and what a document's nodes have of it.
use Rattle.std.proofs.Common.{◌≡◌, ℕ, ◌+◌, ◌<◌, ◌^◌, Bool, true, false, cond, not, ◌||◌, List, [], ◌∷◌, ◌++◌, length, refl, ap, ap₂, sym, ◌∙◌, subst, arith, Option, Some, None, bytes_eq, codes, ◌⊎◌, ⊎_elim, IfSome, is_some}
use Rattle.std.specs.Prelude.{encode_utf8_all}
use Rattle.std.specs.List.{AllByRecursion as Each, Contains, flat_map}
use Rattle.std.proofs.lemmas.Bool.{false≢true}
use Rattle.xml_model.specs.declared.Kind.{Kind}
use Rattle.xml_model.specs.declared.Kind.TheVariants as kinds
use Rattle.xml_model.specs.Chars.{size, prefix_of, is_name, is_qname, has_colon}
use Rattle.xml_model.specs.Items.{Tag, first_place}
use Rattle.xml_model.specs.Nest.{Forest}
use Rattle.xml_model.specs.Records.{Record, records, attributes_place}
use Rattle.xml_model.specs.Scan.{record_at, kind_of_token, is_start_token}
use Rattle.xml_model.specs.Tree.{Thing, Entry, Holder, all, kind_of}
use Rattle.xml_model.specs.Names.{tags_of}
use Rattle.xml_model.specs.Laws.{FirstRecordShows}
use Rattle.xml_model.specs.Accepted.{Faults, over_names, repeated, repeats, offences, is_bound, tag_offends, offending_tag, offending_attributes}
use Rattle.xml_model.proofs.Each.{each_at, each_more, each_both}
use Rattle.xml_model.proofs.Bounds.{nest_shallow}
use Rattle.xml_model.proofs.FirstRecords.{first_records}
use Rattle.vtd_words.specs.declared.packing.Parts.{Parts}
use Rattle.vtd_words.specs.Packed.{record_of}
use Rattle.vtd_words.specs.Lists.{Lists}
use Rattle.vtd_words.specs.Table.{IsNestOf, Shows, nodes_of}
use Rattle.vtd_words.proofs.Fitting.{nest_shown}
use Rattle.vtd_text.specs.Joined.{slice_of}
use Rattle.vtd_namespaces.specs.NameRecords.{IsTagRecord, IsRecordOfThing, HasNameRecord}
use Rattle.vtd_namespaces.specs.Scope.{HolderIn, Chain, tags_in}
use Rattle.vtd_namespaces.specs.OpenTags.{open_before}
use Rattle.vtd_namespaces.specs.Reach.{IsScope}
use Rattle.vtd_namespaces.specs.Faults.{first_of, node_faults, thing_faults, OffenceAt}
use Rattle.vtd_words.proofs.Shown.{shown_length}
use Rattle.vtd_namespaces.proofs.NameRecordLemmas.{document_holds}
use Rattle.vtd_namespaces.proofs.ChainLemmas.{document_chain}
use Rattle.vtd_namespaces.proofs.DeclarationLemmas.{default_encoded}
use Rattle.vtd_namespaces.proofs.OpenLemmas.{opened_at, shown_depth}
use Rattle.vtd_namespaces.proofs.FaultLemmas.{NoneBefore, faults_same, first_found, none_listed}
use Rattle.vtd_namespaces.proofs.NodeLemmas.{element_token, node_there, none_more, same_kind}
use Rattle.vtd_namespaces.proofs.RepeatLemmas.{eq_encoded}

-- the tag's own name

-- what is known of a name that is read from a record
pub record TagName (bytes : List ℕ) (p : Parts) (name : List ℕ) : Type 0 where
  pub slice : slice_of bytes (record_of p) ≡ encode_utf8_all name
  pub prefix : p.prefix ≡ size (prefix_of name)
  pub named : is_name name ≡ true

pub tag_name : (bytes : List ℕ) (rs : List Record) (n at : ℕ) (t : Tag) (p : Parts) → IsTagRecord bytes rs n at t → record_of p ≡ record_at n rs → TagName bytes p t.name
tag_name bytes rs n at t p w e = record { slice = ap (slice_of bytes) e ∙ w.name.slice; prefix = ap (λ r. r.prefix) e ∙ w.name.prefix; named = w.name.named }

pub tag_not_qualified : (tags : List Tag) (name : List ℕ) → is_qname name ≡ false → true ≡ tag_offends tags name
tag_not_qualified tags name q = sym (ap (λ x. not x || bytes_eq (prefix_of name) (codes "xmlns") || not (is_bound (prefix_of name) tags)) q)

pub tag_xmlns : (tags : List Tag) (prefix name : List ℕ) → prefix ≡ encode_utf8_all (prefix_of name) → bytes_eq prefix (codes "xmlns") ≡ true → true ≡ tag_offends tags name
tag_xmlns tags prefix name e t =
    let same : bytes_eq (prefix_of name) (codes "xmlns") ≡ true = sym (ap₂ bytes_eq e (sym default_encoded) ∙ eq_encoded (prefix_of name) (codes "xmlns")) ∙ t in
    sym (ap (λ x. not (is_qname name) || x || not (is_bound (prefix_of name) tags)) same ∙ by (not (is_qname name)))
  where
    by : (a : Bool) → (a || true || not (is_bound (prefix_of name) tags)) ≡ true
    by true = refl
    by false = refl

pub tag_bound : (tags : List Tag) (prefix name : List ℕ) (r : Bool) → prefix ≡ encode_utf8_all (prefix_of name) → is_qname name ≡ true → bytes_eq prefix (codes "xmlns") ≡ false → r ≡ is_bound (prefix_of name) tags → not r ≡ tag_offends tags name
tag_bound tags prefix name r e q t b =
    let other : bytes_eq (prefix_of name) (codes "xmlns") ≡ false = sym (ap₂ bytes_eq e (sym default_encoded) ∙ eq_encoded (prefix_of name) (codes "xmlns")) ∙ t in
    ap not b ∙ sym (ap₂ (λ x y. not x || y || not (is_bound (prefix_of name) tags)) q other)

-- and its attributes

pub tag_first : (tags : List Tag) (t : Tag) (at place : ℕ) → tag_offends (t ∷ tags) t.name ≡ true → place ≡ at + 1 → Some place ≡ first_of (offending_tag at tags t)
tag_first tags t at place h e = ap (λ x. Some x) e ∙ sym (ap (λ b. first_of (cond b ((at + 1) ∷ []) [] ++ offending_attributes (t ∷ tags) (attributes_place at t) [] t.attributes)) h)

-- nodes without repeated names

append_none : (xs ys : List ℕ) → xs ++ ys ≡ [] → (xs ≡ []) × (ys ≡ [])
append_none [] ys h = (refl, h)
append_none (x ∷ xs) ys h = absurd (cc)

flat_none : (w : Faults) (es : List Entry) → flat_map (node_faults w) es ≡ [] → Each (λ e. node_faults w e ≡ []) es
flat_none w [] h = tt
flat_none w (e ∷ es) h = let p = append_none (node_faults w e) (flat_map (node_faults w) es) h in (p.0, flat_none w es p.1)

pub no_faults : (w : Faults) (first : ℕ) (nest : Forest) → over_names w [] first nest ≡ [] → Each (λ e. node_faults w e ≡ []) (all nest first)
no_faults w first nest h = flat_none w (all nest first) (sym (faults_same w first nest) ∙ h)

-- an element where its record is

-- what is known of a node for the offences of its tag
pub record Known (bytes : List ℕ) (nest : Forest) (e : Entry) : Type 0 where
  pub holds : HasNameRecord bytes (records nest (first_place bytes)) e
  pub shows : FirstRecordShows (records nest (first_place bytes)) e
  pub chain : Chain (nodes_of bytes nest) e.holders
  pub unrepeated : node_faults repeats e ≡ []
  pub there : Contains (nodes_of bytes nest) e

contains_each : (es : List Entry) → Each (λ e. Contains es e) es
contains_each es = from es (λ e c. c)
  where
    from : (few : List Entry) → ((e : Entry) → Contains few e → Contains es e) → Each (λ e. Contains es e) few
    from [] f = tt
    from (x ∷ few) f = (f x (Rattle.xml_model.proofs.Each.contains_here x few), from few (λ e c. f e (Rattle.xml_model.proofs.Each.contains_next x few e c)))

pub all_known : (bytes : List ℕ) (lists : Lists) (nest : Forest) → IsNestOf bytes lists nest → over_names repeats [] (first_place bytes) nest ≡ [] → Each (Known bytes nest) (nodes_of bytes nest)
all_known bytes lists nest s h =
    let first = first_place bytes in
    let es = nodes_of bytes nest in
    let rs = records nest first in
    let one = each_both (HasNameRecord bytes rs) (FirstRecordShows rs) (λ e. HasNameRecord bytes rs e × FirstRecordShows rs e) (λ e a b. (a, b)) es (document_holds bytes nest s.accepted.document) (first_records nest first (nest_shallow nest s.accepted.document.nests)) in
    let two = each_both (λ e. Chain es e.holders) (λ e. node_faults repeats e ≡ []) (λ e. Chain es e.holders × (node_faults repeats e ≡ [])) (λ e a b. (a, b)) es (document_chain nest first) (no_faults repeats first nest h) in
    let three = each_both (λ e. Chain es e.holders × (node_faults repeats e ≡ [])) (λ e. Contains es e) (λ e. (Chain es e.holders × (node_faults repeats e ≡ [])) × Contains es e) (λ e a b. (a, b)) es two (contains_each es) in
    each_both (λ e. HasNameRecord bytes rs e × FirstRecordShows rs e) (λ e. (Chain es e.holders × (node_faults repeats e ≡ [])) × Contains es e) (Known bytes nest)
    (λ e a b. record { holds = a.0; shows = a.1; chain = b.0.0; unrepeated = b.0.1; there = b.1 }) es one three

-- the scope of an element, and its tag
pub record TagKnown (bytes : List ℕ) (lists : Lists) (nest : Forest) (open_tags : List ℕ) (depth at : ℕ) (e : Entry) : Type 0 where
  pub tag : Tag
  pub inside : Forest
  pub what : e.what ≡ Thing.element tag inside
  pub scope : IsScope bytes lists open_tags depth nest (record { tag = tag; index = at } ∷ e.holders)
  pub holds : IsTagRecord bytes (records nest (first_place bytes)) at e.start tag
  pub unrepeated : repeated (attributes_place e.start tag) [] tag.attributes ≡ []

pub tag_known : (bytes : List ℕ) (lists : Lists) (nest : Forest) → length bytes < 2 ^ 30 → IsNestOf bytes lists nest → (open_tags : List ℕ) (at depth : ℕ) → open_tags ≡ open_before (at + 1) (records nest (first_place bytes)) → (record_at at (records nest (first_place bytes))).token ≡ 0 →
    (record_at at (records nest (first_place bytes))).depth ≡ depth → depth < 256 → (e : Entry) → e.index ≡ at → Known bytes nest e → TagKnown bytes lists nest open_tags depth at e
tag_known bytes lists nest few s open_tags at depth o t d w e h k = by e.what refl kind k.holds k.unrepeated
  where
    rs : List Record
    rs = records nest (first_place bytes)

    token : (record_at e.index rs).token ≡ 0
    token = ap (λ n. (record_at n rs).token) h ∙ t

    kind : kind_of e.what ≡ kinds.Element
    kind = same_kind _ _ (sym k.shows.kind ∙ ap kind_of_token token)

    many : length e.holders ≡ depth
    many = sym k.shows.level ∙ shown_depth (record_at e.index rs) token ∙ ap (λ n. (record_at n rs).depth) h ∙ d

    by : (what : Thing) → e.what ≡ what → kind_of what ≡ kinds.Element → IsRecordOfThing bytes rs e.index e.start what → thing_faults repeats e.start (tags_of e) what ≡ [] → TagKnown bytes lists nest open_tags depth at e
    by (Thing.element u inside) w' c v f =
        let holder : HolderIn (nodes_of bytes nest) (record { tag = u; index = at }) e.holders = record { entry = e; there = k.there; inside = inside; what = w'; index = h; holders = refl } in
        record {
          tag = u;
          inside = inside;
          what = w';
          scope = record {
            few = few;
            shown = s;
            chain = (holder, k.chain);
            opened = opened_at nest (first_place bytes) s.accepted.document.nests e k.there (ap kind_of w') (record { tag = u; index = at }) h open_tags o (omega (arith, many, w));
            many = omega (arith, many);
          };
          holds = subst (λ n. IsTagRecord bytes rs n e.start u) h v;
          unrepeated = f;
        }
    by (Thing.root first f) w c v r = absurd (cc)
    by (Thing.attribute a) w c v r = absurd (cc)
    by (Thing.text xs) w c v r = absurd (cc)
    by (Thing.comment cs) w c v r = absurd (cc)
    by (Thing.instruction i) w c v r = absurd (cc)

pub element_offence : (bytes : List ℕ) (lists : Lists) (nest : Forest) → length bytes < 2 ^ 30 → IsNestOf bytes lists nest → over_names repeats [] (first_place bytes) nest ≡ [] → (open_tags : List ℕ) (at depth : ℕ) (r : Option ℕ) →
    open_tags ≡ open_before (at + 1) (records nest (first_place bytes)) → (record_at at (records nest (first_place bytes))).token ≡ 0 → (record_at at (records nest (first_place bytes))).depth ≡ depth → depth < 256 →
    ((x : Holder) (xs : List Holder) → IsScope bytes lists open_tags depth nest (x ∷ xs) → at ≡ x.index → (start : ℕ) → IsTagRecord bytes (records nest (first_place bytes)) at start x.tag → repeated (attributes_place start x.tag) [] x.tag.attributes ≡ [] →
    r ≡ first_of (offending_tag start (tags_in xs) x.tag)) → OffenceAt at r (nodes_of bytes nest)
element_offence bytes lists nest few s h open_tags at depth r o t d w known =
    each_more (Known bytes nest) (λ e. e.index ≡ at → r ≡ first_of (node_faults offences e))
    (λ e k p.
    let x = tag_known bytes lists nest few s open_tags at depth o t d w e p k in
    known (record { tag = x.tag; index = at }) e.holders x.scope refl e.start x.holds x.unrepeated ∙ sym (ap (λ w. first_of (thing_faults offences e.start (tags_of e) w)) x.what))
    (nodes_of bytes nest) (all_known bytes lists nest s h)

-- an instruction

instruction_by : (bytes : List ℕ) (rs : List Record) (p : Parts) (n at : ℕ) (tags : List Tag) (what : Thing) (r : Bool) → record_of p ≡ record_at n rs → kind_of what ≡ kinds.Instruction → IsRecordOfThing bytes rs n at what →
    ((cs : List ℕ) → slice_of bytes (record_of p) ≡ encode_utf8_all cs → r ≡ has_colon cs) → cond r (Some p.offset) None ≡ first_of (thing_faults offences at tags what)
instruction_by bytes rs p n at tags (Thing.instruction i) r e k w known =
    let same : r ≡ has_colon i.target = known i.target (ap (slice_of bytes) e ∙ w.slice) in
    ap₂ (λ b o. cond b (Some o) None) same (ap (λ x. x.offset) e ∙ w.offset) ∙ both (has_colon i.target)
  where
    both : (b : Bool) → cond b (Some (at + 2)) None ≡ first_of (cond b ((at + 2) ∷ []) [])
    both true = refl
    both false = refl
instruction_by bytes rs p n at tags (Thing.root first f) r e k w known = absurd (cc)
instruction_by bytes rs p n at tags (Thing.element u inside) r e k w known = absurd (cc)
instruction_by bytes rs p n at tags (Thing.attribute a) r e k w known = absurd (cc)
instruction_by bytes rs p n at tags (Thing.text xs) r e k w known = absurd (cc)
instruction_by bytes rs p n at tags (Thing.comment cs) r e k w known = absurd (cc)

pub instruction_offence : (bytes : List ℕ) (lists : Lists) (nest : Forest) → length bytes < 2 ^ 30 → IsNestOf bytes lists nest → (at : ℕ) (p : Parts) (r : Bool) → ((rs : List Record) → Shows lists.records rs → record_of p ≡ record_at at rs) → p.token ≡ 7 →
    ((cs : List ℕ) → slice_of bytes (record_of p) ≡ encode_utf8_all cs → r ≡ has_colon cs) → OffenceAt at (cond r (Some p.offset) None) (nodes_of bytes nest)
instruction_offence bytes lists nest few s at p r here t known =
    let rs = records nest (first_place bytes) in
    let e' = here rs (nest_shown bytes lists nest few s) in
    let token : (record_at at rs).token ≡ 7 = sym (ap (λ x. x.token) e') ∙ t in
    each_both (FirstRecordShows rs) (HasNameRecord bytes rs) (λ e. e.index ≡ at → cond r (Some p.offset) None ≡ first_of (node_faults offences e))
    (λ e f w h.
    let kind : kind_of e.what ≡ kinds.Instruction = same_kind _ _ (sym f.kind ∙ ap (λ k. kind_of_token (record_at k rs).token) h ∙ ap kind_of_token token) in
    instruction_by bytes rs p e.index e.start (tags_of e) e.what r (e' ∙ ap (λ n. record_at n rs) (sym h)) kind w known)
    (nodes_of bytes nest) (first_records nest (first_place bytes) (nest_shallow nest s.accepted.document.nests)) (document_holds bytes nest s.accepted.document)

-- another record

neither : (at : ℕ) (tags : List Tag) (what : Thing) (token : ℕ) → (token ≡ 0 → ⊥) → (token ≡ 7 → ⊥) → kind_of_token token ≡ Some (kind_of what) → None ≡ first_of (thing_faults offences at tags what)
neither at tags (Thing.element u inside) token t i k = absurd (t (element_token token k))
neither at tags (Thing.instruction j) token t i k = absurd (i (instruction_token token k))
  where
    instruction_token : (n : ℕ) → kind_of_token n ≡ Some kinds.Instruction → n ≡ 7
    instruction_token n h = grind arith
neither at tags (Thing.root first f) token t i k = refl
neither at tags (Thing.attribute a) token t i k = refl
neither at tags (Thing.text xs) token t i k = refl
neither at tags (Thing.comment cs) token t i k = refl

pub other_offence : (bytes : List ℕ) (lists : Lists) (nest : Forest) → length bytes < 2 ^ 30 → IsNestOf bytes lists nest → (at : ℕ) (p : Parts) → ((rs : List Record) → Shows lists.records rs → record_of p ≡ record_at at rs) → (p.token ≡ 0 → ⊥) → (p.token ≡ 7 → ⊥) → OffenceAt at None (nodes_of bytes nest)
other_offence bytes lists nest few s at p here t i =
    let rs = records nest (first_place bytes) in
    let token : p.token ≡ (record_at at rs).token = ap (λ r. r.token) (here rs (nest_shown bytes lists nest few s)) in
    each_more (FirstRecordShows rs) (λ e. e.index ≡ at → None ≡ first_of (node_faults offences e))
    (λ e f h. neither e.start (tags_of e) e.what p.token t i (ap kind_of_token token ∙ subst (λ k. kind_of_token (record_at k rs).token ≡ Some (kind_of e.what)) h f.kind))
    (nodes_of bytes nest) (first_records nest (first_place bytes) (nest_shallow nest s.accepted.document.nests))

-- one record further, or at an end

pub offence_missed : (bytes : List ℕ) (nest : Forest) (at : ℕ) (r : Option ℕ) → OffenceAt at r (nodes_of bytes nest) → r ≡ None → NoneBefore offences at (nodes_of bytes nest) → NoneBefore offences (at + 1) (nodes_of bytes nest)
offence_missed bytes nest at r o h before =
    none_more offences at (nodes_of bytes nest) before
    (each_more (λ e. e.index ≡ at → r ≡ first_of (node_faults offences e)) (λ e. e.index ≡ at → node_faults offences e ≡ []) (λ e f p. none_listed (node_faults offences e) (sym (f p) ∙ h)) (nodes_of bytes nest) o)

pub offence_met : (bytes : List ℕ) (lists : Lists) (nest : Forest) → length bytes < 2 ^ 30 → IsNestOf bytes lists nest → (at place : ℕ) (r : Option ℕ) → OffenceAt at r (nodes_of bytes nest) → r ≡ Some place → at < length lists.records →
    ((rs : List Record) → Shows lists.records rs → ((record_at at rs).token ≡ 0) ⊎ ((record_at at rs).token ≡ 7)) → NoneBefore offences at (nodes_of bytes nest) → Some place ≡ first_of (over_names offences [] (first_place bytes) nest)
offence_met bytes lists nest few s at place r o h within starts before =
    let rs = records nest (first_place bytes) in
    let shows = nest_shown bytes lists nest few s in
    let many : at < length rs = omega (arith, within, shown_length lists.records rs shows) in
    let there = ⊎_elim (λ t. found kinds.Element many (ap is_start_token t) (ap kind_of_token t)) (λ t. found kinds.Instruction many (ap is_start_token t) (ap kind_of_token t)) (starts rs shows) in
    let e = there.0 in
    sym (first_found offences (first_place bytes) at place nest before e there.1.0 there.1.1 (sym (each_at (λ e. e.index ≡ at → r ≡ first_of (node_faults offences e)) (nodes_of bytes nest) e o there.1.0 there.1.1) ∙ h))
  where
    found : (kind : Kind) → at < length (records nest (first_place bytes)) → is_start_token (record_at at (records nest (first_place bytes))).token ≡ true → kind_of_token (record_at at (records nest (first_place bytes))).token ≡ Some kind →
        (e : Entry) × (Contains (nodes_of bytes nest) e × (e.index ≡ at))
    found kind m b k = let q = node_there bytes lists nest s at kind m b k in (q.0, (q.1.0, q.1.2))

pub offence_for : (at : ℕ) (es : List Entry) (r s : Option ℕ) → r ≡ s → OffenceAt at r es → OffenceAt at s es
offence_for at es r s e h = subst (λ o. OffenceAt at o es) e h

-- by whether there is an offence
pub offence_some : (bytes : List ℕ) (lists : Lists) (nest : Forest) → length bytes < 2 ^ 30 → IsNestOf bytes lists nest → (at : ℕ) (r : Option ℕ) → OffenceAt at r (nodes_of bytes nest) → is_some r ≡ true → at < length lists.records →
    IfSome r (λ p. (rs : List Record) → Shows lists.records rs → ((record_at at rs).token ≡ 0) ⊎ ((record_at at rs).token ≡ 7)) → NoneBefore offences at (nodes_of bytes nest) → r ≡ first_of (over_names offences [] (first_place bytes) nest)
offence_some bytes lists nest few s at None o h within starts before = absurd (false≢true h)
offence_some bytes lists nest few s at (Some place) o h within starts before = offence_met bytes lists nest few s at place (Some place) o refl within starts before

pub offence_none : (bytes : List ℕ) (nest : Forest) (at : ℕ) (r : Option ℕ) → OffenceAt at r (nodes_of bytes nest) → is_some r ≡ false → NoneBefore offences at (nodes_of bytes nest) → NoneBefore offences (at + 1) (nodes_of bytes nest)
offence_none bytes nest at None o h before = offence_missed bytes nest at None o refl before
offence_none bytes nest at (Some place) o h before = absurd (false≢true (sym h))
