-- The elements whose declarations reach a node, by the tags that are open where its first record is.
use Rattle.std.proofs.Common.{◌≡◌, ℕ, suc, ◌+◌, ◌<◌, ◌^◌, Bool, true, false, cond, ◌==◌, List, length, refl, ap, sym, ◌∙◌, subst, arith, Some, None, Option, ne_eqb}
use Rattle.std.specs.List.{Contains}
use Rattle.std.proofs.lemmas.Bool.{eq-eqb}
use Rattle.xml_model.specs.declared.Kind.{Kind}
use Rattle.xml_model.specs.declared.Kind.TheVariants as kinds
use Rattle.xml_model.specs.Items.{first_place}
use Rattle.xml_model.specs.Laws.{FirstRecordShows}
use Rattle.xml_model.specs.Names.{nearest}
use Rattle.xml_model.specs.Nest.{Forest, is_nest}
use Rattle.xml_model.specs.Records.{Record, records}
use Rattle.xml_model.specs.Scan.{record_at, level_of, kind_of_token}
use Rattle.xml_model.specs.Tree.{Thing, Entry, Holder, Identifies, kind_of}
use Rattle.xml_model.proofs.Bounds.{nest_shallow}
use Rattle.xml_model.proofs.Each.{each_at}
use Rattle.xml_model.proofs.FirstRecords.{first_records}
use Rattle.vtd_words.specs.Lists.{Lists}
use Rattle.vtd_words.specs.Table.{IsNestOf, Shows, nodes_of}
use Rattle.vtd_words.proofs.Fitting.{nest_shown}
use Rattle.vtd_namespaces.specs.Reach.{reaching, with_own}
use Rattle.vtd_namespaces.specs.NodeNames.{HasExpandedName}
use Rattle.vtd_namespaces.specs.OpenTags.{open_before}
use Rattle.vtd_namespaces.specs.Scope.{Chain, Opened, tags_in}
use Rattle.vtd_namespaces.specs.Undeclared.{NoneDeclared, NoneDeclares}
use Rattle.vtd_namespaces.specs.Reach.{reach_of}
use Rattle.vtd_namespaces.proofs.NameRecordLemmas.{document_holds}
use Rattle.vtd_namespaces.proofs.OpenLemmas.{element_holds, opened_at, opened_before}
use Rattle.vtd_namespaces.proofs.UndeclaredLemmas.{nearest_none_declared}
use Rattle.vtd_namespaces.proofs.UriLemmas.{chain_by, reaching_chain}

-- elements that reach a node, with open tags
pub record Reaches (bytes : List ℕ) (nest : Forest) (hs : List Holder) (tags : List ℕ) (count : ℕ) : Type 0 where
  pub chain : Chain (nodes_of bytes nest) hs
  pub opened : Opened tags hs
  pub many : length hs ≡ count

reach_of_other : (r : Record) (l : ℕ) → (r.token ≡ 0 → ⊥) → level_of r ≡ l → l ≡ reach_of r
reach_of_other r l t e = sym e ∙ by (r.token == 0) (ne_eqb r.token 0 t) (r.depth == 255)
  where
    by : (b : Bool) → b ≡ false → (c : Bool) → cond b r.depth (cond c 0 (suc r.depth)) ≡ cond b (r.depth + 1) (cond c 0 (r.depth + 1))
    by b h true = ap (λ x. cond x r.depth 0) h ∙ sym (ap (λ x. cond x (r.depth + 1) 0) h)
    by b h false = let next : suc r.depth ≡ r.depth + 1 = omega arith in ap (λ x. cond x r.depth (suc r.depth)) h ∙ next ∙ sym (ap (λ x. cond x (r.depth + 1) (r.depth + 1)) h)

module _ (bytes : List ℕ) (nest : Forest) (n : is_nest nest ≡ true) (e : Entry) (there : Contains (nodes_of bytes nest) e) (r : Record) (here : r ≡ record_at e.index (records nest (first_place bytes))) (low : r.depth < 256)
    (tags : List ℕ) (known : tags ≡ open_before (e.index + 1) (records nest (first_place bytes))) (chain : Chain (nodes_of bytes nest) e.holders) where
  shows : FirstRecordShows (records nest (first_place bytes)) e
  shows = each_at (FirstRecordShows (records nest (first_place bytes))) (nodes_of bytes nest) e (first_records nest (first_place bytes) (nest_shallow nest n)) there

  attribute_token : kind_of e.what ≡ kinds.Attribute → (record_at e.index (records nest (first_place bytes))).token ≡ 0 → ⊥
  attribute_token k t = let q : ◌≡◌ {A = Option Kind} (Some kinds.Element) (Some kinds.Attribute) = sym (ap kind_of_token t) ∙ shows.kind ∙ ap (λ x. Some x) k in absurd (cc)

  reached_by : (what : Thing) → e.what ≡ what → HasExpandedName (kind_of what) → Reaches bytes nest (with_own what e.index e.holders) tags (reach_of r)
  reached_by (Thing.element t inside) w h =
      let own : Holder = record { tag = t; index = e.index } in
      let y = element_holds nest (first_place bytes) (nest_shallow nest n) e there (ap kind_of w) own refl e.holders refl in
      let depth : r.depth ≡ length e.holders = ap (λ x. x.depth) here ∙ y.depth in
      let count : r.depth + 1 ≡ reach_of r = sym (ap (λ b. cond b (r.depth + 1) (cond (r.depth == 255) 0 (r.depth + 1))) (eq-eqb r.token 0 (ap (λ x. x.token) here ∙ y.token))) in
      record {
        chain = chain_by (nodes_of bytes nest) e (Thing.element t inside) w there chain;
        opened = opened_at nest (first_place bytes) n e there (ap kind_of w) own refl tags known (omega (arith, depth, low));
        many = omega (arith, depth, count);
      }
  reached_by (Thing.attribute a) w h =
      let other = attribute_token (ap kind_of w) in
      record {
        chain = chain;
        opened = opened_before nest (first_place bytes) n e there other tags known;
        many = reach_of_other r (length e.holders) (λ t. other (ap (λ x. x.token) (sym here) ∙ t)) (ap level_of here ∙ shows.level);
      }
  reached_by (Thing.root first f) w h = absurd h
  reached_by (Thing.text xs) w h = absurd h
  reached_by (Thing.comment cs) w h = absurd h
  reached_by (Thing.instruction i) w h = absurd h

pub reached : (bytes : List ℕ) (lists : Lists) → length bytes < 2 ^ 30 → (nest : Forest) → IsNestOf bytes lists nest → (kind : Kind) (at : ℕ) →
    HasExpandedName kind → (e : Entry) → Identifies kind at e (nodes_of bytes nest) →
    (r : Record) → ((rs : List Record) → Shows lists.records rs → r ≡ record_at at rs) → r.depth < 256 → (tags : List ℕ) → ((rs : List Record) →
    Shows lists.records rs → tags ≡ open_before (at + 1) rs) →
    Reaches bytes nest (reaching e) tags (reach_of r)
reached bytes lists few nest s kind at h e w r here low tags known =
    let rs = records nest (first_place bytes) in
    let shown = nest_shown bytes lists nest few s in
    reached_by bytes nest s.accepted.document.nests e w.0 r (here rs shown ∙ ap (λ n. record_at n rs) (sym w.2)) low tags (known rs shown ∙ ap (λ n. open_before (n + 1) rs) (sym w.2))
    (each_at (λ x. Chain (nodes_of bytes nest) x.holders) (nodes_of bytes nest) e (Rattle.vtd_namespaces.proofs.ChainLemmas.document_chain nest (first_place bytes)) w.0) e.what refl (subst HasExpandedName (sym w.1) h)

-- where no record is of a declaration's name, nothing is nearest
pub none_reaches : (bytes : List ℕ) (lists : Lists) → length bytes < 2 ^ 30 → (end : ℕ) → end ≡ 0 → NoneDeclared lists.records end → (nest : Forest) →
    IsNestOf bytes lists nest → (e : Entry) → Contains (nodes_of bytes nest) e → (p : List ℕ) →
    nearest p (tags_in (reaching e)) ≡ None
none_reaches bytes lists few end z u nest s e c p =
    let rs = records nest (first_place bytes) in
    nearest_none_declared bytes rs (nodes_of bytes nest) (document_holds bytes nest s.accepted.document) (subst (NoneDeclares rs) z (u rs (nest_shown bytes lists nest few s))) (reaching e) (reaching_chain bytes nest e c) p
