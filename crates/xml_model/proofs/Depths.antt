-- The elements of a depth by the tree are the starting tags of that depth by the records.
use Rattle.std.proofs.Common.{◌≡◌, ℕ, zero, suc, ◌+◌, ◌<◌, Bool, true, false, cond, ◌&&◌, ◌||◌, ◌==◌, List, [], ◌∷◌, ◌++◌, length}
use Rattle.std.proofs.Common.{drop, map, refl, ap, ap₂, sym, ◌∙◌, arith, filter, nat_le, inl, inr, Option, Some, None, option_map}
use Rattle.std.proofs.Common.{add-one}
use Rattle.std.specs.List.{Contains, list_all}
use Rattle.std.proofs.lemmas.Bool.{false≢true, and_parts, and_from, or_cases, or_left, or_right, cases_lt, leb-true, eqb-true, eq-eqb, le-leb}
use Rattle.std.proofs.lemmas.List.{drop_more, drop_all, map-append}
use Rattle.std.proofs.lemmas.Option.{none-some, same_Some}
use Rattle.xml_model.proofs.Indexes.{index_found}
use Rattle.xml_model.proofs.Inside.{tag_level}
use Rattle.xml_model.proofs.Things.{element_token, is_element_kind, kind_element}
use Rattle.xml_model.specs.declared.Kind.TheVariants as kinds
use Rattle.xml_model.specs.Items.{meets}
use Rattle.xml_model.specs.Levels.{is_element, at_depth, is_tag, if_tag_of, tags_from}
use Rattle.xml_model.specs.Nest.{Forest, is_nest, flat}
use Rattle.xml_model.specs.Records.{Record, document, records}
use Rattle.xml_model.specs.Scan.{level_of, record_at, kind_of_token, kind_by_scan, begins_by_scan}
use Rattle.xml_model.specs.Scan.{second_begins, is_start_token}
use Rattle.xml_model.specs.Tree.{Entry, all, at_index, kind_of}
use Rattle.xml_model.specs.Laws.{FirstRecordShows}
use Rattle.xml_model.proofs.NodeLaws.{first_record_of_node, node_at_record}
use Rattle.xml_model.proofs.Filters.{same_test, filter_same, none_of, one_here, split_or}
use Rattle.xml_model.proofs.TreeOrder.{in_order}

record ElementAt (es : List Entry) (n : ℕ) : Type 0 where
  entry : Entry
  there : Contains es entry
  index : entry.index ≡ n
  kind : kind_of entry.what ≡ kinds.Element

element_found : (n : ℕ) (es : List Entry) → option_map (λ e. kind_of e.what) (at_index n es) ≡ Some kinds.Element → ElementAt es n
element_found n es k = by (at_index n es) refl k
  where
    by : (o : Option Entry) → at_index n es ≡ o → option_map (λ e. kind_of e.what) o ≡ Some kinds.Element → ElementAt es n
    by None h k = absurd (none-some _ k)
    by (Some e) h k = let f = index_found n es e h in record { entry = e; there = f.0; index = f.1; kind = same_Some _ _ k }

-- a starting tag begins a node
tag_begins : (rs : List Record) (n : ℕ) → n < length rs → (record_at n rs).token ≡ 0 → begins_by_scan n rs ≡ true
tag_begins rs zero l t = refl
tag_begins rs (suc n) l t =
    let two : drop n rs ≡ record_at n rs ∷ (record_at (suc n) rs ∷ drop (suc n + 1) rs) =
    drop_more rs n document (omega (arith, l)) ∙ ap (λ m. record_at n rs ∷ drop m rs) (add-one n)
    ∙ ap (λ xs. record_at n rs ∷ xs) (drop_more rs (suc n) document l) in
    ap second_begins two ∙ or_left (is_start_token (record_at (suc n) rs).token) _ (ap is_start_token t)

tag_kind : (rs : List Record) (n : ℕ) → n < length rs → (record_at n rs).token ≡ 0 → kind_by_scan n rs ≡ Some kinds.Element
tag_kind rs n l t = ap (λ b. cond b (kind_of_token (record_at n rs).token) None) (tag_begins rs n l t) ∙ ap kind_of_token t

module _ (nest : Forest) (first : ℕ) (nests : is_nest nest ≡ true) (m : list_all meets (flat nest) ≡ true) (k : ℕ) where
  Here : Entry → Bool
  Here e = is_element e.what && length e.holders == k

  at_record : (n : ℕ) → n < length (records nest first) →
      map (λ e. e.index) (filter (λ e. e.index == n && (is_element e.what && length e.holders == k)) (all nest first))
      ≡ if_tag_of k n (record_at n (records nest first))
  at_record n l = by (is_tag (record_at n (records nest first)) && (record_at n (records nest first)).depth == k) refl
    where
      by : (b : Bool) → (is_tag (record_at n (records nest first)) && (record_at n (records nest first)).depth == k) ≡ b →
          map (λ e. e.index) (filter (λ e. e.index == n && (is_element e.what && length e.holders == k)) (all nest first)) ≡ cond b (n ∷ []) []
      by true t =
          let p = and_parts (is_tag (record_at n (records nest first))) ((record_at n (records nest first)).depth == k) t in
          let token : (record_at n (records nest first)).token ≡ 0 = eqb-true (record_at n (records nest first)).token 0 p.0 in
          let y = element_found n (all nest first) (node_at_record nest first nests m n ∙ tag_kind (records nest first) n l token) in
          let f : FirstRecordShows (records nest first) y.entry = first_record_of_node nest first nests y.entry y.there in
          let held : length y.entry.holders ≡ k = sym f.level ∙ ap (λ j. level_of (record_at j (records nest first))) y.index
          ∙ tag_level (record_at n (records nest first)) token ∙ eqb-true (record_at n (records nest first)).depth k p.1 in
          ap (map (λ e. e.index)) (one_here (λ e. is_element e.what && length e.holders == k) n (all nest first)
          (in_order nest first nests).rises y.entry y.there y.index
          (and_from _ _ (is_element_kind y.entry.what y.kind) (eq-eqb (length y.entry.holders) k held)))
          ∙ ap (λ j. j ∷ []) y.index
      by false t = ap (map (λ e. e.index)) (none_of _ (all nest first) (λ e c h.
          let p = and_parts (e.index == n) _ h in
          let q = and_parts (is_element e.what) (length e.holders == k) p.1 in
          let f : FirstRecordShows (records nest first) e = first_record_of_node nest first nests e c in
          let index : e.index ≡ n = eqb-true e.index n p.0 in
          let token : (record_at n (records nest first)).token ≡ 0 =
          element_token (record_at n (records nest first)).token
          (ap (λ j. kind_of_token (record_at j (records nest first)).token) (sym index) ∙ f.kind ∙ ap (λ z. Some z) (kind_element e.what q.0)) in
          let depth : (record_at n (records nest first)).depth ≡ k = sym (tag_level (record_at n (records nest first)) token)
          ∙ ap (λ j. level_of (record_at j (records nest first))) (sym index) ∙ f.level ∙ eqb-true (length e.holders) k q.1 in
          false≢true (sym t ∙ and_from _ _ (eq-eqb _ 0 token) (eq-eqb _ k depth))))

  tags_after : (d n : ℕ) → n + d ≡ length (records nest first) →
      map (λ e. e.index) (filter (λ e. nat_le n e.index && (is_element e.what && length e.holders == k)) (all nest first))
      ≡ tags_from k n (drop n (records nest first))
  tags_after zero n e =
      ap (map (λ e. e.index)) (none_of _ (all nest first)
      (λ x c h. omega (arith, e, leb-true n x.index (and_parts (nat_le n x.index) _ h).0, (in_order nest first nests).within x c)))
      ∙ sym (ap (tags_from k n) (drop_all n (records nest first) (omega (arith, e))))
  tags_after (suc d) n e =
      let rs = records nest first in
      let es = all nest first in
      let T : Entry → Bool = λ x. is_element x.what && length x.holders == k in
      ap (map (λ e. e.index))
      (filter_same (λ x. nat_le n x.index && T x) (λ x. (x.index == n && T x) || (nat_le (suc n) x.index && T x)) es (λ x c. same_test _ _
      (λ t. let p = and_parts (nat_le n x.index) (T x) t in
      elim (cases_lt n x.index) [
        | inl later ↦ or_right (x.index == n && T x) _ (and_from _ _ (le-leb (suc n) x.index (omega (arith, later))) p.1)
        | inr low ↦ or_left _ _ (and_from _ _ (eq-eqb x.index n (omega (arith, low, leb-true n x.index p.0))) p.1)
      ])
      (λ t. elim (or_cases (x.index == n && T x) (nat_le (suc n) x.index && T x) t) [
        | inl u ↦ let p = and_parts (x.index == n) (T x) u in and_from _ _ (le-leb n x.index (omega (arith, eqb-true x.index n p.0))) p.1
        | inr u ↦ let p = and_parts (nat_le (suc n) x.index) (T x) u in and_from _ _ (le-leb n x.index (omega (arith, leb-true (suc n) x.index p.0))) p.1
      ]))
      ∙ split_or (λ x. x.index == n && T x) (λ x. nat_le (suc n) x.index && T x) (suc n) es (in_order nest first nests).rises
      (λ x c t. omega (arith, eqb-true x.index n (and_parts (x.index == n) (T x) t).0))
      (λ x c t. leb-true (suc n) x.index (and_parts (nat_le (suc n) x.index) (T x) t).0))
      ∙ map-append (λ e. e.index) (filter (λ x. x.index == n && T x) es) (filter (λ x. nat_le (suc n) x.index && T x) es)
      ∙ ap₂ (λ xs ys. xs ++ ys) (at_record n (omega (arith, e))) (tags_after d (suc n) (omega (arith, e)))
      ∙ sym (ap (tags_from k n) (drop_more rs n document (omega (arith, e)))
      ∙ ap (λ j. if_tag_of k n (record_at n rs) ++ tags_from k (suc n) (drop j rs)) (add-one n))

  pub depth_by_records : map (λ e. e.index) (at_depth k (all nest first)) ≡ tags_from k 0 (records nest first)
  depth_by_records =
      ap (map (λ e. e.index)) (filter_same _ (λ e. nat_le 0 e.index && (is_element e.what && length e.holders == k)) (all nest first)
      (λ x c. sym (ap (λ b. b && (is_element x.what && length x.holders == k)) (le-leb 0 x.index (omega arith)))))
      ∙ tags_after (length (records nest first)) 0 (omega arith)
