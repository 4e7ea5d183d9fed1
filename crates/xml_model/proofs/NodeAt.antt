-- Which record begins a node, and of what kind, by the records round it.
use Rattle.std.proofs.Common.{◌≡◌, ℕ, zero, suc, ◌+◌, ◌<◌, Bool, true, false, cond, List, [], ◌∷◌, ◌++◌, map, refl, ap, ap₂, sym, ◌∙◌, arith, subst, drop, Option, Some, None, is_some, ◌||◌, ◌==◌, eq-eqb, ne_eqb, eqb-true, find, option_map}
use Rattle.std.specs.List.{AllByRecursion as Each, list_any}
use Rattle.xml_model.specs.Nest.{Forest}
use Rattle.xml_model.specs.Records.{Record, document, records, forest_records}
use Rattle.xml_model.specs.Tree.{Entry, kind_of, all, at_index}
use Rattle.xml_model.specs.Scan.{record_at, kind_of_token, begins_node, next_prev, starts, starts_by_scan, second_begins, begins_by_scan, kind_by_scan}
use Rattle.xml_model.specs.Laws.{FirstRecordShows}
use Rattle.xml_model.proofs.Levels.{Shallow}
use Rattle.xml_model.proofs.Rise.{index}
use Rattle.xml_model.proofs.Starts.{Proper, indexes_by_scan}
use Rattle.xml_model.proofs.FirstRecords.{first_records}

abbrev has : ℕ → List ℕ → Bool
has n ns = list_any (λ m. m == n) ns

find_place : (n : ℕ) (es : List Entry) → is_some (find (λ e. e.index == n) es) ≡ has n (map index es)
find_place n [] = refl
find_place n (e ∷ es) = by (e.index == n) (find_place n es)
  where
    by : (b : Bool) → is_some (find (λ e. e.index == n) es) ≡ has n (map index es) → is_some (cond b (Some e) (find (λ e. e.index == n) es)) ≡ (b || has n (map index es))
    by true h = refl
    by false h = h

-- the scan finds no index below where it begins
none_below : (m n : ℕ) (prev : Option ℕ) (rs : List Record) → n < m → has n (starts m prev rs) ≡ false
none_below m n prev [] h = refl
none_below m n prev (r ∷ rs) h = by (begins_node prev r rs) (none_below (suc m) n (next_prev r) rs (omega (arith, h)))
  where
    by : (b : Bool) → has n (starts (suc m) (next_prev r) rs) ≡ false → has n (cond b (m ∷ []) [] ++ starts (suc m) (next_prev r) rs) ≡ false
    by true rest = ap₂ (λ b c. b || c) (ne_eqb m n (λ e. omega (arith, e, h))) rest
    by false rest = rest

abbrev begins_from : Option ℕ → ℕ → List Record → Bool
begins_from prev k [] = false
begins_from prev zero (r ∷ rs) = begins_node prev r rs
begins_from prev (suc k) (r ∷ rs) = begins_from (next_prev r) k rs

found : (m k : ℕ) (prev : Option ℕ) (rs : List Record) → has (m + k) (starts m prev rs) ≡ begins_from prev k rs
found m zero prev [] = refl
found m (suc k) prev [] = refl
found m zero prev (r ∷ rs) = by (begins_node prev r rs)
  where
    by : (b : Bool) → has (m + 0) (cond b (m ∷ []) [] ++ starts (suc m) (next_prev r) rs) ≡ b
    by true = ap (λ b. b || has (m + 0) (starts (suc m) (next_prev r) rs)) (eq-eqb m (m + 0) (omega arith))
    by false = none_below (suc m) (m + 0) (next_prev r) rs (omega arith)
found m (suc k) prev (r ∷ rs) =
    let same : m + suc k ≡ suc m + k = omega arith in
    by (begins_node prev r rs) (ap (λ n. has n (starts (suc m) (next_prev r) rs)) same ∙ found (suc m) k (next_prev r) rs)
  where
    by : (b : Bool) → has (m + suc k) (starts (suc m) (next_prev r) rs) ≡ begins_from (next_prev r) k rs → has (m + suc k) (cond b (m ∷ []) [] ++ starts (suc m) (next_prev r) rs) ≡ begins_from (next_prev r) k rs
    by true rest = ap (λ b. b || has (m + suc k) (starts (suc m) (next_prev r) rs)) (ne_eqb m (m + suc k) (λ e. omega (arith, e))) ∙ rest
    by false rest = rest

drop_none : (k : ℕ) → second_begins (drop k []) ≡ false
drop_none zero = refl
drop_none (suc k) = refl

second_is : (k : ℕ) (q : Record) (rs : List Record) → begins_from (next_prev q) k rs ≡ second_begins (drop k (q ∷ rs))
second_is zero q [] = refl
second_is zero q (r ∷ rs) = refl
second_is (suc k) q [] = sym (drop_none k)
second_is (suc k) q (r ∷ rs) = second_is k r rs

-- the law: the places of the nodes are the indexes that the scan finds
pub indexes_are_starts : (nest : Forest) (first : ℕ) → Shallow 0 nest → Proper 0 nest → map index (all nest first) ≡ starts_by_scan (records nest first)
unfolding records
indexes_are_starts nest first s p = indexes_by_scan nest first s p

-- the law: whether a record begins a node
pub begins_decide : (nest : Forest) (first : ℕ) → Shallow 0 nest → Proper 0 nest → (n : ℕ) → is_some (at_index n (all nest first)) ≡ begins_by_scan n (records nest first)
unfolding at_index records
begins_decide nest first s p n = find_place n (all nest first) ∙ ap (has n) (indexes_by_scan nest first s p) ∙ by n
  where
    by : (n : ℕ) → has n (0 ∷ starts 1 None (forest_records 0 first nest)) ≡ begins_by_scan n (document ∷ forest_records 0 first nest)
    by zero = refl
    by (suc k) = ap (λ b. b || has (suc k) (starts 1 None (forest_records 0 first nest))) (ne_eqb 0 (suc k) (λ e. omega (arith, e))) ∙ ap (λ m. has m (starts 1 None (forest_records 0 first nest))) (omega arith) ∙ found 1 k None (forest_records 0 first nest)
        ∙ second_is k document (forest_records 0 first nest)

find_each : (P : Entry → Type 0) (n : ℕ) (es : List Entry) (e : Entry) → Each P es → find (λ x. x.index == n) es ≡ Some e → P e × (e.index ≡ n)
find_each P n [] e h k = absurd cc
find_each P n (x ∷ es) e h k = by (x.index == n) refl k (λ g. find_each P n es e h.1 g)
  where
    by : (b : Bool) → (x.index == n) ≡ b → cond b (Some x) (find (λ x. x.index == n) es) ≡ Some e → (find (λ x. x.index == n) es ≡ Some e → P e × (e.index ≡ n)) → P e × (e.index ≡ n)
    by true t k rec =
        let same : x ≡ e = cc in
        let Q : Entry → Type 0 = λ y. P y × (y.index ≡ n) in
        subst Q same (h.0, eqb-true x.index n t)
    by false t k rec = rec k

-- the law: which node begins at a record
pub kinds_decide : (nest : Forest) (first : ℕ) → Shallow 0 nest → Proper 0 nest → (n : ℕ) → option_map (λ e. kind_of e.what) (at_index n (all nest first)) ≡ kind_by_scan n (records nest first)
unfolding at_index
kinds_decide nest first s p n = by (at_index n (all nest first)) refl
  where
    whole : List Record
    whole = records nest first

    by : (o : Option Entry) → find (λ e. e.index == n) (all nest first) ≡ o → option_map (λ e. kind_of e.what) o ≡ kind_by_scan n (records nest first)
    by None h = ap (λ b. cond b (kind_of_token (record_at n (records nest first)).token) None) (sym (ap is_some h) ∙ begins_decide nest first s p n)
    by (Some e) h =
        let f = find_each (FirstRecordShows (records nest first)) n (all nest first) e (first_records nest first s) h in
        sym f.0.kind ∙ ap (λ m. kind_of_token (record_at m (records nest first)).token) f.1
        ∙ ap (λ b. cond b (kind_of_token (record_at n (records nest first)).token) None) (sym (ap is_some h) ∙ begins_decide nest first s p n)
