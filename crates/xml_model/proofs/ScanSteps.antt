-- One step of each scan of the records, by index, as loops take them.
use Rattle.std.proofs.Common.{◌≡◌, ℕ, suc, ◌+◌, ◌<◌, ◌≤◌, true, false, cond, List, [], ◌∷◌, refl, ap, sym, ◌∙◌, arith, length, length-drop, take, drop, add-one}
use Rattle.std.proofs.lemmas.Bool.{lt-leb}
use Rattle.std.proofs.lemmas.List.{drop_more, drop_all, length-take-le}
use Rattle.std.proofs.lemmas.Grind.{take_at_read}
use Rattle.xml_model.specs.Records.{Record, document}
use Rattle.xml_model.specs.Scan.{level_of, record_at, end_from, is_run, run_from, tag_or, last_tag, begins_node, next_prev, second_begins, begins_by_scan}
use Rattle.xml_model.proofs.Owners.{last_tag_append}

-- the records from an index on
pub from_index : (rs : List Record) (i : ℕ) → i < length rs → drop i rs ≡ record_at i rs ∷ drop (i + 1) rs
from_index rs i h = drop_more rs i document h

-- the end of an element

pub end_step : (l i : ℕ) (rs : List Record) → i < length rs → l < level_of (record_at i rs) → end_from l i (drop i rs) ≡ end_from l (i + 1) (drop (i + 1) rs)
end_step l i rs h k =
    ap (end_from l i) (from_index rs i h) ∙ ap (λ b. cond b i (end_from l (suc i) (drop (i + 1) rs))) (lt-leb (level_of (record_at i rs)) l k) ∙ ap (λ m. end_from l m (drop (i + 1) rs)) (sym (add-one i))

-- the end of a run

pub run_step : (l i : ℕ) (rs : List Record) → i < length rs → is_run l (record_at i rs) ≡ true → run_from l i (drop i rs) ≡ run_from l (i + 1) (drop (i + 1) rs)
run_step l i rs h k = ap (run_from l i) (from_index rs i h) ∙ ap (λ b. cond b (run_from l (suc i) (drop (i + 1) rs)) i) k ∙ ap (λ m. run_from l m (drop (i + 1) rs)) (sym (add-one i))

pub run_none : (l i : ℕ) (rs : List Record) → length rs ≤ i → run_from l i (drop i rs) ≡ i
run_none l i rs h = ap (run_from l i) (drop_all i rs h)

-- whether a run has a byte

-- the last starting tag before an index

pub tag_step : (l i : ℕ) (rs : List Record) → i < length rs → last_tag l 0 0 (take (i + 1) rs) ≡ tag_or l i (last_tag l 0 0 (take i rs)) (record_at i rs)
tag_step l i rs h =
    let reach : 0 + length (take i rs) ≡ i = omega (arith, length-take-le i rs (omega (arith, h))) in
    ap (last_tag l 0 0) (take_at_read rs i document h).1 ∙ last_tag_append (take i rs) (record_at i rs ∷ []) l 0 0 ∙ ap (λ m. tag_or l m (last_tag l 0 0 (take i rs)) (record_at i rs)) reach

-- whether a record begins a node

pub begins_here : (i : ℕ) (rs : List Record) → i + 1 < length rs → begins_by_scan (i + 1) rs ≡ begins_node (next_prev (record_at i rs)) (record_at (i + 1) rs) (drop (i + 2) rs)
begins_here i rs h =
    let two : i + 1 + 1 ≡ i + 2 = omega arith in
    ap (λ n. begins_by_scan n rs) (add-one i) ∙ ap second_begins (from_index rs i (omega (arith, h)) ∙ ap (λ xs. record_at i rs ∷ xs) (from_index rs (i + 1) h))
    ∙ ap (λ n. begins_node (next_prev (record_at i rs)) (record_at (i + 1) rs) (drop n rs)) two

pub begins_after : (i : ℕ) (rs : List Record) → length rs ≤ i + 1 → begins_by_scan (i + 1) rs ≡ false
begins_after i rs h = ap (λ n. begins_by_scan n rs) (add-one i) ∙ short (drop i rs) (omega (arith, h, length-drop i rs))
  where
    short : (xs : List Record) → length xs ≤ 1 → second_begins xs ≡ false
    short [] k = refl
    short (x ∷ []) k = refl
    short (x ∷ y ∷ xs) k = absurd (omega arith)
