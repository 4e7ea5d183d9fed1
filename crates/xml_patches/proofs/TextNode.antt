-- A text node of an accepted document is set.
use Rattle.std.proofs.Common.{◌≡◌, ℕ, suc, ◌+◌, ◌≤◌, Bool, true, false, inl, inr, List, [], ◌∷◌, ◌++◌, map, length, refl, sym, ap, ap₂, subst}
use Rattle.std.proofs.Common.{◌∙◌, arith, one-add}
use Rattle.std.specs.Prelude.{Contains}
use Rattle.std.specs.List.{list_all, AllByRecursion as Each}
use Rattle.std.proofs.lemmas.Bool.{false≢true, cases_Bool}
use Rattle.xml_model.specs.Chars.{size, is_char}
use Rattle.xml_model.specs.Items.{Leaf, Item, leaf, start_tag, empty_tag, end_tag, first_place}
use Rattle.xml_model.specs.Nest.{Forest}
use Rattle.xml_model.specs.Records.{Record, document, records, run_records, forest_records, past_leaf, past_forest, leaf_records}
use Rattle.xml_model.specs.Tree.{Thing, Entry, all, at_first}
use Rattle.xml_model.specs.Accepted.{Accepted}
use Rattle.xml_nests.specs.Fits.{last_text, is_text_item}
use Rattle.xml_nests.specs.Moved.{moved}
use Rattle.xml_nests.specs.Context.{Context, before, past_single, past_tag, past_whole, within, plug, leaves, items_before, level_in, place_in}
use Rattle.xml_nests.specs.Context.{records_before, records_after, is_held}
use Rattle.xml_patches.specs.Edited.{set_text}
use Rattle.xml_nests.specs.Stand.{TextStand, StandsBy, ends_in_run, is_run_item}
use Rattle.xml_patches.specs.Patched.{text_bytes, exchanged, TextPatched}
use Rattle.xml_nests.proofs.Around.{records_plug, after_moved}
use Rattle.xml_patches.proofs.TextBytes.{text_patched}
use Rattle.xml_patches.proofs.Pasts.{text_past}
use Rattle.xml_nests.proofs.Stands.{each_stands}

pub text_stand : (nest : Forest) (first : ℕ) (e : Entry) (xs : List Leaf) → Contains (all nest first) e → e.what ≡ Thing.text xs →
    TextStand (at_first first) nest xs e.holders e.start e.stop e.index
text_stand nest first e xs c w = subst (λ (x : Thing). StandsBy x (at_first first) nest e.holders e.start e.stop e.index) w (each_stands nest first e c)

run_item : (i : Item) → is_run_item i ≡ false → is_text_item i ≡ false
run_item (leaf (Leaf.text ps)) h = h
run_item (leaf (Leaf.cdata cs)) h = refl
run_item (leaf (Leaf.comment cs)) h = refl
run_item (leaf (Leaf.instruction i)) h = refl
run_item (leaf (Leaf.declaration d)) h = refl
run_item (leaf (Leaf.doctype d)) h = refl
run_item (start_tag t) h = refl
run_item (empty_tag t) h = refl
run_item (end_tag n s) h = refl

pub no_last_text : (is : List Item) (b d : Bool) → (d ≡ false → b ≡ false) → ends_in_run d is ≡ false → last_text b is ≡ false
no_last_text [] b d h e = h e
no_last_text (i ∷ is) b d h e = no_last_text is (is_text_item i) (is_run_item i) (run_item i) e

not_held : (c : Context) (l : ℕ) → is_held c ≡ false → level_in l c ≡ l
not_held (before rest) l h = refl
not_held (past_single x c) l h = not_held c l h
not_held (past_tag t c) l h = not_held c l h
not_held (past_whole t inside space c) l h = not_held c l h
not_held (within t c space f) l h = absurd (false≢true (sym h))

pub is_held_by : (c : Context) (n : ℕ) → 1 ≤ n → n ≡ level_in 0 c → is_held c ≡ true
is_held_by c n l e = elim (cases_Bool (is_held c)) [
  | inl t ↦ t
  | inr f ↦ absurd (omega (arith, l, e, not_held c 0 f))
]

records_leaves : (l at : ℕ) (xs : List Leaf) → forest_records l at (leaves xs) ≡ run_records l at xs
records_leaves l at [] = refl
records_leaves l at (x ∷ xs) = ap (λ (rs : List Record). leaf_records l at x ++ rs) (records_leaves l (past_leaf at x) xs)

past_set : (at : ℕ) (cs : List ℕ) → past_forest at (leaves (set_text cs)) ≡ at + length (text_bytes cs)
unfolding size
past_set at [] = omega arith
past_set at (c ∷ cs) = refl

-- the records around some pieces
old_parts : (first : ℕ) (c : Context) (g : Forest) →
    records (plug c g) first ≡ (document ∷ records_before 0 first c) ++
    (forest_records (level_in 0 c) (place_in first c) g ++ records_after 0 (past_forest (place_in first c) g) c)
unfolding records
old_parts first c g = ap (λ (rs : List Record). document ∷ rs) (records_plug 0 first c g)

-- what is moved to a place is there or after it
all_after : (from to : ℕ) (rs : List Record) → Each (λ r. to ≤ r.offset) (map (moved from to) rs)
all_after from to [] = tt
all_after from to (r ∷ rs) = (omega arith, all_after from to rs)

after_all : (stop : ℕ) (c : Context) → Each (λ r. stop ≤ r.offset) (records_after 0 stop c)
after_all stop c = subst (Each (λ r. stop ≤ r.offset)) (sym (after_moved 0 0 stop c)) (all_after 0 stop (records_after 0 0 c))

-- the old records, by what is known of the node
were_by : (first : ℕ) (c : Context) (xs : List Leaf) (nest : Forest) (l at stop : ℕ) → nest ≡ plug c (leaves xs) → l ≡ level_in 0 c →
    at ≡ place_in first c → stop ≡ past_forest (place_in first c) (leaves xs) →
    records nest first ≡ (document ∷ records_before 0 first c) ++ (run_records l at xs ++ records_after 0 stop c)
were_by first c xs nest l at stop split e1 e2 e3 =
    let a = document ∷ records_before 0 first c in
    let b = place_in first c in
    ap (λ (f : Forest). records f first) split ∙ old_parts first c (leaves xs)
    ∙ ap₂ (λ (rs : List Record) (n : ℕ). a ++ (rs ++ records_after 0 n c)) (records_leaves (level_in 0 c) b xs) (sym e3)
    ∙ ap₂ (λ (m n : ℕ). a ++ (run_records m n xs ++ records_after 0 stop c)) (sym e1) (sym e2)

-- the new ones
are_by : (first : ℕ) (c : Context) (cs : List ℕ) (l at stop : ℕ) → l ≡ level_in 0 c → at ≡ place_in first c →
    records (plug c (leaves (set_text cs))) first ≡ (document ∷ records_before 0 first c) ++
    (run_records l at (set_text cs) ++ map (moved stop (at + length (text_bytes cs))) (records_after 0 stop c))
are_by first c cs l at stop e1 e2 =
    let a = document ∷ records_before 0 first c in
    let b = place_in first c in
    let h = leaves (set_text cs) in
    old_parts first c h
    ∙ ap₂ (λ (rs : List Record) (n : ℕ). a ++ (rs ++ records_after 0 n c)) (records_leaves (level_in 0 c) b (set_text cs)) (past_set b cs)
    ∙ ap (λ (rs : List Record). a ++ (run_records (level_in 0 c) b (set_text cs) ++ rs)) (after_moved 0 stop (b + length (text_bytes cs)) c)
    ∙ ap₂ (λ (m n : ℕ). a ++ (run_records m n (set_text cs) ++ map (moved stop (n + length (text_bytes cs))) (records_after 0 stop c))) (sym e1) (sym e2)

-- the law: a text node is set, where all are Chars
pub text_node_patched : (k : ℕ) (bytes : List ℕ) (nest : Forest) (e : Entry) (xs : List Leaf) (cs : List ℕ) → Accepted k bytes nest →
    Contains (all nest (first_place bytes)) e → e.what ≡ Thing.text xs → list_all is_char cs ≡ true → TextPatched k bytes nest e xs cs
unfolding size
text_node_patched k bytes nest e xs cs a there w chars =
    let first = first_place bytes in
    let s = text_stand nest first e xs there w in
    let c = s.stand.around in
    let at = place_in first c in
    let held = is_held_by c (length e.holders) s.inside s.stand.level in
    let a2 : Accepted k bytes (plug c (leaves xs)) = subst (Accepted k bytes) s.stand.split a in
    let new = text_patched k bytes c xs cs a2 held s.texts (no_last_text (items_before c) false false (λ h. h) s.apart_before) s.apart_after chars in
    let same : exchanged bytes at (past_forest at (leaves xs)) (text_bytes cs) ≡ exchanged bytes e.start e.stop (text_bytes cs) =
    ap₂ (λ (x y : ℕ). exchanged bytes x y (text_bytes cs)) (sym s.stand.starts) (sym s.stand.stops) in
    let accepted : Accepted k (exchanged bytes e.start e.stop (text_bytes cs)) (plug c (leaves (set_text cs))) =
    subst (λ (l : List ℕ). Accepted k l (plug c (leaves (set_text cs)))) same new.0 in
    let at_index : e.index ≡ suc (length (records_before 0 first c)) = s.stand.record_at ∙ one-add (length (records_before 0 first c)) in
    record {
      new = plug c (leaves (set_text cs));
      accepted = accepted;
      first = ap first_place (sym same) ∙ new.1;
      before = document ∷ records_before 0 first c;
      rest = records_after 0 e.stop c;
      were = were_by first c xs nest (length e.holders) e.start e.stop s.stand.split s.stand.level s.stand.starts s.stand.stops;
      are = are_by first c cs (length e.holders) e.start e.stop s.stand.level s.stand.starts;
      index = at_index;
      past = text_past nest first e xs there w ∙ ap (λ (n : ℕ). n + length (run_records (length e.holders) e.start xs)) at_index;
      further = after_all e.stop c;
    }
