-- The child elements of an element are the entries of the next level that begin among its records.
use Rattle.std.proofs.Common.{◌≡◌, ℕ, zero, suc, ◌+◌, ◌*◌, ◌/◌, ◌%◌, ◌^◌, ◌<◌, ◌≤◌, Bool, true, false, cond, ◌&&◌, ◌==◌, List, [], ◌∷◌, ◌++◌, length, map, drop, slice_index, nat_lt, filter, Option, Some, None, refl, ap, ap₂, sym, subst, ◌∙◌, arith, inl, inr, lt-ltb, le-ltb, le-leb, leb, append_assoc, add-one, drop_at, length-drop}
use Rattle.std.specs.Option.{unwrap_or}
use Rattle.std.specs.List.{position, position_or_len}
use Rattle.std.proofs.lemmas.Bool.Decides.{nat_tests}
use Rattle.std.specs.Prelude.{option_and_then}
use Rattle.std.proofs.lemmas.Bool.{ltb-true, lt-leb, cases_lt, cases_eq, cases_Bool, and_from, eq-eqb}
use Rattle.std.proofs.lemmas.List.{length-append, drop_all}
use Rattle.std.proofs.lemmas.Nat.{div-mul-add, mod-mul-add}
use Rattle.xml_model.specs.Records.{Record}
use Rattle.xml_model.specs.Scan.{level_of, record_at, end_from, end_by_scan}
use Rattle.xml_model.specs.Levels.{is_tag, tags_from, deepest_next, StepsDown, child_tags, child_position, child_from, level_word, record_level, levels, AreNested, no_child}
use Rattle.xml_model.specs.LevelScan.{next_is}
use Rattle.xml_model.proofs.LevelScan.{Below, From, tags_are_from, below_more, Split, child_is}
use Rattle.xml_model.proofs.ScanSteps.{from_index}
use Rattle.xml_model.proofs.TreeLevels.{split_at, steps_at}
use Rattle.xml_model.proofs.TagCounts.{count_within}
use Rattle.xml_model.proofs.ChildTags.{tag_level, after_tag, after_other, end_beyond, no_first}
use Rattle.vtd_words.specs.declared.word_vec.Part.{Part}
use Rattle.vtd_words.specs.declared.word_vec.Part.TheVariants as parts
use Rattle.vtd_words.specs.Lists.{Lists, list_of}
use Rattle.vtd_words.specs.Table.{Shows}
use Rattle.vtd_words.proofs.Same.{shown_same}
use Rattle.vtd_words.proofs.Shown.{shown_length}
use Rattle.vtd_location.specs.Children.{before_bound, first_of, FirstNotBelow, NeverFalls, IsAround, IsLeveled, entry_record, entry_records}

from_past : (m : ℕ) (xs : List ℕ) (bound : ℕ) → bound ≤ m → From m xs → before_bound bound xs ≡ []
from_past m [] bound h f = refl
from_past m (x ∷ xs) bound h f = let t : nat_lt x bound ≡ false = le-ltb x bound (omega (arith, h, f.0)) in rw t refl

filter_past : (m past : ℕ) (xs : List ℕ) → past ≤ m → From m xs → filter (λ j. nat_lt j past) xs ≡ []
filter_past m past [] h f = refl
filter_past m past (x ∷ xs) h f = let t : nat_lt x past ≡ false = le-ltb x past (omega (arith, h, f.0)) in rw t (filter_past m past xs h f.1)

-- where records are at most at level k, no tag one deeper is before the next tag of depth k
none_deeper : (k l n whole : ℕ) (rs : List Record) → StepsDown l rs → l ≤ k → n + length rs ≤ whole →
    before_bound (first_of (tags_from k n rs) whole) (tags_from (suc k) n rs) ≡ []
none_deeper k l n whole [] s h w = refl
none_deeper k l n whole (r ∷ rs) s h w = elim (cases_Bool (is_tag r)) [
  | inl tag ↦ elim (cases_eq r.depth k) [
    | inl same ↦
        let here : (is_tag r && r.depth == k) ≡ true = and_from _ _ tag (eq-eqb r.depth k same) in
        let low = tags_are_from (suc k) n (r ∷ rs) in
        ap (λ (b : Bool). before_bound (first_of (cond b (n ∷ []) [] ++ tags_from k (suc n) rs) whole) (tags_from (suc k) n (r ∷ rs))) here
        ∙ from_past n (tags_from (suc k) n (r ∷ rs)) n (omega arith) low
    | inr other ↦
        let low : r.depth < k = omega (arith, s.0, h, tag_level r tag, other) in
        let a : (is_tag r && r.depth == k) ≡ false = ap (λ (b : Bool). b && r.depth == k) tag
        ∙ (let z : (r.depth == k) ≡ false = grind (arith, nat_tests) in z) in
        let b : (is_tag r && r.depth == suc k) ≡ false = ap (λ (b : Bool). b && r.depth == suc k) tag
        ∙ (let z : (r.depth == suc k) ≡ false = grind (arith, nat_tests) in z) in
        ap₂ (λ (x y : Bool). before_bound (first_of (cond x (n ∷ []) [] ++ tags_from k (suc n) rs) whole) (cond y (n ∷ []) [] ++ tags_from (suc k) (suc n) rs)) a b
        ∙ none_deeper k (deepest_next r) (suc n) whole rs s.1 (omega (arith, after_tag r tag, low)) (omega (arith, w))
  ]
  | inr o ↦
      let a : (is_tag r && r.depth == k) ≡ false = ap (λ (b : Bool). b && r.depth == k) o in
      let b : (is_tag r && r.depth == suc k) ≡ false = ap (λ (b : Bool). b && r.depth == suc k) o in
      ap₂ (λ (x y : Bool). before_bound (first_of (cond x (n ∷ []) [] ++ tags_from k (suc n) rs) whole) (cond y (n ∷ []) [] ++ tags_from (suc k) (suc n) rs)) a b
      ∙ none_deeper k (deepest_next r) (suc n) whole rs s.1 (omega (arith, after_other r o, s.0, h)) (omega (arith, w))
]

first_low : (k n whole : ℕ) (rs : List Record) → n ≤ whole → n ≤ first_of (tags_from k n rs) whole
first_low k n whole rs h = by (tags_from k n rs) (tags_are_from k n rs)
  where
    by : (xs : List ℕ) → From n xs → n ≤ first_of xs whole
    by [] f = h
    by (x ∷ xs) f = f.0

-- a record that is deeper than a level is no tag of this depth
not_here : (k : ℕ) (r : Record) → k < level_of r → (is_tag r && r.depth == k) ≡ false
not_here k r deep = by (is_tag r) refl
  where
    by : (b : Bool) → is_tag r ≡ b → (is_tag r && r.depth == k) ≡ false
    by true t = ap (λ (b : Bool). b && r.depth == k) t ∙ other (omega (arith, deep, tag_level r t))
      where
        other : k < r.depth → (r.depth == k) ≡ false
        other h = grind (arith, nat_tests)
    by false t = ap (λ (b : Bool). b && r.depth == k) t

-- the tags one deeper before the next tag of depth k are those among the records
pub bounded : (k l n whole : ℕ) (rs : List Record) → StepsDown l rs → n + length rs ≤ whole →
    before_bound (first_of (tags_from k n rs) whole) (tags_from (suc k) n rs) ≡ filter (λ j. nat_lt j (end_from k n rs)) (tags_from (suc k) n rs)
bounded k l n whole [] s w = refl
bounded k l n whole (r ∷ rs) s w = elim (cases_lt k (level_of r)) [
  | inl deep ↦
      let j : leb (level_of r) k ≡ false = lt-leb (level_of r) k deep in
      let past : end_from k n (r ∷ rs) ≡ end_from k (suc n) rs = rw j refl in
      let a : (is_tag r && r.depth == k) ≡ false = not_here k r deep in
      let more = tags_from (suc k) (suc n) rs in
      let ih = bounded k (deepest_next r) (suc n) whole rs s.1 (omega (arith, w)) in
      elim (cases_Bool (is_tag r && r.depth == suc k)) [
        | inl b ↦
            let bound = first_of (tags_from k (suc n) rs) whole in
            let in_bound : nat_lt n bound ≡ true = lt-ltb n bound (omega (arith, first_low k (suc n) whole rs (omega (arith, w)))) in
            let in_end : nat_lt n (end_from k (suc n) rs) ≡ true = lt-ltb n (end_from k (suc n) rs) (omega (arith, end_beyond k (suc n) rs)) in
            ap₂ (λ (x y : Bool). before_bound (first_of (cond x (n ∷ []) [] ++ tags_from k (suc n) rs) whole) (cond y (n ∷ []) [] ++ more)) a b
            ∙ ap (λ (x : Bool). cond x (n ∷ before_bound bound more) []) in_bound
            ∙ ap (λ (xs : List ℕ). n ∷ xs) ih
            ∙ sym (ap₂ (λ (y : Bool) (e : ℕ). filter (λ i. nat_lt i e) (cond y (n ∷ []) [] ++ more)) b past
            ∙ ap (λ (x : Bool). cond x (n ∷ filter (λ i. nat_lt i (end_from k (suc n) rs)) more) (filter (λ i. nat_lt i (end_from k (suc n) rs)) more)) in_end)
        | inr b ↦
            ap₂ (λ (x y : Bool). before_bound (first_of (cond x (n ∷ []) [] ++ tags_from k (suc n) rs) whole) (cond y (n ∷ []) [] ++ more)) a b
            ∙ ih
            ∙ sym (ap₂ (λ (y : Bool) (e : ℕ). filter (λ i. nat_lt i e) (cond y (n ∷ []) [] ++ more)) b past)
      ]
  | inr shallow ↦
      let j : leb (level_of r) k ≡ true = le-leb (level_of r) k shallow in
      let past : end_from k n (r ∷ rs) ≡ n = rw j refl in
      let here : StepsDown k (r ∷ rs) = (shallow, s.1) in
      none_deeper k k n whole (r ∷ rs) here (omega arith) w
      ∙ sym (ap (λ (e : ℕ). filter (λ i. nat_lt i e) (tags_from (suc k) n (r ∷ rs))) past ∙ filter_past n n (tags_from (suc k) n (r ∷ rs)) (omega arith) (tags_are_from (suc k) n (r ∷ rs)))
]

-- ---- one parent

never_falls_from : (x : ℕ) (xs : List ℕ) → From x xs → (i : ℕ) → i < length xs → x ≤ slice_index xs i
never_falls_from x [] f i h = absurd (omega arith)
never_falls_from x (y ∷ xs) f zero h = f.0
never_falls_from x (y ∷ xs) f (suc i) h = never_falls_from x xs f.1 i (omega (arith, h))

from_later : (m n : ℕ) (xs : List ℕ) → m ≤ n → From n xs → From m xs
from_later m n [] h f = tt
from_later m n (x ∷ xs) h f = (omega (arith, h, f.0), from_later m n xs h f.1)

pub never_falls : (k n : ℕ) (rs : List Record) → NeverFalls (tags_from k n rs)
never_falls k n [] = λ i j h l. absurd (omega (arith, l))
never_falls k n (r ∷ rs) = by (is_tag r && r.depth == k) (never_falls k (suc n) rs) (from_later n (suc n) (tags_from k (suc n) rs) (omega arith) (tags_are_from k (suc n) rs))
  where
    by : (b : Bool) → NeverFalls (tags_from k (suc n) rs) → From n (tags_from k (suc n) rs) → NeverFalls (cond b (n ∷ []) [] ++ tags_from k (suc n) rs)
    by true f g zero zero h l = omega arith
    by true f g zero (suc j) h l = never_falls_from n (tags_from k (suc n) rs) g j (omega (arith, l))
    by true f g (suc i) zero h l = absurd (omega (arith, h))
    by true f g (suc i) (suc j) h l = f i j (omega (arith, h)) (omega (arith, l))
    by false f g i j h l = f i j h l

-- the entry of a tag is after those of the tags before it
slice_before : (n : ℕ) (before after : List ℕ) (i : ℕ) → Below n before → i < length before → slice_index (before ++ after) i < n
slice_before n [] after i b h = absurd (omega (arith, h))
slice_before n (x ∷ before) after zero b h = b.0
slice_before n (x ∷ before) after (suc i) b h = slice_before n before after i b.1 (omega (arith, h))

slice_at : (before after : List ℕ) (x : ℕ) → slice_index (before ++ x ∷ after) (length before) ≡ x
slice_at [] after x = refl
slice_at (y ∷ before) after x = slice_at before after x

pub found_at : (n : ℕ) (before after : List ℕ) (at : ℕ) → Below n before → FirstNotBelow (before ++ n ∷ after) n at → at ≡ length before
found_at n before after at b f = elim (cases_lt at (length before)) [
  | inl low ↦
      let within : at < length (before ++ n ∷ after) = omega (arith, low, length-append before (n ∷ after)) in
      let high : n ≤ slice_index (before ++ n ∷ after) at = f.above at (omega arith) within in
      absurd (omega (arith, high, slice_before n before (n ∷ after) at b low))
  | inr high ↦ elim (cases_lt (length before) at) [
    | inl more ↦
        let less : slice_index (before ++ n ∷ after) (length before) < n = f.below (length before) more in
        absurd (omega (arith, less, slice_at before after n))
    | inr same ↦ omega (arith, high, same)
  ]
]

drop_past : (before after : List ℕ) (n : ℕ) → n ≡ length before → drop n (before ++ after) ≡ after
drop_past before after n e = drop_at before after n (sym e)

drop_next : (before after : List ℕ) (x n : ℕ) → n ≡ length before → drop (n + 1) (before ++ x ∷ after) ≡ after
drop_next before after x n e =
    let one : length (before ++ x ∷ []) ≡ n + 1 = length-append before (x ∷ []) ∙ (omega (arith, e)) in
    ap (λ (xs : List ℕ). drop (n + 1) xs) (sym (append_assoc before (x ∷ []) after)) ∙ drop_at (before ++ x ∷ []) after (n + 1) one

filter_front : (n past : ℕ) (before after : List ℕ) → Below (suc n) before →
    filter (λ j. nat_lt n j && nat_lt j past) (before ++ after) ≡ filter (λ j. nat_lt n j && nat_lt j past) after
filter_front n past [] after b = refl
filter_front n past (x ∷ before) after b =
    let t : (nat_lt n x && nat_lt x past) ≡ false = ap (λ (c : Bool). c && nat_lt x past) (le-ltb n x (omega (arith, b.0))) in
    rw t (filter_front n past before after b.1)

filter_after : (n past : ℕ) (xs : List ℕ) → From (suc n) xs → filter (λ j. nat_lt n j && nat_lt j past) xs ≡ filter (λ j. nat_lt j past) xs
filter_after n past [] f = refl
filter_after n past (x ∷ xs) f =
    let t : (nat_lt n x && nat_lt x past) ≡ nat_lt x past = ap (λ (c : Bool). c && nat_lt x past) (lt-ltb n x (omega (arith, f.0))) in
    ap₂ (λ (c : Bool) (ys : List ℕ). cond c (x ∷ ys) ys) t (filter_after n past xs f.1)

none_first : (k l n : ℕ) (rs : List Record) → StepsDown l rs → l ≤ suc k → next_is (suc k) rs ≡ false →
    filter (λ j. nat_lt j (end_from k n rs)) (tags_from (suc k) n rs) ≡ []
none_first k l n rs s h t = filter_past (end_from k n rs) (end_from k n rs) (tags_from (suc k) n rs) (omega arith) (no_first k l n rs s h t)

-- a parent among records: the tags of its depth and those one deeper, before it and after
pub record Parent (rs : List Record) (k n : ℕ) : Type 0 where
  pub mine : List ℕ
  pub deeper : List ℕ
  pub low : Below n mine
  pub low_deeper : Below (suc n) deeper
  pub tags : tags_from (suc k) 0 rs ≡ mine ++ n ∷ tags_from (suc k) (suc n) (drop (suc n) rs)
  pub deeper_tags : tags_from (suc (suc k)) 0 rs ≡ deeper ++ tags_from (suc (suc k)) (suc n) (drop (suc n) rs)
  pub steps : StepsDown (suc (suc k)) (drop (suc n) rs)
  pub first : child_position (suc k) rs n ≡ cond (next_is (suc (suc k)) (drop (suc n) rs)) (length deeper) no_child
  pub past : end_by_scan n rs ≡ end_from (suc k) (suc n) (drop (suc n) rs)

pub parent_of : (rs : List Record) (k n : ℕ) → StepsDown 0 rs → n < length rs → is_tag (record_at n rs) ≡ true → (record_at n rs).depth ≡ suc k → Parent rs k n
parent_of rs k n steps within t d =
    let r = record_at n rs in
    let rest = drop (suc n) rs in
    let own = split_at k n rs (omega (arith, within)) in
    let next = split_at (suc k) n rs (omega (arith, within)) in
    let cons : drop n rs ≡ r ∷ rest = from_index rs n within ∙ ap (λ m. r ∷ drop m rs) (add-one n) in
    let at : Split k n rs own.0 (r ∷ rest) = subst (λ xs. Split k n rs own.0 xs) cons own.1 in
    let at1 : Split (suc k) n rs next.0 (r ∷ rest) = subst (λ xs. Split (suc k) n rs next.0 xs) cons next.1 in
    let here : (is_tag r && r.depth == suc k) ≡ true = and_from _ _ t (eq-eqb r.depth (suc k) d) in
    let other : (is_tag r && r.depth == suc (suc k)) ≡ false = ap (λ b. b && r.depth == suc (suc k)) t ∙ not_deeper r.depth (suc k) d in
    let level : level_of r ≡ suc k = tag_level r t ∙ d in
    let after : deepest_next r ≡ suc (suc k) = after_tag r t ∙ ap suc d in
    record {
      mine = own.0;
      deeper = next.0;
      low = at.low;
      low_deeper = below_more n next.0 at1.low;
      tags = at.tags ∙ ap (λ (b : Bool). own.0 ++ (cond b (n ∷ []) [] ++ tags_from (suc k) (suc n) rest)) here;
      deeper_tags = at1.tags ∙ ap (λ (b : Bool). next.0 ++ (cond b (n ∷ []) [] ++ tags_from (suc (suc k)) (suc n) rest)) other;
      steps = subst (λ m. StepsDown m rest) after (steps_at rs n 0 steps within);
      first = child_is (suc k) n (length next.0) rs next.0 r rest at1 here refl;
      past = ap (λ m. end_from m (suc n) rest) level;
    }
  where
    not_deeper : (d k : ℕ) → d ≡ k → (d == suc k) ≡ false
    not_deeper d k e = grind (arith, nat_tests)

-- the entries from the first child on that are before the next entry of the parent's level
pub children_told : (rs : List Record) (k n first bound whole : ℕ) → (p : Parent rs k n) → whole ≡ length rs → length rs ≤ no_child → n < length rs →
    (record_at n rs).depth ≡ suc k →
    first ≡ child_position (suc k) rs n → bound ≡ first_of (tags_from (suc k) (suc n) (drop (suc n) rs)) whole →
    before_bound bound (drop first (tags_from (suc (suc k)) 0 rs)) ≡ child_tags n rs
children_told rs k n first bound whole p w few within d f b =
    let rest = drop (suc n) rs in
    let more = tags_from (suc (suc k)) (suc n) rest in
    let size : suc n + length rest ≤ whole = omega (arith, w, within, length-drop (suc n) rs) in
    let bound_is = bounded (suc k) (suc (suc k)) (suc n) whole rest p.steps size in
    let kids : child_tags n rs ≡ filter (λ j. nat_lt j (end_from (suc k) (suc n) rest)) more =
    ap (λ (m : ℕ). filter (λ j. nat_lt n j && nat_lt j (end_by_scan n rs)) (tags_from (suc m) 0 rs)) d
    ∙ ap₂ (λ (e : ℕ) (ts : List ℕ). filter (λ j. nat_lt n j && nat_lt j e) ts) p.past p.deeper_tags
    ∙ filter_front n (end_from (suc k) (suc n) rest) p.deeper more p.low_deeper
    ∙ filter_after n (end_from (suc k) (suc n) rest) more (tags_are_from (suc (suc k)) (suc n) rest) in
    by (next_is (suc (suc k)) rest) refl rest more bound_is kids
  where
    by : (c : Bool) → next_is (suc (suc k)) (drop (suc n) rs) ≡ c → (rest : List Record) (more : List ℕ) →
        before_bound (first_of (tags_from (suc k) (suc n) (drop (suc n) rs)) whole) (tags_from (suc (suc k)) (suc n) (drop (suc n) rs))
        ≡ filter (λ j. nat_lt j (end_from (suc k) (suc n) (drop (suc n) rs))) (tags_from (suc (suc k)) (suc n) (drop (suc n) rs)) →
        child_tags n rs ≡ filter (λ j. nat_lt j (end_from (suc k) (suc n) (drop (suc n) rs))) (tags_from (suc (suc k)) (suc n) (drop (suc n) rs)) →
        before_bound bound (drop first (tags_from (suc (suc k)) 0 rs)) ≡ child_tags n rs
    by true t rest more bound_is kids =
        let place : first ≡ length p.deeper = f ∙ p.first ∙ ap (λ (x : Bool). cond x (length p.deeper) no_child) t in
        ap₂ (λ (m : ℕ) (ts : List ℕ). before_bound m ts) b (ap (drop first) p.deeper_tags ∙ drop_past p.deeper (tags_from (suc (suc k)) (suc n) (drop (suc n) rs)) first place) ∙ bound_is ∙ sym kids
    by false t rest more bound_is kids =
        let place : first ≡ no_child = f ∙ p.first ∙ ap (λ (x : Bool). cond x (length p.deeper) no_child) t in
        let none : drop first (tags_from (suc (suc k)) 0 rs) ≡ [] = drop_all first (tags_from (suc (suc k)) 0 rs) (omega (arith, place, few, count_within (suc (suc k)) 0 rs)) in
        ap (before_bound bound) none ∙ sym (kids ∙ none_first (suc k) (suc (suc k)) (suc n) (drop (suc n) rs) p.steps (omega arith) t)

-- ---- entries

small_or : (b : Bool) (i len : ℕ) → nat_lt i len ≡ b → len < 2 ^ 32 → unwrap_or (cond b (Some i) None) no_child < 2 ^ 32
small_or true i len t h = let low : i < len = ltb-true i len t in omega (arith, low, h)
small_or false i len t h = omega arith

pub position_small : (k : ℕ) (rs : List Record) (n : ℕ) → length rs < 2 ^ 32 → child_position k rs n < 2 ^ 32
position_small k rs n few = by (child_from k (suc n) (drop (suc n) rs))
  where
    by : (o : Option ℕ) → unwrap_or (option_and_then (λ j. position (λ m. m == j) (tags_from (suc k) 0 rs)) o) no_child < 2 ^ 32
    by None = omega arith
    by (Some j) =
        let tags = tags_from (suc k) 0 rs in
        small_or (nat_lt (position_or_len (λ m. m == j) tags) (length tags)) (position_or_len (λ m. m == j) tags) (length tags) refl (omega (arith, few, count_within (suc k) 0 rs))

uppers : (f : ℕ → ℕ) (pos : ℕ → ℕ) (ns : List ℕ) → ((w : ℕ) → f w ≡ w / 2 ^ 32) → ((r : ℕ) → pos r < 2 ^ 32) →
    map f (map level_word (map (λ r. (r, pos r)) ns)) ≡ ns
unfolding level_word
uppers f pos [] h p = refl
uppers f pos (n ∷ ns) h p = ap₂ (λ (x : ℕ) (xs : List ℕ). x ∷ xs) (h (n * 2 ^ 32 + pos n) ∙ div-mul-add n (2 ^ 32) (pos n) (p n)) (uppers f pos ns h p)

-- the records of the entries of a level
pub own_records : (own : Part) (lists : Lists) (k : ℕ) (rs : List Record) → list_of own lists ≡ map level_word (record_level k rs) →
    ((w : ℕ) → entry_record own w ≡ w / 2 ^ 32) → length rs < 2 ^ 32 → entry_records own lists ≡ tags_from k 0 rs
unfolding record_level
own_records own lists k rs e h few =
    ap (map (entry_record own)) e ∙ uppers (entry_record own) (child_position k rs) (tags_from k 0 rs) h (λ r. position_small k rs r few)

slice_of : (pos : ℕ → ℕ) (before after : List ℕ) (n : ℕ) →
    slice_index (map level_word (map (λ r. (r, pos r)) (before ++ n ∷ after))) (length before) ≡ level_word (n, pos n)
slice_of pos [] after n = refl
slice_of pos (x ∷ before) after n = slice_of pos before after n

-- the lower half of an entry
pub lower_half : (k : ℕ) (rs : List Record) (before after : List ℕ) (n : ℕ) → tags_from k 0 rs ≡ before ++ n ∷ after → length rs < 2 ^ 32 →
    slice_index (map level_word (record_level k rs)) (length before) % 2 ^ 32 ≡ child_position k rs n
unfolding record_level level_word
lower_half k rs before after n e few =
    ap (λ (ns : List ℕ). slice_index (map level_word (map (λ r. (r, child_position k rs r)) ns)) (length before) % 2 ^ 32) e
    ∙ ap (λ (w : ℕ). w % 2 ^ 32) (slice_of (child_position k rs) before after n)
    ∙ mod-mul-add n (2 ^ 32) (child_position k rs n) (position_small k rs n few)

-- ---- around an element

abbrev pub AroundParent : (lists : Lists) (own deeper : Part) (n : ℕ) → IsAround lists own deeper n → Type 0
AroundParent lists own deeper n a = Parent a.tokens a.above n

pub around : (lists : Lists) (own deeper : Part) (n : ℕ) → (a : IsAround lists own deeper n) → AroundParent lists own deeper n a
around lists own deeper n a = parent_of a.tokens a.above n a.steps a.within a.tag a.depth

pub own_are : (lists : Lists) (own deeper : Part) (n : ℕ) → (a : IsAround lists own deeper n) → entry_records own lists ≡ tags_from (suc a.above) 0 a.tokens
own_are lists own deeper n a = own_records own lists (suc a.above) a.tokens a.entries a.halves a.few

pub own_never_falls : (lists : Lists) (own deeper : Part) (n : ℕ) → IsAround lists own deeper n → NeverFalls (entry_records own lists)
own_never_falls lists own deeper n a = subst NeverFalls (sym (own_are lists own deeper n a)) (never_falls (suc a.above) 0 a.tokens)

pub own_found : (lists : Lists) (own deeper : Part) (n at : ℕ) → (a : IsAround lists own deeper n) → FirstNotBelow (entry_records own lists) n at →
    at ≡ length (around lists own deeper n a).mine
own_found lists own deeper n at a f =
    let p = around lists own deeper n a in
    found_at n p.mine (tags_from (suc a.above) (suc n) (drop (suc n) a.tokens)) at p.low (subst (λ (xs : List ℕ). FirstNotBelow xs n at) (own_are lists own deeper n a ∙ p.tags) f)

entries_long : (own : Part) (lists : Lists) → length (entry_records own lists) ≡ length (list_of own lists)
entries_long own lists = go (list_of own lists)
  where
    go : (xs : List ℕ) → length (map (entry_record own) xs) ≡ length xs
    go [] = refl
    go (x ∷ xs) = ap suc (go xs)

pub own_within : (lists : Lists) (own deeper : Part) (n at : ℕ) → (a : IsAround lists own deeper n) → FirstNotBelow (entry_records own lists) n at →
    at < length (list_of own lists)
own_within lists own deeper n at a f =
    let p = around lists own deeper n a in
    let place = own_found lists own deeper n at a f in
    let long = ap (λ (xs : List ℕ). length xs) (own_are lists own deeper n a ∙ p.tags) in
    omega (arith, place, long, length-append p.mine (n ∷ tags_from (suc a.above) (suc n) (drop (suc n) a.tokens)), entries_long own lists)

pub own_small : (lists : Lists) (own deeper : Part) (n at : ℕ) → (a : IsAround lists own deeper n) → FirstNotBelow (entry_records own lists) n at →
    at + 1 < 2 ^ 32
own_small lists own deeper n at a f =
    let long = ap (λ (xs : List ℕ). length xs) (own_are lists own deeper n a) in
    omega (arith, own_within lists own deeper n at a f, long, entries_long own lists, count_within (suc a.above) 0 a.tokens, a.few)

-- what is told
pub below_told : (lists : Lists) (own deeper : Part) (n at first bound : ℕ) → (a : IsAround lists own deeper n) → FirstNotBelow (entry_records own lists) n at →
    first ≡ slice_index (list_of own lists) at % 2 ^ 32 → bound ≡ first_of (drop (at + 1) (entry_records own lists)) (length lists.records) →
    (rs : List Record) → Shows lists.records rs → before_bound bound (drop first (entry_records deeper lists)) ≡ child_tags n rs
below_told lists own deeper n at first bound a f e b rs shows =
    let p = around lists own deeper n a in
    let place = own_found lists own deeper n at a f in
    let after = tags_from (suc a.above) (suc n) (drop (suc n) a.tokens) in
    let low : first ≡ child_position (suc a.above) a.tokens n =
    e ∙ ap₂ (λ (ws : List ℕ) (i : ℕ). slice_index ws i % 2 ^ 32) a.entries place ∙ lower_half (suc a.above) a.tokens p.mine after n p.tags a.few in
    let past : bound ≡ first_of after (length lists.records) =
    b ∙ ap (λ (xs : List ℕ). first_of (drop (at + 1) xs) (length lists.records)) (own_are lists own deeper n a ∙ p.tags)
    ∙ ap (λ (xs : List ℕ). first_of xs (length lists.records)) (drop_next p.mine after n at place) in
    ap (λ (xs : List ℕ). before_bound bound (drop first xs)) a.children
    ∙ children_told a.tokens a.above n first bound (length lists.records) p (shown_length lists.records a.tokens a.shown) (omega (arith, a.few)) a.within a.depth low past
    ∙ ap (child_tags n) (shown_same lists.records a.tokens rs a.shown shows)

-- ---- the root element

all_below : (bound : ℕ) (xs : List ℕ) → Below bound xs → before_bound bound xs ≡ xs
all_below bound [] b = refl
all_below bound (x ∷ xs) b = let t : nat_lt x bound ≡ true = lt-ltb x bound b.0 in rw t (ap (λ (ys : List ℕ). x ∷ ys) (all_below bound xs b.1))

tags_below : (k n whole : ℕ) (rs : List Record) → n + length rs ≤ whole → Below whole (tags_from k n rs)
tags_below k n whole [] h = tt
tags_below k n whole (r ∷ rs) h = by (is_tag r && r.depth == k) (tags_below k (suc n) whole rs (omega (arith, h)))
  where
    by : (b : Bool) → Below whole (tags_from k (suc n) rs) → Below whole (cond b (n ∷ []) [] ++ tags_from k (suc n) rs)
    by true f = (omega (arith, h), f)
    by false f = f

empty_of : (xs : List ℕ) → length xs ≡ 0 → xs ≡ []
empty_of [] e = refl
empty_of (x ∷ xs) e = absurd (omega arith)

tags_split : (k m n : ℕ) (rs : List Record) → n ≤ length rs → (before : List ℕ) × (tags_from k m rs ≡ before ++ tags_from k (m + n) (drop n rs))
tags_split k m zero rs h = ([], ap (λ (i : ℕ). tags_from k i rs) (let z : m ≡ m + 0 = omega arith in z))
tags_split k m (suc n) [] h = absurd (omega arith)
tags_split k m (suc n) (r ∷ rs) h =
    let s = tags_split k (suc m) n rs (omega (arith, h)) in
    let mine = cond (is_tag r && r.depth == k) (m ∷ []) [] in
    (mine ++ s.0, ap (λ (xs : List ℕ). mine ++ xs) (s.1 ∙ ap (λ (i : ℕ). s.0 ++ tags_from k i (drop n rs)) (let z : suc m + n ≡ m + suc n = omega arith in z)) ∙ sym (append_assoc mine s.0 (tags_from k (m + suc n) (drop n rs))))

none_low : (n : ℕ) (before ys : List ℕ) → Below n before → before_bound n (before ++ ys) ≡ [] → before ≡ []
none_low n [] ys b e = refl
none_low n (x ∷ before) ys b e =
    let t : nat_lt x n ≡ true = lt-ltb x n b.0 in
    let some : x ∷ before_bound n (before ++ ys) ≡ [] = sym (ap (λ (c : Bool). cond c (x ∷ before_bound n (before ++ ys)) []) t) ∙ e in
    absurd cc

-- where no other tag has depth 0, all tags of depth 1 are among the records of the one that has
pub all_told : (rs : List Record) (n bound : ℕ) → AreNested rs → n < length rs → is_tag (record_at n rs) ≡ true → (record_at n rs).depth ≡ 0 →
    length rs ≤ bound →
    before_bound bound (tags_from 1 0 rs) ≡ child_tags n rs
all_told rs n bound a within t d few =
    let rest = drop (suc n) rs in
    let r = record_at n rs in
    let whole = length rs in
    let after = tags_from 1 (suc n) rest in
    let cons : drop n rs ≡ r ∷ rest = from_index rs n within ∙ ap (λ m. r ∷ drop m rs) (add-one n) in
    let own = tags_split 0 0 n rs (omega (arith, within)) in
    let next = split_at 0 n rs (omega (arith, within)) in
    let here : (is_tag r && r.depth == 0) ≡ true = and_from _ _ t (eq-eqb r.depth 0 d) in
    let other : (is_tag r && r.depth == 1) ≡ false = ap (λ b. b && r.depth == 1) t ∙ (let z : (r.depth == 1) ≡ false = grind (arith, nat_tests) in z) in
    let more = tags_from 0 (suc n) rest in
    let roots : tags_from 0 0 rs ≡ own.0 ++ n ∷ more =
    own.1 ∙ ap₂ (λ (i : ℕ) (xs : List Record). own.0 ++ tags_from 0 i xs) (let z : 0 + n ≡ n = omega arith in z) cons
    ∙ ap (λ (b : Bool). own.0 ++ (cond b (n ∷ []) [] ++ more)) here in
    let kids : tags_from 1 0 rs ≡ next.0 ++ after =
    next.1.tags ∙ ap (λ (xs : List Record). next.0 ++ tags_from 1 n xs) cons ∙ ap (λ (b : Bool). next.0 ++ (cond b (n ∷ []) [] ++ after)) other in
    let count : length own.0 + suc (length more) ≡ 1 = sym (length-append own.0 (n ∷ more)) ∙ sym (ap (λ (xs : List ℕ). length xs) roots) ∙ a.root in
    let no_more : more ≡ [] = empty_of more (omega (arith, count)) in
    let no_less : own.0 ≡ [] = empty_of own.0 (omega (arith, count)) in
    let first : tags_from 0 0 rs ≡ n ∷ [] = roots ∙ ap₂ (λ (xs ys : List ℕ). xs ++ n ∷ ys) no_less no_more in
    let low : before_bound n (next.0 ++ after) ≡ [] =
    sym (ap₂ (λ (xs ys : List ℕ). before_bound (first_of xs whole) ys) first kids) ∙ none_deeper 0 0 0 whole rs a.steps (omega arith) (omega arith) in
    let front : next.0 ≡ [] = none_low n next.0 after next.1.low low in
    let all : tags_from 1 0 rs ≡ after = kids ∙ ap (λ (xs : List ℕ). xs ++ after) front in
    let size : suc n + length rest ≤ whole = omega (arith, within, length-drop (suc n) rs) in
    let deep : StepsDown 1 rest = subst (λ m. StepsDown m rest) (after_tag r t ∙ ap suc d) (steps_at rs n 0 a.steps within) in
    let inside = ap (λ (xs : List ℕ). before_bound (first_of xs whole) after) (sym no_more) ∙ bounded 0 1 (suc n) whole rest deep size in
    let in_whole = all_below whole after (tags_below 1 (suc n) whole rest size) in
    let in_bound = all_below bound after (tags_below 1 (suc n) bound rest (omega (arith, size, few))) in
    let past : end_by_scan n rs ≡ end_from 0 (suc n) rest = ap (λ m. end_from m (suc n) rest) (tag_level r t ∙ d) in
    ap (before_bound bound) all ∙ in_bound ∙ sym in_whole ∙ inside
    ∙ sym (ap (λ (m : ℕ). filter (λ j. nat_lt n j && nat_lt j (end_by_scan n rs)) (tags_from (suc m) 0 rs)) d
    ∙ ap₂ (λ (e : ℕ) (ts : List ℕ). filter (λ j. nat_lt n j && nat_lt j e) ts) past all
    ∙ filter_after n (end_from 0 (suc n) rest) after (tags_are_from 1 (suc n) rest))

-- ---- which levels are around an element

last_records : (ws ts : List ℕ) → ws ≡ ts → map (λ w. w) ws ≡ ts
last_records ws ts e = go ws ∙ e
  where
    go : (xs : List ℕ) → map (λ w. w) xs ≡ xs
    go [] = refl
    go (x ∷ xs) = ap (λ (ys : List ℕ). x ∷ ys) (go xs)

few_tokens : (lists : Lists) → (l : IsLeveled lists) → length lists.records < 2 ^ 32 → length l.tokens < 2 ^ 32
few_tokens lists l small = omega (arith, small, shown_length lists.records l.tokens l.shown)

pub around_one : (lists : Lists) (n : ℕ) → (l : IsLeveled lists) → length lists.records < 2 ^ 32 → n < length lists.records →
    is_tag (record_at n l.tokens) ≡ true → (record_at n l.tokens).depth ≡ 1 → IsAround lists parts.Level1 parts.Level2 n
unfolding levels
around_one lists n l small w t d = let few = few_tokens lists l small in record {
  tokens = l.tokens;
  shown = l.shown;
  few = few;
  steps = l.nested.steps;
  above = 0;
  entries = ap (λ x. x.level1) l.leveled;
  halves = λ w. refl;
  children = own_records parts.Level2 lists 2 l.tokens (ap (λ x. x.level2) l.leveled) (λ w. refl) few;
  within = omega (arith, w, shown_length lists.records l.tokens l.shown);
  tag = t;
  depth = d;
}

pub around_two : (lists : Lists) (n : ℕ) → (l : IsLeveled lists) → length lists.records < 2 ^ 32 → n < length lists.records →
    is_tag (record_at n l.tokens) ≡ true → (record_at n l.tokens).depth ≡ 2 → IsAround lists parts.Level2 parts.Level3 n
unfolding levels
around_two lists n l small w t d = let few = few_tokens lists l small in record {
  tokens = l.tokens;
  shown = l.shown;
  few = few;
  steps = l.nested.steps;
  above = 1;
  entries = ap (λ x. x.level2) l.leveled;
  halves = λ w. refl;
  children = own_records parts.Level3 lists 3 l.tokens (ap (λ x. x.level3) l.leveled) (λ w. refl) few;
  within = omega (arith, w, shown_length lists.records l.tokens l.shown);
  tag = t;
  depth = d;
}

pub around_three : (lists : Lists) (n : ℕ) → (l : IsLeveled lists) → length lists.records < 2 ^ 32 → n < length lists.records →
    is_tag (record_at n l.tokens) ≡ true → (record_at n l.tokens).depth ≡ 3 → IsAround lists parts.Level3 parts.Level4 n
unfolding levels
around_three lists n l small w t d = let few = few_tokens lists l small in record {
  tokens = l.tokens;
  shown = l.shown;
  few = few;
  steps = l.nested.steps;
  above = 2;
  entries = ap (λ x. x.level3) l.leveled;
  halves = λ w. refl;
  children = own_records parts.Level4 lists 4 l.tokens (ap (λ x. x.level4) l.leveled) (λ w. refl) few;
  within = omega (arith, w, shown_length lists.records l.tokens l.shown);
  tag = t;
  depth = d;
}

pub around_four : (lists : Lists) (n : ℕ) → (l : IsLeveled lists) → length lists.records < 2 ^ 32 → n < length lists.records →
    is_tag (record_at n l.tokens) ≡ true → (record_at n l.tokens).depth ≡ 4 → IsAround lists parts.Level4 parts.Level5 n
unfolding levels
around_four lists n l small w t d = let few = few_tokens lists l small in record {
  tokens = l.tokens;
  shown = l.shown;
  few = few;
  steps = l.nested.steps;
  above = 3;
  entries = ap (λ x. x.level4) l.leveled;
  halves = λ w. refl;
  children = last_records lists.level5 (tags_from 5 0 l.tokens) (ap (λ x. x.level5) l.leveled);
  within = omega (arith, w, shown_length lists.records l.tokens l.shown);
  tag = t;
  depth = d;
}

-- the root element's
pub root_told : (lists : Lists) (n bound : ℕ) → (l : IsLeveled lists) → length lists.records < 2 ^ 32 → bound ≡ length lists.records →
    n < length lists.records → is_tag (record_at n l.tokens) ≡ true → (record_at n l.tokens).depth ≡ 0 →
    (rs : List Record) → Shows lists.records rs → before_bound bound (drop 0 (entry_records parts.Level1 lists)) ≡ child_tags n rs
unfolding levels
root_told lists n bound l small b w t d rs shows =
    let few = few_tokens lists l small in
    ap (before_bound bound) (own_records parts.Level1 lists 1 l.tokens (ap (λ x. x.level1) l.leveled) (λ w. refl) few)
    ∙ all_told l.tokens n bound l.nested (omega (arith, w, shown_length lists.records l.tokens l.shown)) t d (omega (arith, b, shown_length lists.records l.tokens l.shown))
    ∙ ap (child_tags n) (shown_same lists.records l.tokens rs l.shown shows)
