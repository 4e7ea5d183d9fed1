-- The first child of a starting tag, among the tags one deeper, by where its records end.
use Rattle.std.proofs.Common.{◌≡◌, ℕ, zero, suc, ◌+◌, ◌<◌, ◌≤◌, Bool, true, false, cond, ◌&&◌, ◌==◌, nat_le, nat_lt, List, [], ◌∷◌, ◌++◌, length, drop, Option, Some, None, refl, ap, sym, ◌∙◌, arith, inl, inr, ◌⊎◌, leb}
use Rattle.std.specs.List.{position, position_or_len, filter}
use Rattle.std.proofs.lemmas.Bool.Decides.{nat_tests}
use Rattle.std.proofs.lemmas.Bool.{cases_lt, cases_eq, cases_Bool, lt-leb, le-leb, lt-ltb, le-ltb, and_from, and_parts, false≢true, eqb-true, leb-true}
use Rattle.std.proofs.lemmas.List.{length-append}
use Rattle.xml_model.specs.Records.{Record}
use Rattle.xml_model.specs.Scan.{level_of, end_from}
use Rattle.xml_model.specs.Levels.{is_tag, if_tag_of, tags_from, deepest_next, StepsDown, no_child}
use Rattle.xml_model.specs.LevelScan.{next_is, is_tag_of}
use Rattle.xml_model.proofs.LevelScan.{Below, From, tags_are_from}

pub tag_level : (r : Record) → is_tag r ≡ true → level_of r ≡ r.depth
tag_level r t = ap (λ b. cond b r.depth (cond (r.depth == 255) 0 (suc r.depth))) t

-- the record after one
pub after_tag : (r : Record) → is_tag r ≡ true → deepest_next r ≡ suc r.depth
after_tag r t = ap (λ b. cond b (suc r.depth) (level_of r)) t

pub after_other : (r : Record) → is_tag r ≡ false → deepest_next r ≡ level_of r
after_other r t = ap (λ b. cond b (suc r.depth) (level_of r)) t

pub end_beyond : (k n : ℕ) (rs : List Record) → n ≤ end_from k n rs
end_beyond k n [] = omega arith
end_beyond k n (r ∷ rs) = by (leb (level_of r) k) (end_beyond k (suc n) rs)
  where
    by : (b : Bool) → suc n ≤ end_from k (suc n) rs → n ≤ cond b n (end_from k (suc n) rs)
    by true h = omega arith
    by false h = omega arith

-- where records are at most at level k, the next tag is no deeper
next_shallow : (k l : ℕ) (rs : List Record) → StepsDown l rs → l ≤ k → next_is (suc k) rs ≡ false
next_shallow k l [] s h = refl
next_shallow k l (r ∷ rs) s h = elim (cases_Bool (is_tag r)) [
  | inl t ↦
      let low : r.depth ≤ k = omega (arith, s.0, tag_level r t) in
      let e : (r.depth == suc k) ≡ false = grind (arith, nat_tests) in
      ap (λ b. cond b (r.depth == suc k) (next_is (suc k) rs)) t ∙ e
  | inr o ↦ ap (λ b. cond b (r.depth == suc k) (next_is (suc k) rs)) o ∙ next_shallow k (deepest_next r) rs s.1 (omega (arith, after_other r o, s.0))
]

-- the first tag one deeper, where the next tag is one
pub record FirstTag (k n : ℕ) (rs : List Record) : Type 0 where
  pub first : ℕ
  pub others : List ℕ
  pub tags : tags_from (suc k) n rs ≡ first ∷ others
  pub low : n ≤ first
  pub inside : first < end_from k n rs

pub first_tag : (k l n : ℕ) (rs : List Record) → StepsDown l rs → l ≤ suc k → next_is (suc k) rs ≡ true → FirstTag k n rs
first_tag k l n [] s h t = absurd (false≢true t)
first_tag k l n (r ∷ rs) s h t = elim (cases_lt k (level_of r)) [
  | inl deep ↦ elim (cases_Bool (is_tag r)) [
    | inl tag ↦
        let d : r.depth ≡ suc k = omega (arith, s.0, deep, tag_level r tag) in
        let e : (is_tag r && r.depth == suc k) ≡ true = and_from _ _ tag (let z : (r.depth == suc k) ≡ true = grind (arith, nat_tests) in z) in
        record {
          first = n;
          others = tags_from (suc k) (suc n) rs;
          tags = ap (λ b. cond b (n ∷ []) [] ++ tags_from (suc k) (suc n) rs) e;
          low = omega arith;
          inside = let j : leb (level_of r) k ≡ false = lt-leb (level_of r) k deep in rw j (let z : n < end_from k (suc n) rs = omega (arith, end_beyond k (suc n) rs) in z);
        }
    | inr o ↦
        let next : next_is (suc k) rs ≡ true = sym (ap (λ b. cond b (r.depth == suc k) (next_is (suc k) rs)) o) ∙ t in
        let f = first_tag k (deepest_next r) (suc n) rs s.1 (omega (arith, after_other r o, s.0, h)) next in
        let e : (is_tag r && r.depth == suc k) ≡ false = ap (λ b. b && r.depth == suc k) o in
        record {
          first = f.first;
          others = f.others;
          tags = ap (λ b. cond b (n ∷ []) [] ++ tags_from (suc k) (suc n) rs) e ∙ f.tags;
          low = omega (arith, f.low);
          inside = let j : leb (level_of r) k ≡ false = lt-leb (level_of r) k deep in rw j f.inside;
        }
  ]
  | inr shallow ↦ elim (cases_Bool (is_tag r)) [
    | inl tag ↦
        let d : r.depth ≤ k = omega (arith, shallow, tag_level r tag) in
        let e : (r.depth == suc k) ≡ false = grind (arith, nat_tests) in
        absurd (false≢true (sym (ap (λ b. cond b (r.depth == suc k) (next_is (suc k) rs)) tag ∙ e) ∙ t))
    | inr o ↦
        absurd (false≢true (sym (ap (λ b. cond b (r.depth == suc k) (next_is (suc k) rs)) o ∙ next_shallow k (deepest_next r) rs s.1 (omega (arith, after_other r o, shallow))) ∙ t))
  ]
]

from_less : (m n : ℕ) (xs : List ℕ) → m ≤ n → From n xs → From m xs
from_less m n [] h b = tt
from_less m n (x ∷ xs) h b = (omega (arith, h, b.0), from_less m n xs h b.1)

-- where the next tag is not one deeper, all tags one deeper are past the end
pub no_first : (k l n : ℕ) (rs : List Record) → StepsDown l rs → l ≤ suc k → next_is (suc k) rs ≡ false → From (end_from k n rs) (tags_from (suc k) n rs)
no_first k l n [] s h t = tt
no_first k l n (r ∷ rs) s h t = elim (cases_lt k (level_of r)) [
  | inl deep ↦ elim (cases_Bool (is_tag r)) [
    | inl tag ↦
        let d : r.depth ≡ suc k = omega (arith, s.0, deep, tag_level r tag) in
        let e : (r.depth == suc k) ≡ true = grind (arith, nat_tests) in
        absurd (false≢true (sym t ∙ ap (λ b. cond b (r.depth == suc k) (next_is (suc k) rs)) tag ∙ e))
    | inr o ↦
        let next : next_is (suc k) rs ≡ false = sym (ap (λ b. cond b (r.depth == suc k) (next_is (suc k) rs)) o) ∙ t in
        let e : (is_tag r && r.depth == suc k) ≡ false = ap (λ b. b && r.depth == suc k) o in
        let j : leb (level_of r) k ≡ false = lt-leb (level_of r) k deep in
        let ih : From (end_from k (suc n) rs) (tags_from (suc k) (suc n) rs) = no_first k (deepest_next r) (suc n) rs s.1 (omega (arith, after_other r o, s.0, h)) next in
        rw (j, e) ih
  ]
  | inr shallow ↦
      let j : leb (level_of r) k ≡ true = le-leb (level_of r) k shallow in
      rw j (tags_are_from (suc k) n (r ∷ rs))
]

-- ---- positions

pub none_pass : (p : ℕ → Bool) (n : ℕ) (xs ys : List ℕ) → Below n xs → ((j : ℕ) → j < n → p j ≡ false) → position_or_len p (xs ++ ys) ≡ length xs + position_or_len p ys
none_pass p n [] ys b f = omega arith
none_pass p n (x ∷ xs) ys b f = let ih = none_pass p n xs ys b.1 f in rw (f x b.0) (omega (arith, ih))

pub none_from_end : (p : ℕ → Bool) (n : ℕ) (xs : List ℕ) → From n xs → ((j : ℕ) → n ≤ j → p j ≡ false) → position_or_len p xs ≡ length xs
none_from_end p n [] b f = refl
none_from_end p n (x ∷ xs) b f = let ih = none_from_end p n xs b.1 f in rw (f x b.0) (omega (arith, ih))

abbrev inside : ℕ → ℕ → ℕ → Bool
inside n past j = nat_lt n j && nat_lt j past

inside_before : (n past j : ℕ) → j < suc n → inside n past j ≡ false
inside_before n past j h = ap (λ b. b && nat_lt j past) (le-ltb n j (omega (arith, h)))

inside_after : (n past j : ℕ) → past ≤ j → inside n past j ≡ false
inside_after n past j h = by (nat_lt n j) (le-ltb j past h)
  where
    by : (b : Bool) → nat_lt j past ≡ false → (b && nat_lt j past) ≡ false
    by true e = e
    by false e = refl

inside_here : (n past j : ℕ) → n < j → j < past → inside n past j ≡ true
inside_here n past j h k = and_from _ _ (lt-ltb n j h) (lt-ltb j past k)

-- where a tag of depth k is at n, and these records after it, the first of the tags one deeper that is among its records
pub child_position_by_end : (k n : ℕ) (before : List ℕ) (rest : List Record) → Below (suc n) before → StepsDown (suc k) rest →
    position (λ j. nat_lt n j && nat_lt j (end_from k (suc n) rest)) (before ++ tags_from (suc k) (suc n) rest) ≡ cond (next_is (suc k) rest) (Some (length before)) None
child_position_by_end k n before rest b s = by (next_is (suc k) rest) refl
  where
    by : (c : Bool) → next_is (suc k) rest ≡ c →
        position (λ j. nat_lt n j && nat_lt j (end_from k (suc n) rest)) (before ++ tags_from (suc k) (suc n) rest) ≡ cond c (Some (length before)) None
    by true t =
        let P : ℕ → Bool = λ j. nat_lt n j && nat_lt j (end_from k (suc n) rest) in
        let f = first_tag k (suc k) (suc n) rest s (omega arith) t in
        let hit : P f.first ≡ true = inside_here n (end_from k (suc n) rest) f.first (omega (arith, f.low)) f.inside in
        let zero_at : position_or_len P (f.first ∷ f.others) ≡ 0 = rw hit refl in
        let at : position_or_len P (before ++ (f.first ∷ f.others)) ≡ length before =
        none_pass P (suc n) before (f.first ∷ f.others) b (inside_before n (end_from k (suc n) rest)) ∙ (omega (arith, zero_at)) in
        let long : length before < length (before ++ (f.first ∷ f.others)) = rw length-append (omega arith) in
        rw f.tags (rw (at, lt-ltb _ _ long) refl)
    by false t =
        let P : ℕ → Bool = λ j. nat_lt n j && nat_lt j (end_from k (suc n) rest) in
        let more = tags_from (suc k) (suc n) rest in
        let none : position_or_len P more ≡ length more =
        none_from_end P (end_from k (suc n) rest) more (no_first k (suc k) (suc n) rest s (omega arith) t) (inside_after n (end_from k (suc n) rest)) in
        let at : position_or_len P (before ++ more) ≡ length (before ++ more) =
        none_pass P (suc n) before more b (inside_before n (end_from k (suc n) rest)) ∙ (rw length-append (omega (arith, none))) in
        rw (at, le-ltb (length (before ++ more)) (length (before ++ more)) (omega arith)) refl
