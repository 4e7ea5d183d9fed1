-- A level of records is told by one forward scan.
use Rattle.std.proofs.Common.{◌≡◌, ℕ, suc, ◌+◌, ◌<◌, ◌≤◌, Bool, true, false, cond, ◌&&◌, ◌==◌, nat_le, List, [], ◌∷◌, ◌++◌, length, drop, map, Option, Some, None, refl, ap, sym, ◌∙◌, arith, append_assoc, append-nil, option_and_then, nat_lt, inl, inr, ◌⊎◌}
use Rattle.std.specs.List.{position, position_or_len}
use Rattle.std.specs.Option.{unwrap_or}
use Rattle.std.proofs.lemmas.Bool.Decides.{nat_tests}
use Rattle.std.proofs.lemmas.Bool.{cases_eq, cases_lt}
use Rattle.std.proofs.lemmas.List.{length-append, drop-drop}
use Rattle.xml_model.specs.Records.{Record}
use Rattle.xml_model.specs.Levels.{level_word, no_child, is_tag, if_tag_of, tags_from, child_from, child_position, record_level}
use Rattle.xml_model.specs.LevelScan.{next_is, child_of, is_tag_of, count_in, level_from}

-- all are below a number, or from it on
abbrev pub Below : ℕ → List ℕ → Type 0
Below m [] = Unit {0}
Below m (x ∷ xs) = (x < m) × Below m xs

abbrev pub From : ℕ → List ℕ → Type 0
From m [] = Unit {0}
From m (x ∷ xs) = (m ≤ x) × From m xs

pub below_more : (m : ℕ) (xs : List ℕ) → Below m xs → Below (suc m) xs
below_more m [] b = tt
below_more m (x ∷ xs) b = (omega (arith, b.0), below_more m xs b.1)

pub below_append : (m : ℕ) (xs ys : List ℕ) → Below m xs → Below m ys → Below m (xs ++ ys)
below_append m [] ys a b = b
below_append m (x ∷ xs) ys a b = (a.0, below_append m xs ys a.1 b)

from_less : (m : ℕ) (xs : List ℕ) → From (suc m) xs → From m xs
from_less m [] b = tt
from_less m (x ∷ xs) b = (omega (arith, b.0), from_less m xs b.1)

from_append : (m : ℕ) (xs ys : List ℕ) → From m xs → From m ys → From m (xs ++ ys)
from_append m [] ys a b = b
from_append m (x ∷ xs) ys a b = (a.0, from_append m xs ys a.1 b)

pub tags_are_from : (k n : ℕ) (rs : List Record) → From n (tags_from k n rs)
tags_are_from k n [] = tt
tags_are_from k n (r ∷ rs) = from_append n (if_tag_of k n r) (tags_from k (suc n) rs) (one (is_tag r && r.depth == k)) (from_less n (tags_from k (suc n) rs) (tags_are_from k (suc n) rs))
  where
    one : (b : Bool) → From n (cond b (n ∷ []) [])
    one true = (omega arith, tt)
    one false = tt

pub not_here : (x m : ℕ) → (x ≡ m → ⊥) → (x == m) ≡ false
not_here x m e = grind (arith, nat_tests)

-- where a number is found among others
none_from : (m : ℕ) (xs : List ℕ) → From (suc m) xs → position_or_len (λ x. x == m) xs ≡ length xs
none_from m [] f = refl
none_from m (x ∷ xs) f = let ih = none_from m xs f.1 in rw (not_here x m (omega (arith, f.0))) (omega arith)

none_after : (m : ℕ) (xs ys : List ℕ) → Below m xs → From (suc m) ys → position_or_len (λ x. x == m) (xs ++ ys) ≡ length (xs ++ ys)
none_after m [] ys b f = none_from m ys f
none_after m (x ∷ xs) ys b f = let ih = none_after m xs ys b.1 f in rw (not_here x m (omega (arith, b.0))) (omega arith)

first_after : (m : ℕ) (xs ys : List ℕ) → Below m xs → position_or_len (λ x. x == m) (xs ++ m ∷ ys) ≡ length xs
first_after m [] ys b = let t : (m == m) ≡ true = grind (arith, nat_tests) in rw t refl
first_after m (x ∷ xs) ys b = let ih = first_after m xs ys b.1 in rw (not_here x m (omega (arith, b.0))) (omega arith)

position_is : (p : ℕ → Bool) (xs : List ℕ) (i : ℕ) → position_or_len p xs ≡ i → i < length xs → position p xs ≡ Some i
position_is p xs i e l = let t : nat_lt i (length xs) ≡ true = grind (arith, nat_tests) in rw (e, t) refl

position_none : (p : ℕ → Bool) (xs : List ℕ) → position_or_len p xs ≡ length xs → position p xs ≡ None
position_none p xs e = let t : nat_lt (length xs) (length xs) ≡ false = grind (arith, nat_tests) in rw (e, t) refl

found_after : (m : ℕ) (xs ys : List ℕ) → Below m xs → position (λ x. x == m) (xs ++ m ∷ ys) ≡ Some (length xs)
found_after m xs ys b = position_is (λ x. x == m) (xs ++ m ∷ ys) (length xs) (first_after m xs ys b) (rw length-append (omega arith))

not_after : (m : ℕ) (xs ys : List ℕ) → Below m xs → From (suc m) ys → position (λ x. x == m) (xs ++ ys) ≡ None
not_after m xs ys b f = position_none (λ x. x == m) (xs ++ ys) (none_after m xs ys b f)

pub true_or : (b : Bool) → (b ≡ true) ⊎ (b ≡ false)
true_or true = inl refl
true_or false = inr refl

-- the search for a first child finds it after the tags of its depth before
abbrev found : ℕ → ℕ → List ℕ → List Record → Option ℕ
found k m before rs = option_and_then (λ j. position (λ x. x == j) (before ++ tags_from (suc k) m rs)) (child_from k m rs)

pub child_search : (k m : ℕ) (before : List ℕ) (rs : List Record) → Below m before → found k m before rs ≡ cond (next_is (suc k) rs) (Some (length before)) None
child_search k m before [] b = refl
child_search k m before (r ∷ rs) b =
    at_record (child_search k (suc m) before rs (below_more m before b)) (true_or (r.token == 0)) (cases_eq r.depth (suc k)) (cases_lt r.depth (suc k))
  where
    at_record : found k (suc m) before rs ≡ cond (next_is (suc k) rs) (Some (length before)) None → ((r.token == 0) ≡ true) ⊎ ((r.token == 0) ≡ false)
        → (r.depth ≡ suc k) ⊎ (r.depth ≡ suc k → ⊥) → (r.depth < suc k) ⊎ (suc k ≤ r.depth) → found k m before (r ∷ rs) ≡ cond (next_is (suc k) (r ∷ rs)) (Some (length before)) None
    at_record ih (inr other) d l = rw other ih
    at_record ih (inl tag) (inl same) l =
        let e : (r.depth == suc k) ≡ true = grind (arith, nat_tests) in
        let g : nat_le r.depth k ≡ false = grind (arith, nat_tests) in
        rw (tag, e, g) (found_after m before (tags_from (suc k) (suc m) rs) b)
    at_record ih (inl tag) (inr other) (inl low) =
        let e : (r.depth == suc k) ≡ false = grind (arith, nat_tests) in
        let g : nat_le r.depth k ≡ true = grind (arith, nat_tests) in
        rw (tag, e, g) refl
    at_record ih (inl tag) (inr other) (inr high) =
        let e : (r.depth == suc k) ≡ false = grind (arith, nat_tests) in
        let g : nat_le r.depth k ≡ false = grind (arith, nat_tests) in
        rw (tag, e, g) (not_after m before (tags_from (suc k) (suc m) rs) b (tags_are_from (suc k) (suc m) rs))

pub or_none : (b : Bool) (c : ℕ) → unwrap_or (cond b (Some c) None) no_child ≡ cond b c no_child
or_none true c = refl
or_none false c = refl

-- the tags of the level below, before and after a record
pub record Split (k n : ℕ) (whole : List Record) (before : List ℕ) (rs : List Record) : Type 0 where
  pub rest : drop n whole ≡ rs
  pub low : Below n before
  pub tags : tags_from (suc k) 0 whole ≡ before ++ tags_from (suc k) n rs

pub split_on : (k n : ℕ) (whole : List Record) (before : List ℕ) (r : Record) (rs : List Record) → Split k n whole before (r ∷ rs) → Split k (suc n) whole (before ++ if_tag_of (suc k) n r) rs
split_on k n whole before r rs s = record {
  rest = let e : n + 1 ≡ suc n = omega arith in sym (ap (λ (j : ℕ). drop j whole) e) ∙ sym (drop-drop 1 n whole) ∙ ap (λ (xs : List Record). drop 1 xs) s.rest;
  low = below_append (suc n) before (if_tag_of (suc k) n r) (below_more n before s.low) (one (is_tag r && r.depth == suc k));
  tags = s.tags ∙ sym (append_assoc before (if_tag_of (suc k) n r) (tags_from (suc k) (suc n) rs));
}
  where
    one : (b : Bool) → Below (suc n) (cond b (n ∷ []) [])
    one true = (omega arith, tt)
    one false = tt

pub counted : (n c : ℕ) (before : List ℕ) (b : Bool) → c ≡ length before → cond b (suc c) c ≡ length (before ++ cond b (n ∷ []) [])
counted n c before true e = rw length-append (omega arith)
counted n c before false e = rw append-nil e

-- the position of the first child of a tag
pub child_is : (k n c : ℕ) (whole : List Record) (before : List ℕ) (r : Record) (rs : List Record) → Split k n whole before (r ∷ rs) → is_tag_of k r ≡ true → c ≡ length before
    → child_position k whole n ≡ child_of k c rs
child_is k n c whole before r rs s t e =
    let o : (is_tag r && r.depth == suc k) ≡ false = other_depth (r.token == 0) t in
    let next = split_on k n whole before r rs s in
    let tags : tags_from (suc k) 0 whole ≡ before ++ tags_from (suc k) (suc n) rs = s.tags ∙ rw o refl in
    let search = child_search k (suc n) before rs (below_more n before s.low) in
    rw (tags, next.rest, e) (ap (λ (o : Option ℕ). unwrap_or o no_child) search ∙ or_none (next_is (suc k) rs) (length before))
  where
    other_depth : (b : Bool) → (b && r.depth == k) ≡ true → (b && r.depth == suc k) ≡ false
    other_depth true t = grind (arith, nat_tests, t)
    other_depth false t = refl

abbrev words_from : ℕ → List Record → List ℕ → List ℕ
words_from k whole ns = map (λ n. level_word (n, child_position k whole n)) ns

scanned : (k n c : ℕ) (whole : List Record) (before : List ℕ) (rs : List Record) → Split k n whole before rs → c ≡ length before
    → words_from k whole (tags_from k n rs) ≡ level_from k c n rs
scanned k n c whole before [] s e = refl
scanned k n c whole before (r ∷ rs) s e =
    at_record (scanned k (suc n) (count_in (suc k) r c) whole (before ++ if_tag_of (suc k) n r) rs (split_on k n whole before r rs s) (counted n c before (is_tag r && r.depth == suc k) e)) (true_or (r.token == 0 && r.depth == k))
  where
    at_record : words_from k whole (tags_from k (suc n) rs) ≡ level_from k (count_in (suc k) r c) (suc n) rs
        → ((r.token == 0 && r.depth == k) ≡ true) ⊎ ((r.token == 0 && r.depth == k) ≡ false) → words_from k whole (tags_from k n (r ∷ rs)) ≡ level_from k c n (r ∷ rs)
    at_record ih (inl tag) =
        let child = child_is k n c whole before r rs s tag e in
        let head : level_word (n, child_position k whole n) ≡ level_word (n, child_of k c rs) = ap (λ (j : ℕ). level_word (n, j)) child in
        rw tag (ap (λ (w : ℕ). w ∷ words_from k whole (tags_from k (suc n) rs)) head ∙ ap (λ (ws : List ℕ). level_word (n, child_of k c rs) ∷ ws) ih)
    at_record ih (inr other) = rw other ih

map_map : (k : ℕ) (whole : List Record) (ns : List ℕ) → map level_word (map (λ r. (r, child_position k whole r)) ns) ≡ words_from k whole ns
map_map k whole [] = refl
map_map k whole (n ∷ ns) = ap (λ (ws : List ℕ). level_word (n, child_position k whole n) ∷ ws) (map_map k whole ns)

pub by_scan : (k : ℕ) (rs : List Record) → map level_word (record_level k rs) ≡ level_from k 0 0 rs
unfolding record_level
by_scan k rs = map_map k rs (tags_from k 0 rs) ∙ scanned k 0 0 rs [] rs (record { rest = refl; low = tt; tags = refl }) refl
