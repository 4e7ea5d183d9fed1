-- How the first line is cut off the start of a script.
use Rattle.std.proofs.Common.{◌≡◌, ℕ, zero, suc, ◌+◌, ◌-◌, ◌<◌, ◌≤◌, true, false, ◌==◌, List, [], ◌∷◌, ◌++◌, length, get_or, take, drop, inl, inr, refl, sym}
use Rattle.std.proofs.Common.{ap, ap₂, ◌∙◌, subst, arith}
use Rattle.std.proofs.lemmas.Bool.{cases_Bool, cases_lt, eqb-true, eq-eqb, ne_eqb, false≢true, false_from_ne_true}
use Rattle.std.proofs.lemmas.List.{take-append-drop, drop_more, drop-drop, drop_all, length-drop, take_all, take_rest, take-take, length-take-le, get_or-take}
use Rattle.std.proofs.lemmas.List.{get_or-drop}
use Rattle.std.specs.List.{AllByRecursion, slice_range}
use Rattle.std.specs.Prelude.{Some, None}
use Rattle.memchr.specs.Find.{IsFirstByte, is_byte}
use Rattle.vtd_lines.specs.Lines.{lines, without_return, HasNoFeedIn, EndsLine, IsUnended, IsBeforeReturn, IsLine}

abbrev pub HasNoFeed : List ℕ → Type 0
HasNoFeed cs = AllByRecursion (λ c. (c == 10) ≡ false) cs

pub no_feed : (hay : List ℕ) (n : ℕ) → ((k : ℕ) → k < n → (get_or hay k 0 == 10) ≡ true → ⊥) → HasNoFeed (take n hay)
no_feed hay zero h = tt
no_feed [] (suc n) h = tt
no_feed (c ∷ hay) (suc n) h = (false_from_ne_true _ (h 0 (omega arith)), no_feed hay n (λ k l. h (suc k) (omega arith)))

other_way : (d : ℕ) → (d == 10) ≡ false → (10 == d) ≡ false
other_way d f = ne_eqb 10 d (λ e. false≢true (sym f ∙ ap (λ x. x == 10) (sym e)))

pub lines-ended : (prefix rest : List ℕ) → HasNoFeed prefix → lines (prefix ++ 10 ∷ rest) ≡ without_return prefix ∷ lines rest
unfolding lines
lines-ended [] rest a = refl
lines-ended (c ∷ []) rest a = elim (cases_Bool (c == 13)) [ inl t ↦ rw t refl | inr f ↦ rw (f, a.0) refl ]
lines-ended (c ∷ d ∷ t) rest a =
    let s = other_way d a.1.0 in
    let e = lines-ended (d ∷ t) rest a.1 in
    elim (cases_Bool (c == 13)) [ inl y ↦ rw (e, s, y, a.0) refl | inr n ↦ rw (e, s, n, a.0) refl ]

pub lines-open : (c : ℕ) (t : List ℕ) → HasNoFeed (c ∷ t) → lines (c ∷ t) ≡ (c ∷ t) ∷ []
unfolding lines
lines-open c [] a = elim (cases_Bool (c == 13)) [ inl y ↦ rw (y, a.0) refl | inr n ↦ rw (n, a.0) refl ]
lines-open c (d ∷ t) a =
    let s = other_way d a.1.0 in
    let e = lines-open d t a.1 in
    elim (cases_Bool (c == 13)) [ inl y ↦ rw (e, s, y, a.0) refl | inr n ↦ rw (e, s, n, a.0) refl ]

-- the bytes without the return, as a prefix of them
pub ends_in_return : (prefix : List ℕ) (k : ℕ) → length prefix ≡ suc k → (get_or prefix k 0 == 13) ≡ true → without_return prefix ≡ take k prefix
ends_in_return [] k l e = absurd (omega arith)
ends_in_return (c ∷ []) zero l e = rw e refl
ends_in_return (c ∷ []) (suc k) l e = absurd (omega arith)
ends_in_return (c ∷ d ∷ t) zero l e = absurd (omega arith)
ends_in_return (c ∷ d ∷ t) (suc k) l e = ap (λ x. c ∷ x) (ends_in_return (d ∷ t) k (omega arith) e)

pub ends_in_other : (prefix : List ℕ) (k : ℕ) → length prefix ≡ suc k → (get_or prefix k 0 == 13) ≡ false → without_return prefix ≡ prefix
ends_in_other [] k l e = refl
ends_in_other (c ∷ []) zero l e = rw e refl
ends_in_other (c ∷ []) (suc k) l e = absurd (omega arith)
ends_in_other (c ∷ d ∷ t) zero l e = absurd (omega arith)
ends_in_other (c ∷ d ∷ t) (suc k) l e = ap (λ x. c ∷ x) (ends_in_other (d ∷ t) k (omega arith) e)

-- no line feed from a place on, by what is there
none_in : (script : List ℕ) (from n end : ℕ) → end ≤ from + n → ((k : ℕ) → k < n → (get_or (drop from script) k 0 == 10) ≡ true → ⊥)
    → HasNoFeedIn script from end
none_in script from n end l h k low high ten =
    let there : get_or (drop from script) (k - from) 0 ≡ 10 = get_or-drop from script (k - from) 0 ∙ ap (λ i. get_or script i 0) (omega arith) ∙ ten in
    h (k - from) (omega arith) (eq-eqb _ 10 there)

-- the first line feed ends the first line
pub ends_line : (script : List ℕ) (from n : ℕ) → n < length (drop from script) → ((k : ℕ) → k < n → (get_or (drop from script) k 0 == 10) ≡ true → ⊥)
    → (get_or (drop from script) n 0 == 10) ≡ true → EndsLine script from (from + n)
ends_line script from n h before there =
    let hay = drop from script in
    let ten : get_or hay n 0 ≡ 10 = eqb-true (get_or hay n 0) 10 there in
    let split : hay ≡ take n hay ++ 10 ∷ drop (n + 1) hay = sym (take-append-drop n hay) ∙ ap (λ (xs : List ℕ). take n hay ++ xs) (drop_more hay n 0 h
    ∙ ap (λ x. x ∷ drop (n + 1) hay) ten) in
    let none : HasNoFeed (take n hay) = no_feed hay n before in
    let cut : lines hay ≡ without_return (take n hay) ∷ lines (drop (n + 1) hay) = ap lines split ∙ lines-ended (take n hay) (drop (n + 1) hay) none in
    let size : from + n < length script = omega (arith, length-drop from script) in
    let same : from + n - from ≡ n = omega arith in
    let rest : drop (n + 1) hay ≡ drop (from + n + 1) script = drop-drop (n + 1) from script ∙ ap (λ k. drop k script) (omega arith) in
    record {
      low = omega arith;
      high = size;
      there = sym (get_or-drop from script n 0) ∙ ten;
      first = none_in script from n (from + n) (omega arith) before;
      whole = cut ∙ ap₂ (λ (m : ℕ) (r : List ℕ). without_return (take m hay) ∷ lines r) (sym same) rest;
    }

pub is_unended : (script : List ℕ) (from : ℕ) → ((k : ℕ) → k < length (drop from script) → (get_or (drop from script) k 0 == 10) ≡ true → ⊥)
    → IsUnended script from
is_unended script from none = record {
  none = none_in script from (length (drop from script)) (length script) (omega (arith, length-drop from script)) none;
  whole = λ h. by (drop from script) (omega (arith, length-drop from script)) none;
}
  where
    by : (hay : List ℕ) → 0 < length hay → ((k : ℕ) → k < length hay → (get_or hay k 0 == 10) ≡ true → ⊥) → lines hay ≡ hay ∷ []
    by [] l n = absurd (omega arith)
    by (c ∷ t) l n = lines-open c t (subst HasNoFeed (take_all (length (c ∷ t)) (c ∷ t) (omega arith)) (no_feed (c ∷ t) (length (c ∷ t)) n))

-- what a search for a line feed from a place on gives
pub found_feed : (script : List ℕ) (from n : ℕ) → IsFirstByte (is_byte 10) (take (length script - from) (drop from script)) (Some n)
    → EndsLine script from (from + n)
found_feed script from n h =
    let P : List ℕ → Type 0 = λ hay. IsFirstByte (is_byte 10) hay (Some n) in
    let g : P (drop from script) = subst P (take_rest script from) h in
    ends_line script from n g.0.high (λ k l. g.0.before k (omega arith) l) g.1

pub no_feed_found : (script : List ℕ) (from : ℕ) → IsFirstByte (is_byte 10) (take (length script - from) (drop from script)) None → IsUnended script from
no_feed_found script from h =
    let P : List ℕ → Type 0 = λ hay. IsFirstByte (is_byte 10) hay None in
    let g : P (drop from script) = subst P (take_rest script from) h in
    is_unended script from (λ k l. g k (omega arith) l)

-- a carriage return directly before the line feed
pub before_feed : (script : List ℕ) (from end : ℕ) → EndsLine script from end → from < end → get_or script (end - 1) 0 ≡ 13
    → IsBeforeReturn script from end (end - 1)
before_feed script from end e h r =
    let k = end - 1 - from in
    let size : length (slice_range script from end) ≡ suc k = length-take-le (end - from) (drop from script) (let l =
    e.high in omega (arith, length-drop from script)) ∙ omega arith in
    let at : get_or (slice_range script from end) k 0 ≡ 13 = get_or-take (end - from) (drop from script) k 0 (omega arith) ∙ get_or-drop from script k 0
    ∙ ap (λ i. get_or script i 0) (omega arith) ∙ r in
    record {
      low = omega arith;
      high = omega arith;
      same = ends_in_return (slice_range script from end) k size (eq-eqb _ 13 at) ∙ take-take k (end - from) (drop from script) (omega arith);
    }

-- no carriage return before it
pub no_return : (script : List ℕ) (from end : ℕ) → EndsLine script from end → (from < end → get_or script (end - 1) 0 ≡ 13 → ⊥)
    → IsBeforeReturn script from end end
no_return script from end e n = record { low = e.low; high = omega arith; same = elim (cases_lt from end) [ inl h ↦ other h | inr h ↦ none h ] }
  where
    other : from < end → without_return (slice_range script from end) ≡ slice_range script from end
    other h =
        let k = end - 1 - from in
        let size : length (slice_range script from end) ≡ suc k = length-take-le (end - from) (drop from script) (let l =
        e.high in omega (arith, length-drop from script)) ∙ omega arith in
        let at : get_or (slice_range script from end) k 0 ≡ get_or script (end - 1) 0 = get_or-take (end - from) (drop from script) k 0 (omega arith)
        ∙ get_or-drop from script k 0 ∙ ap (λ i. get_or script i 0) (omega arith) in
        ends_in_other (slice_range script from end) k size (ne_eqb _ 13 (λ q. n h (sym at ∙ q)))

    none : end ≤ from → without_return (slice_range script from end) ≡ slice_range script from end
    none h = let z : end - from ≡ 0 = omega arith in rw z refl

pub unended_line : (script : List ℕ) (at : ℕ) → at < length script → IsUnended script at
    → IsLine script at (record { start = at; end = length script; next = length script })
unfolding lines
unended_line script at h u =
    let whole : slice_range script at (length script) ≡ drop at script = take_rest script at in
    let rest : drop (length script) script ≡ [] = drop_all (length script) script (omega arith) in
    record {
      begins = refl;
      first = u.whole h ∙ ap₂ (λ (a b : List ℕ). a ∷ lines b) (sym whole) (sym rest);
      in_order = omega arith;
      within = omega arith;
      goes_on = h;
      ends = omega arith;
      closed = inr refl;
      one_line = λ k low high. u.none k low (omega arith);
    }

pub ended_line : (script : List ℕ) (at end before : ℕ) → EndsLine script at end → IsBeforeReturn script at end before
    → IsLine script at (record { start = at; end = before; next = end + 1 })
ended_line script at end before e b =
    record {
      begins = refl;
      first = e.whole ∙ ap (λ (l : List ℕ). l ∷ lines (drop (end + 1) script)) b.same;
      in_order = b.low;
      within = (let l = e.high in let m = b.high in omega arith);
      goes_on = (let l = e.low in omega arith);
      ends = (let l = e.high in omega arith);
      closed = inl (ap (λ i. get_or script i 0) (omega arith) ∙ e.there);
      one_line = λ k low high. e.first k low (omega arith);
    }
