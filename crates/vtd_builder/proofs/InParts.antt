-- Words offered to a sink in parts, one part after another.
use Rattle.std.proofs.Common.{◌≡◌, ℕ, suc, ◌+◌, Bool, true, inl, inr, List, [], ◌∷◌, ◌++◌, map, length, Result, Ok, Err, refl, sym, ap, ap₂, ◌∙◌, arith}
use Rattle.std.specs.List.{AllByRecursion}
use Rattle.std.proofs.lemmas.List.{length-append, length-map, map-append}
use Rattle.std.proofs.lemmas.Bool.{cases_Bool}
use Rattle.xml_model.specs.Records.{Record, word}
use Rattle.vtd_words.specs.Packed.{fits}
use Rattle.vtd_words.specs.Table.{parts_of_record}
use Rattle.vtd_builder.specs.Offered.{Outcome, outcome, offer, CanOffer}

abbrev pub Test : Type 0
Test = List ℕ → ℕ → Bool

pub same_ok : (t u : List ℕ) (n c : ℕ) → outcome t (Ok n) ≡ outcome u (Ok c) → (u ≡ t) × (c ≡ n)
same_ok t u n c e = let a : ◌≡◌ {A = Result ℕ ℕ} (Ok n) (Ok c) = ap (λ (o : Outcome). o.answer) e in (ap (λ (o : Outcome). o.taken) (sym e), cc)

pub not_ok_err : (t u : List ℕ) (n c : ℕ) → outcome t (Ok n) ≡ outcome u (Err c) → ⊥
not_ok_err t u n c e = let a : ◌≡◌ {A = Result ℕ ℕ} (Ok n) (Err c) = ap (λ (o : Outcome). o.answer) e in cc

pub offer_ok : (r : Test) (t : List ℕ) (c : ℕ) (xs ys t1 : List ℕ) (n : ℕ) → outcome t1 (Ok n) ≡ offer r t c xs → offer r t c (xs ++ ys) ≡ offer r t1 n ys
offer_ok r t c [] ys t1 n e =
    let s = same_ok t1 t n c e in
    ap₂ (λ (l : List ℕ) (k : ℕ). offer r l k ys) s.0 s.1
offer_ok r t c (w ∷ xs) ys t1 n e = elim (cases_Bool (r t w)) [
  | inl y ↦ absurd (not_ok_err t1 t n c (rw y at e))
  | inr f ↦ rw f (offer_ok r (t ++ w ∷ []) (suc c) xs ys t1 n (rw f at e))
]

pub offer_err : (r : Test) (t : List ℕ) (c : ℕ) (xs ys t1 : List ℕ) (k : ℕ) → outcome t1 (Err k) ≡ offer r t c xs → outcome t1 (Err k) ≡ offer r t c (xs ++ ys)
offer_err r t c [] ys t1 k e = absurd (not_ok_err t t1 c k (sym e))
offer_err r t c (w ∷ xs) ys t1 k e = elim (cases_Bool (r t w)) [
  | inl y ↦ rw y (rw y at e)
  | inr f ↦ rw f (offer_err r (t ++ w ∷ []) (suc c) xs ys t1 k (rw f at e))
]

pub offer_count : (r : Test) (t : List ℕ) (c : ℕ) (xs t1 : List ℕ) (n : ℕ) → outcome t1 (Ok n) ≡ offer r t c xs → n ≡ c + length xs
offer_count r t c [] t1 n e = let s = same_ok t1 t n c e in omega (arith, s.1)
offer_count r t c (w ∷ xs) t1 n e = elim (cases_Bool (r t w)) [
  | inl y ↦ absurd (not_ok_err t1 t n c (rw y at e))
  | inr f ↦ let so = offer_count r (t ++ w ∷ []) (suc c) xs t1 n (rw f at e) in omega (arith, so)
]

-- ---- rooms of parts

abbrev Fits : Record → Type 0
Fits x = fits (parts_of_record x) ≡ true

each_first : (xs ys : List Record) → AllByRecursion Fits (xs ++ ys) → AllByRecursion Fits xs
each_first [] ys h = tt
each_first (x ∷ xs) ys h = (h.0, each_first xs ys h.1)

each_rest : (xs ys : List Record) → AllByRecursion Fits (xs ++ ys) → AllByRecursion Fits ys
each_rest [] ys h = h
each_rest (x ∷ xs) ys h = each_rest xs ys h.1

pub can_first : (c : ℕ) (xs ys : List Record) → CanOffer c (xs ++ ys) → CanOffer c xs
can_first c xs ys h = record { fit = each_first xs ys h.fit; counted = omega (arith, h.counted, length-append xs ys) }

pub can_rest : (c n : ℕ) (xs ys : List Record) → CanOffer c (xs ++ ys) → n ≡ c + length xs → CanOffer n ys
can_rest c n xs ys h e = record { fit = each_rest xs ys h.fit; counted = omega (arith, h.counted, length-append xs ys) }

-- ---- what is left to offer, in a loop

-- the sink is so that what is left is answered as all was at first
pub record Offers (first : Test) (before : List ℕ) (start : ℕ) (all : List Record) (now : Test) (taken : List ℕ) (count : ℕ) (left : List Record) : Type 0 where
  pub test : now ≡ first
  pub can : CanOffer count left
  pub same : offer first before start (map word all) ≡ offer first taken count (map word left)

pub offers_none : (r : Test) (t : List ℕ) (c : ℕ) (xs : List Record) → CanOffer c xs → Offers r t c xs r t c xs
offers_none r t c xs h = record { test = refl; can = h; same = refl }

pub offers_more : (first : Test) (before : List ℕ) (start : ℕ) (all : List Record) (now : Test) (taken : List ℕ) (count : ℕ) (xs left : List Record) (later : Test) (taken1 : List ℕ) (n : ℕ)
    → Offers first before start all now taken count (xs ++ left) → outcome taken1 (Ok n) ≡ offer now taken count (map word xs) → later ≡ now → Offers first before start all later taken1 n left
offers_more first before start all now taken count xs left later taken1 n o e l =
    let f : outcome taken1 (Ok n) ≡ offer first taken count (map word xs) = e ∙ ap (λ (r : Test). offer r taken count (map word xs)) o.test in
    record {
      test = l ∙ o.test;
      can = can_rest count n xs left o.can (offer_count first taken count (map word xs) taken1 n f ∙ ap (λ (k : ℕ). count + k) (length-map xs word));
      same = o.same ∙ ap (offer first taken count) (map-append word xs left) ∙ offer_ok first taken count (map word xs) (map word left) taken1 n f;
    }

pub offers_stopped : (first : Test) (before : List ℕ) (start : ℕ) (all : List Record) (now : Test) (taken : List ℕ) (count : ℕ) (xs left : List Record) (taken1 : List ℕ) (k : ℕ)
    → Offers first before start all now taken count (xs ++ left) → outcome taken1 (Err k) ≡ offer now taken count (map word xs) → outcome taken1 (Err k) ≡ offer first before start (map word all)
offers_stopped first before start all now taken count xs left taken1 k o e =
    let f : outcome taken1 (Err k) ≡ offer first taken count (map word xs) = e ∙ ap (λ (r : Test). offer r taken count (map word xs)) o.test in
    offer_err first taken count (map word xs) (map word left) taken1 k f ∙ sym (o.same ∙ ap (offer first taken count) (map-append word xs left))

pub offers_all : (first : Test) (before : List ℕ) (start : ℕ) (all : List Record) (now : Test) (taken : List ℕ) (count : ℕ) (left : List Record)
    → Offers first before start all now taken count left → left ≡ [] → outcome taken (Ok count) ≡ offer first before start (map word all)
offers_all first before start all now taken count left o e = sym (o.same ∙ ap (λ (l : List Record). offer first taken count (map word l)) e)
