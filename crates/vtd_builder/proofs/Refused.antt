-- What the answer to words that were offered says of the first that is refused.
use Rattle.std.proofs.Common.{◌≡◌, ℕ, zero, suc, ◌+◌, ◌<◌, Bool, true, false, inl, inr, List, [], ◌∷◌, ◌++◌, length, take, Result, Ok, Err, sym, ap, subst, ◌∙◌, arith, append_assoc, append-nil}
use Rattle.std.specs.Prelude.{slice_index, ◌↔◌}
use Rattle.std.proofs.lemmas.Bool.{cases_Bool, cases_lt, false≢true}
use Rattle.vtd_builder.specs.Offered.{Outcome, outcome, offer, IsFirstRefused}
use Rattle.vtd_builder.proofs.InParts.{Test, same_ok, not_ok_err}

-- whether the word at j is refused
abbrev pub refused_at : Test → List ℕ → List ℕ → ℕ → Bool
refused_at r t ws j = r (t ++ take j ws) (slice_index ws j)

at_none : (r : Test) (t : List ℕ) (w : ℕ) (ws : List ℕ) (b : Bool) → r t w ≡ b → refused_at r t (w ∷ ws) 0 ≡ b
at_none r t w ws b e = ap (λ (l : List ℕ). r l w) (append-nil t) ∙ e

at_more : (r : Test) (t : List ℕ) (w : ℕ) (ws : List ℕ) (j : ℕ) (b : Bool) → refused_at r (t ++ w ∷ []) ws j ≡ b → refused_at r t (w ∷ ws) (suc j) ≡ b
at_more r t w ws j b e = ap (λ (l : List ℕ). r l (slice_index ws j)) (sym (append_assoc t (w ∷ []) (take j ws))) ∙ e

pub record Stopped (r : Test) (t : List ℕ) (c : ℕ) (ws t1 : List ℕ) (k : ℕ) : Type 0 where
  pub place : ℕ
  pub counted : k ≡ c + place
  pub first : IsFirstRefused r t ws place
  pub taken : t1 ≡ t ++ take place ws

err_at : (t u : List ℕ) (n c : ℕ) → outcome t (Err n) ≡ outcome u (Err c) → (t ≡ u) × (n ≡ c)
err_at t u n c e = let a : ◌≡◌ {A = Result ℕ ℕ} (Err n) (Err c) = ap (λ (o : Outcome). o.answer) e in (ap (λ (o : Outcome). o.taken) e, cc)

before_more : (r : Test) (t : List ℕ) (w : ℕ) (ws : List ℕ) (n : ℕ) → r t w ≡ false → ((j : ℕ) → j < n → refused_at r (t ++ w ∷ []) ws j ≡ false) → (j : ℕ) → j < suc n → refused_at r t (w ∷ ws) j ≡ false
before_more r t w ws n f so zero lt = at_none r t w ws false f
before_more r t w ws n f so (suc j) lt = at_more r t w ws j false (so j (omega arith))

pub stopped : (r : Test) (t : List ℕ) (c : ℕ) (ws t1 : List ℕ) (k : ℕ) → outcome t1 (Err k) ≡ offer r t c ws → Stopped r t c ws t1 k
stopped r t c [] t1 k e = absurd (not_ok_err t t1 c k (sym e))
stopped r t c (w ∷ ws) t1 k e = elim (cases_Bool (r t w)) [
  | inl y ↦
      let s = err_at t1 t k c (rw y at e) in
      record {
        place = 0;
        counted = omega (arith, s.1);
        first = record { within = omega arith; refused = at_none r t w ws true y; before = λ j lt. absurd (omega arith) };
        taken = s.0 ∙ sym (append-nil t);
      }
  | inr f ↦
      let so = stopped r (t ++ w ∷ []) (suc c) ws t1 k (rw f at e) in
      let n = so.place in
      record {
        place = suc n;
        counted = omega (arith, so.counted);
        first = record { within = omega (arith, so.first.within); refused = at_more r t w ws n true so.first.refused; before = before_more r t w ws n f so.first.before };
        taken = so.taken ∙ append_assoc t (w ∷ []) (take n ws);
      }
]

pub record Passed (r : Test) (t ws t1 : List ℕ) : Type 0 where
  pub none : (j : ℕ) → j < length ws → refused_at r t ws j ≡ false
  pub taken : t1 ≡ t ++ ws

pub passed : (r : Test) (t : List ℕ) (c : ℕ) (ws t1 : List ℕ) (n : ℕ) → outcome t1 (Ok n) ≡ offer r t c ws → Passed r t ws t1
passed r t c [] t1 n e = record { none = λ j lt. absurd (omega arith); taken = sym (same_ok t1 t n c e).0 ∙ sym (append-nil t) }
passed r t c (w ∷ ws) t1 n e = elim (cases_Bool (r t w)) [
  | inl y ↦ absurd (not_ok_err t1 t n c (rw y at e))
  | inr f ↦
      let so = passed r (t ++ w ∷ []) (suc c) ws t1 n (rw f at e) in
      record { none = before_more r t w ws (length ws) f so.none; taken = so.taken ∙ append_assoc t (w ∷ []) ws }
]

pub one_first : (r : Test) (t ws : List ℕ) (j k : ℕ) → IsFirstRefused r t ws j → IsFirstRefused r t ws k → j ≡ k
one_first r t ws j k a b = elim (cases_lt j k) [
  | inl lt ↦ absurd (false≢true (sym (b.before j lt) ∙ a.refused))
  | inr ge ↦ elim (cases_lt k j) [
    | inl lt ↦ absurd (false≢true (sym (a.before k lt) ∙ b.refused))
    | inr le ↦ omega arith
  ]
]

-- ---- what is answered

abbrev pub Answer : Type 0
Answer = Result (Unit {0}) ℕ

err_same : (n k : ℕ) → ◌≡◌ {A = Answer} (Err n) (Err k) → n ≡ k
err_same n k e = cc

pub stopped_iff : (r : Test) (t ws t1 : List ℕ) (n k : ℕ) → outcome t1 (Err n) ≡ offer r t 0 ws → ◌≡◌ {A = Answer} (Err n) (Err k) ↔ IsFirstRefused r t ws k
stopped_iff r t ws t1 n k e =
    let s = stopped r t 0 ws t1 n e in
    let same : n ≡ s.place = omega (arith, s.counted) in (
      λ h. subst (IsFirstRefused r t ws) (sym same ∙ err_same n k h) s.first,
      λ f. ap (λ (m : ℕ). Err m) (same ∙ one_first r t ws s.place k s.first f),
    )

pub stopped_taken : (r : Test) (t ws t1 : List ℕ) (n : ℕ) → outcome t1 (Err n) ≡ offer r t 0 ws → t1 ≡ t ++ take n ws
stopped_taken r t ws t1 n e =
    let s = stopped r t 0 ws t1 n e in
    let same : s.place ≡ n = omega (arith, s.counted) in
    s.taken ∙ ap (λ (m : ℕ). t ++ take m ws) same

pub passed_iff : (r : Test) (t ws t1 : List ℕ) (n k : ℕ) → outcome t1 (Ok n) ≡ offer r t 0 ws → ◌≡◌ {A = Answer} (Ok (tt {0})) (Err k) ↔ IsFirstRefused r t ws k
passed_iff r t ws t1 n k e =
    let p = passed r t 0 ws t1 n e in
    (λ h. absurd (cc), λ f. absurd (false≢true (sym (p.none k f.within) ∙ f.refused)))
