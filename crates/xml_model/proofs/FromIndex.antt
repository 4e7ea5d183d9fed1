-- The nodes from an index on, one record after another.
use Rattle.std.proofs.Common.{◌≡◌, ℕ, suc, ◌<◌, ◌≤◌, cond, not, List, [], ◌∷◌, ◌++◌, Some, None, refl, sym, ap, ap₂, ◌∙◌, arith}
use Rattle.std.proofs.Common.{inl, inr, nat_lt, ◌==◌}
use Rattle.std.specs.Prelude.{filter, find, option_to_list}
use Rattle.std.proofs.lemmas.Bool.{cases_lt, lt-ltb, le-ltb, eq-eqb, ne_eqb}
use Rattle.xml_model.specs.Tree.{Entry, at_index}
use Rattle.xml_model.proofs.Each.{Rising}
use Rattle.xml_model.proofs.Rise.{index}

-- the nodes whose first record has an index or a higher one
abbrev pub from_index : ℕ → List Entry → List Entry
from_index n es = filter (λ e. not (nat_lt e.index n)) es

-- of rising indexes, none is below the first bound
absent : (n low high : ℕ) (es : List Entry) → Rising index low es high → n < low → at_index n es ≡ None
unfolding at_index
absent n low high [] h l = refl
absent n low high (e ∷ es) h l = ap (λ b. cond b (Some e) (find (λ x. x.index == n) es)) (ne_eqb e.index n (λ same. omega (arith, h.0, l, same)))
    ∙ absent n (suc e.index) high es h.1 (omega (arith, h.0, l))

from_all : (n low high : ℕ) (es : List Entry) → Rising index low es high → n ≤ low → from_index n es ≡ es
from_all n low high [] h l = refl
from_all n low high (e ∷ es) h l = ap (λ b. cond (not b) (e ∷ from_index n es) (from_index n es)) (le-ltb e.index n (omega (arith, h.0, l)))
    ∙ ap (λ xs. e ∷ xs) (from_all n (suc e.index) high es h.1 (omega (arith, h.0, l)))

pub from_first : (low high : ℕ) (es : List Entry) → Rising index low es high → from_index 0 es ≡ es
from_first low high es h = from_all 0 low high es h (omega arith)

pub from_end : (n low high : ℕ) (es : List Entry) → Rising index low es high → high ≤ n → from_index n es ≡ []
from_end n low high [] h l = refl
from_end n low high (e ∷ es) h l =
    let within : e.index < high = rising_within (suc e.index) high es h.1 in
    ap (λ b. cond (not b) (e ∷ from_index n es) (from_index n es)) (lt-ltb e.index n (omega (arith, within, l))) ∙ from_end n (suc e.index) high es h.1 l
  where
    rising_within : (low high : ℕ) (es : List Entry) → Rising index low es high → low ≤ high
    rising_within low high [] h = h
    rising_within low high (e ∷ es) h = omega (arith, h.0, rising_within (suc e.index) high es h.1)

pub from_next : (n low high : ℕ) (es : List Entry) → Rising index low es high → from_index n es ≡ option_to_list (at_index n es) ++ from_index (suc n) es
unfolding at_index
from_next n low high [] h = refl
from_next n low high (e ∷ es) h =
    elim (cases_lt e.index n) [
      | inl l ↦
          ap (λ b. cond (not b) (e ∷ from_index n es) (from_index n es)) (lt-ltb e.index n l) ∙ from_next n (suc e.index) high es h.1
          ∙ sym (ap₂ (λ b c. option_to_list (cond b (Some e) (at_index n es)) ++ cond (not c) (e ∷ from_index (suc n) es) (from_index (suc n) es))
          (ne_eqb e.index n (λ same. omega (arith, l, same))) (lt-ltb e.index (suc n) (omega (arith, l))))
      | inr l ↦ elim (cases_lt n e.index) [
        | inl k ↦
            ap (λ b. cond (not b) (e ∷ from_index n es) (from_index n es)) (le-ltb e.index n l)
            ∙ ap (λ xs. e ∷ xs) (from_all n (suc e.index) high es h.1 (omega (arith, l)))
            ∙ sym (ap₂ (λ o c. option_to_list o ++ cond (not c) (e ∷ from_index (suc n) es) (from_index (suc n) es))
            (absent n (suc n) high (e ∷ es) (omega (arith, k), h.1) (omega arith)) (le-ltb e.index (suc n) (omega (arith, k)))
            ∙ ap (λ xs. e ∷ xs) (from_all (suc n) (suc e.index) high es h.1 (omega (arith, k))))
        | inr k ↦
            let same : e.index ≡ n = omega (arith, l, k) in
            ap (λ b. cond (not b) (e ∷ from_index n es) (from_index n es)) (le-ltb e.index n l)
            ∙ ap (λ xs. e ∷ xs) (from_all n (suc e.index) high es h.1 (omega (arith, l)))
            ∙ sym (ap₂ (λ b c. option_to_list (cond b (Some e) (at_index n es)) ++ cond (not c) (e ∷ from_index (suc n) es) (from_index (suc n) es))
            (eq-eqb e.index n same) (lt-ltb e.index (suc n) (omega (arith, same)))
            ∙ ap (λ xs. e ∷ xs) (from_all (suc n) (suc e.index) high es h.1 (omega (arith, same))))
      ]
    ]
