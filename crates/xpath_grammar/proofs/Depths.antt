-- Where too many brackets are open.
use Rattle.std.proofs.Common.{◌≡◌, ℕ, zero, suc, ◌+◌, ◌<◌, ◌≤◌, Bool, true, false, cond, nat_lt, ◌||◌, List, [], ◌∷◌, take, refl, sym, ◌∙◌, arith, inl, inr}
use Rattle.std.proofs.lemmas.Bool.{ltb-true, ltb-false}
use Rattle.xpath_tokens.specs.declared.Token.{Token}
use Rattle.xpath_tokens.proofs.Runs.{or_parts}
use Rattle.xpath_grammar.specs.Parse.{opens, closes, count, IsDeep}
use Rattle.xpath_grammar.specs.TokenParse.{deep_from}

after : (p : Token → Bool) (n : ℕ) (t : Token) → ℕ
after p n t = cond (p t) (n + 1) n

counted : (p : Token → Bool) (n : ℕ) (t : Token) (ts : List Token) → cond (p t) (n + 1) n + count p ts ≡ n + count p (t ∷ ts)
counted p n t ts = this (p t)
  where
    this : (b : Bool) → cond b (n + 1) n + count p ts ≡ n + cond b (suc (count p ts)) (count p ts)
    this true = omega arith
    this false = refl

deep_sound : (o c : ℕ) (ts : List Token) → deep_from o c ts ≡ true → (n : ℕ) × ((c + count closes (take n ts)) + 64 < o + count opens (take n ts))
deep_sound o c [] h = absurd cc
deep_sound o c (t ∷ ts) h =
    elim (or_parts (nat_lt (cond (closes t) (c + 1) c + 64) (cond (opens t) (o + 1) o)) (deep_from (cond (opens t) (o + 1) o) (cond (closes t) (c + 1) c) ts) h) [
      | inl e ↦
          let l = ltb-true (cond (closes t) (c + 1) c + 64) (cond (opens t) (o + 1) o) e in
          let a = counted closes c t [] in
          let b = counted opens o t [] in
          (1, omega (arith, l, a, b))
      | inr e ↦
          let i = deep_sound (cond (opens t) (o + 1) o) (cond (closes t) (c + 1) c) ts e in
          let a = counted closes c t (take i.0 ts) in
          let b = counted opens o t (take i.0 ts) in
          let l = i.1 in
          (suc i.0, omega (arith, l, a, b))
    ]

deep_only : (o c : ℕ) (ts : List Token) (n : ℕ) → o ≤ c + 64 → (c + count closes (take n ts)) + 64 < o + count opens (take n ts) → deep_from o c ts ≡ true
deep_only o c ts zero h k = absurd (omega arith)
deep_only o c [] (suc n) h k = absurd (omega arith)
deep_only o c (t ∷ ts) (suc n) h k =
    let a = counted closes c t (take n ts) in
    let b = counted opens o t (take n ts) in
    let m : (cond (closes t) (c + 1) c + count closes (take n ts)) + 64 < cond (opens t) (o + 1) o + count opens (take n ts) = omega (arith, k, a, b) in
    this (λ x. deep_only (cond (opens t) (o + 1) o) (cond (closes t) (c + 1) c) ts n x m) (nat_lt (cond (closes t) (c + 1) c + 64) (cond (opens t) (o + 1) o)) refl
  where
    this : ((cond (opens t) (o + 1) o) ≤ (cond (closes t) (c + 1) c) + 64 → deep_from (cond (opens t) (o + 1) o) (cond (closes t) (c + 1) c) ts ≡ true) → (b : Bool) → nat_lt (cond (closes t) (c + 1) c + 64) (cond (opens t) (o + 1) o) ≡ b → (b || deep_from (cond (opens t) (o + 1) o) (cond (closes t) (c + 1) c) ts) ≡ true
    this i true e = refl
    this i false e = i (ltb-false (cond (closes t) (c + 1) c + 64) (cond (opens t) (o + 1) o) e)

pub deep_is : (ts : List Token) {b : Bool} → b ≡ deep_from 0 0 ts → b ≡ true → IsDeep ts
deep_is ts h e = let d = deep_sound 0 0 ts (sym h ∙ e) in let l = d.1 in (d.0, omega (arith, l))

pub deep_not : (ts : List Token) {b : Bool} → b ≡ deep_from 0 0 ts → b ≡ false → IsDeep ts → ⊥
deep_not ts h e d = let l = d.1 in let k = deep_only 0 0 ts d.0 (omega arith) (omega (arith, l)) in cc
