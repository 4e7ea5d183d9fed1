-- White space and colons in the words of runs.
use Rattle.std.proofs.Common.{◌≡◌, ℕ, suc, ◌+◌, ◌<◌, ◌≤◌, Bool, true, false, cond, not, ◌||◌, ◌==◌, nat_lt, List, [], ◌∷◌, length, take, drop, refl, sym, ◌∙◌, ap, arith}
use Rattle.std.proofs.lemmas.Bool.{ltb-true, ltb-false}
use Rattle.xml_model.specs.Chars.{is_space, has_colon, before_colon, after_colon, prefix_of, local_of}
use Rattle.xpath_tokens.specs.Tokens.{after_space}
use Rattle.xpath_tokens.specs.Words.{run, is_other}

pub after_space_run : (cs : List ℕ) → drop (run is_space cs) cs ≡ after_space cs
after_space_run [] = refl
after_space_run (c ∷ cs) = this (after_space_run cs) (is_space c)
  where
    this : drop (run is_space cs) cs ≡ after_space cs → (b : Bool) → drop (cond b (suc (run is_space cs)) 0) (c ∷ cs) ≡ cond b (after_space cs) (c ∷ cs)
    this i true = i
    this i false = refl

-- where a colon is, and where none is
colon_within : (cs : List ℕ) → has_colon cs ≡ true → run (is_other 58) cs < length cs
colon_within [] h = absurd cc
colon_within (c ∷ cs) h = this (colon_within cs) (c == 58) h
  where
    this : (has_colon cs ≡ true → run (is_other 58) cs < length cs) → (b : Bool) → (b || has_colon cs) ≡ true → cond (not b) (suc (run (is_other 58) cs)) 0 < length (c ∷ cs)
    this i true k = omega arith
    this i false k = let j = i k in omega arith

colon_beyond : (cs : List ℕ) → has_colon cs ≡ false → run (is_other 58) cs ≡ length cs
colon_beyond [] h = refl
colon_beyond (c ∷ cs) h = this (colon_beyond cs) (c == 58) h
  where
    this : (has_colon cs ≡ false → run (is_other 58) cs ≡ length cs) → (b : Bool) → (b || has_colon cs) ≡ false → cond (not b) (suc (run (is_other 58) cs)) 0 ≡ length (c ∷ cs)
    this i true k = absurd cc
    this i false k = let j = i k in omega arith

pub has_colon_run : (cs : List ℕ) → nat_lt (run (is_other 58) cs) (length cs) ≡ has_colon cs
has_colon_run cs = this (has_colon cs) (nat_lt (run (is_other 58) cs) (length cs)) refl refl
  where
    this : (a b : Bool) → has_colon cs ≡ a → nat_lt (run (is_other 58) cs) (length cs) ≡ b → b ≡ a
    this true true h e = refl
    this false false h e = refl
    this true false h e = let k = colon_within cs h in let l = ltb-false (run (is_other 58) cs) (length cs) e in absurd (omega arith)
    this false true h e = let k = colon_beyond cs h in let l = ltb-true (run (is_other 58) cs) (length cs) e in absurd (omega arith)

colon_inside : (cs : List ℕ) → run (is_other 58) cs < length cs → has_colon cs ≡ true
colon_inside cs h = this (has_colon cs) refl
  where
    this : (a : Bool) → has_colon cs ≡ a → a ≡ true
    this true e = refl
    this false e = let k = colon_beyond cs e in absurd (omega arith)

colon_outside : (cs : List ℕ) → length cs ≤ run (is_other 58) cs → has_colon cs ≡ false
colon_outside cs h = this (has_colon cs) refl
  where
    this : (a : Bool) → has_colon cs ≡ a → a ≡ false
    this true e = let k = colon_within cs e in absurd (omega arith)
    this false e = refl

before_run : (cs : List ℕ) → before_colon cs ≡ take (run (is_other 58) cs) cs
before_run [] = refl
before_run (c ∷ cs) = this (before_run cs) (c == 58)
  where
    this : before_colon cs ≡ take (run (is_other 58) cs) cs → (b : Bool) → cond b [] (c ∷ before_colon cs) ≡ take (cond (not b) (suc (run (is_other 58) cs)) 0) (c ∷ cs)
    this i true = refl
    this i false = ap (λ x. c ∷ x) i

after_run : (cs : List ℕ) → after_colon cs ≡ drop (suc (run (is_other 58) cs)) cs
after_run [] = refl
after_run (c ∷ cs) = this (after_run cs) (c == 58)
  where
    this : after_colon cs ≡ drop (suc (run (is_other 58) cs)) cs → (b : Bool) → cond b cs (after_colon cs) ≡ drop (suc (cond (not b) (suc (run (is_other 58) cs)) 0)) (c ∷ cs)
    this i true = refl
    this i false = i

pub prefix_before : (cs : List ℕ) (n : ℕ) → n ≡ run (is_other 58) cs → n < length cs → prefix_of cs ≡ take n cs
unfolding prefix_of
prefix_before cs n e h = rw (colon_inside cs (rw e at h)) (before_run cs ∙ ap (λ x. take x cs) (sym e))

pub local_after : (cs : List ℕ) (n : ℕ) → n ≡ run (is_other 58) cs → n < length cs → local_of cs ≡ drop (n + 1) cs
unfolding local_of
local_after cs n e h = let m : suc (run (is_other 58) cs) ≡ n + 1 = omega arith in rw (colon_inside cs (rw e at h)) (after_run cs ∙ ap (λ x. drop x cs) m)

pub prefix_none : (cs : List ℕ) (n : ℕ) → n ≡ run (is_other 58) cs → length cs ≤ n → prefix_of cs ≡ []
unfolding prefix_of
prefix_none cs n e h = rw (colon_outside cs (rw e at h)) refl

pub local_none : (cs : List ℕ) (n : ℕ) → n ≡ run (is_other 58) cs → length cs ≤ n → local_of cs ≡ cs
unfolding local_of
local_none cs n e h = rw (colon_outside cs (rw e at h)) refl
