-- Runs of characters that pass a test, and the names that are made of them.
use Rattle.std.proofs.Common.{◌≡◌, ◌≢◌, ℕ, zero, suc, ◌+◌, ◌<◌, Bool, true, false, cond, not, ◌&&◌, ◌||◌, ◌==◌, List, [], ◌∷◌, ◌++◌, length, take, drop, refl, sym, ◌∙◌, ap, subst, arith, ◌⊎◌, inl, inr}
use Rattle.std.proofs.lemmas.Bool.{eqb-true}
use Rattle.std.specs.List.{list_all, list_any}
use Rattle.xml_model.specs.Chars.{is_name_start, is_name_char, is_name, is_ncname}
use Rattle.xpath_tokens.specs.Words.{run, is_ncname_start, is_ncname_char, ncname_length}

pub and_parts : (a b : Bool) → (a && b) ≡ true → (a ≡ true) × (b ≡ true)
and_parts true b h = (refl, h)
and_parts false b h = absurd cc

pub or_parts : (a b : Bool) → (a || b) ≡ true → (a ≡ true) ⊎ (b ≡ true)
or_parts true b h = inl refl
or_parts false b h = inr h

-- what a test for an empty list says
pub some_list : {X : Type 0} {b : Bool} (xs : List X) → b ≡ (length xs == 0) → b ≡ false → xs ≢ []
some_list {X} {b} xs h e n = let k = ap (λ z. length z == 0) n in cc

pub empty_list : {X : Type 0} {b : Bool} (xs : List X) → b ≡ (length xs == 0) → b ≡ true → xs ≡ []
empty_list [] h e = refl
empty_list (x ∷ xs) h e = let k = eqb-true (length (x ∷ xs)) 0 (sym h ∙ e) in absurd (omega arith)

pub run-all : (p : ℕ → Bool) (cs : List ℕ) → list_all p (take (run p cs) cs) ≡ true
run-all p [] = refl
run-all p (c ∷ cs) = this (run-all p cs) (p c) refl
  where
    this : list_all p (take (run p cs) cs) ≡ true → (b : Bool) → p c ≡ b → list_all p (take (cond b (suc (run p cs)) 0) (c ∷ cs)) ≡ true
    this i true e = rw e i
    this i false e = refl

pub run-append : (p : ℕ → Bool) (us vs : List ℕ) → list_all p us ≡ true → run p (us ++ vs) ≡ length us + run p vs
run-append p [] vs h = omega arith
run-append p (u ∷ us) vs h =
    let a = and_parts (p u) (list_all p us) h in
    let i = run-append p us vs a.1 in
    rw (a.0) (omega arith)

pub run-stop : (p : ℕ → Bool) (us : List ℕ) (c : ℕ) (vs : List ℕ) → list_all p us ≡ true → p c ≡ false → run p (us ++ c ∷ vs) ≡ length us
run-stop p us c vs h n =
    let z : run p (c ∷ vs) ≡ 0 = rw n refl in
    run-append p us (c ∷ vs) h ∙ omega arith

-- the character after a run fails the test
pub run-next : (p : ℕ → Bool) (cs : List ℕ) (c : ℕ) (vs : List ℕ) → drop (run p cs) cs ≡ c ∷ vs → p c ≡ false
run-next p [] c vs h = absurd cc
run-next p (d ∷ cs) c vs h = this (run-next p cs c vs) (p d) refl h
  where
    this : (drop (run p cs) cs ≡ c ∷ vs → p c ≡ false) → (b : Bool) → p d ≡ b → drop (cond b (suc (run p cs)) 0) (d ∷ cs) ≡ c ∷ vs → p c ≡ false
    this i true e k = i k
    this i false e k = let same : d ≡ c = cc in subst (λ x. p x ≡ false) same e

-- what is after a place, with a character and some more
pub take_past : (a m : ℕ) (cs rest : List ℕ) (c : ℕ) → drop a cs ≡ c ∷ rest → take (a + suc m) cs ≡ take a cs ++ c ∷ take m rest
take_past zero m cs rest c h =
    let e : 0 + suc m ≡ suc m = omega arith in
    rw (e, h) refl
take_past (suc a) m [] rest c h = absurd cc
take_past (suc a) m (d ∷ cs) rest c h =
    let e : suc a + suc m ≡ suc (a + suc m) = omega arith in
    rw e (ap (λ x. d ∷ x) (take_past a m cs rest c h))

-- names without a colon
swap : (start colon all some both : Bool) → (all && not some) ≡ both → ((start && all) && not (colon || some)) ≡ ((not colon && start) && both)
swap true true true some both h = refl
swap true true false some both h = refl
swap true false all some both h = h
swap false true all some both h = refl
swap false false all some both h = refl

no_colons : (cs : List ℕ) → (list_all is_name_char cs && not (list_any (λ c. c == 58) cs)) ≡ list_all is_ncname_char cs
no_colons [] = refl
no_colons (c ∷ cs) = swap (is_name_char c) (c == 58) (list_all is_name_char cs) (list_any (λ d. d == 58) cs) (list_all is_ncname_char cs) (no_colons cs)

pub ncname_cons : (c : ℕ) (cs : List ℕ) → is_ncname (c ∷ cs) ≡ (is_ncname_start c && list_all is_ncname_char cs)
unfolding is_ncname is_name
ncname_cons c cs = swap (is_name_start c) (c == 58) (list_all is_name_char cs) (list_any (λ d. d == 58) cs) (list_all is_ncname_char cs) (no_colons cs)

pub ncname_nil : is_ncname [] ≡ true → ⊥
unfolding is_ncname is_name
ncname_nil h = cc

pub ncname_word : (cs : List ℕ) → ncname_length cs ≢ 0 → is_ncname (take (ncname_length cs) cs) ≡ true
ncname_word [] n = absurd (n refl)
ncname_word (c ∷ cs) n = this (is_ncname_start c) refl n
  where
    this : (b : Bool) → is_ncname_start c ≡ b → cond b (suc (run is_ncname_char cs)) 0 ≢ 0 → is_ncname (take (cond b (suc (run is_ncname_char cs)) 0) (c ∷ cs)) ≡ true
    this true e k = ncname_cons c (take (run is_ncname_char cs) cs) ∙ ap (λ x. x && list_all is_ncname_char (take (run is_ncname_char cs) cs)) e ∙ run-all is_ncname_char cs
    this false e k = absurd (k refl)

pub ncname_length-append : (w vs : List ℕ) → is_ncname w ≡ true → ncname_length (w ++ vs) ≡ length w + run is_ncname_char vs
ncname_length-append [] vs h = absurd (ncname_nil h)
ncname_length-append (c ∷ cs) vs h =
    let a = and_parts (is_ncname_start c) (list_all is_ncname_char cs) (sym (ncname_cons c cs) ∙ h) in
    let i = run-append is_ncname_char cs vs a.1 in
    rw (a.0) (omega arith)

pub ncname_some : (w : List ℕ) → is_ncname w ≡ true → 0 < length w
ncname_some [] h = absurd (ncname_nil h)
ncname_some (c ∷ cs) h = omega arith

-- a name before a colon ends there
pub ncname_length-colon : (w vs : List ℕ) → is_ncname w ≡ true → ncname_length (w ++ 58 ∷ vs) ≡ length w
ncname_length-colon w vs h = ncname_length-append w (58 ∷ vs) h ∙ omega arith
