-- The length that the working functions compute is that of the longest word.
use Rattle.std.proofs.Common.{◌≡◌, ◌≢◌, ℕ, zero, suc, ◌+◌, ◌<◌, ◌≤◌, max, Bool, true, false, cond, not, ◌&&◌, ◌||◌, ◌==◌, nat_lt, List, [], ◌∷◌, ◌++◌, length, take, drop, refl, sym, ◌∙◌, ap, subst, arith, append_assoc, ◌⊎◌, inl, inr, length-append}
use Rattle.std.specs.List.{list_all, list_any}
use Rattle.std.proofs.lemmas.Bool.{eqb-true, eq-eqb, ltb-true, ltb-false}
use Rattle.std.proofs.lemmas.List.{drop_at}
use Rattle.xml_model.specs.Chars.{is_ncname}
use Rattle.xpath_tokens.specs.Tokens.{IsWord, symbol, name, any_in, literal, number, variable, IsQName, plain, prefixed, IsNumber, whole, pointed, after_point, are_digits, is_decimal_digit, is_quote, is_symbol, is_single, is_pair}
use Rattle.xpath_tokens.specs.Words.{run, is_other, ncname_length, plus_local, local_length, joined_length, qname_length, colon_star, star_length, any_in_length, with_point, point_length, number_length, closed_length, literal_length, dollar_length, variable_length, symbol_length, word_length}
use Rattle.xpath_tokens.proofs.Runs.{and_parts, run-all, run-append, run-stop, run-next, take_past, ncname_word, ncname_length-append, ncname_some, ncname_length-colon}

-- what the lengths are where a count is not 0
suc_some : (n : ℕ) → (suc n == 0) ≡ false
suc_some n = this (suc n == 0) refl
  where
    this : (b : Bool) → (suc n == 0) ≡ b → (suc n == 0) ≡ false
    this true e = let h = eqb-true (suc n) 0 e in absurd (omega arith)
    this false e = e

plus_local-suc : (n m : ℕ) → plus_local n (suc m) ≡ n + 1 + suc m
plus_local-suc n m = ap (λ b. cond b n (n + 1 + suc m)) (suc_some m)

joined_length-suc : (n : ℕ) (cs : List ℕ) → joined_length (suc n) cs ≡ local_length (suc n) cs
joined_length-suc n cs = ap (λ b. cond b 0 (local_length (suc n) cs)) (suc_some n)

star_length-suc : (n : ℕ) (cs : List ℕ) → star_length (suc n) cs ≡ colon_star (suc n) cs
star_length-suc n cs = ap (λ b. cond b 0 (colon_star (suc n) cs)) (suc_some n)

with_point-suc : (n m : ℕ) → with_point (suc n) m ≡ suc n + 1 + m
with_point-suc n m = ap (λ b. cond (b && m == 0) 0 (suc n + 1 + m)) (suc_some n)

with_point-zero : (m : ℕ) → with_point 0 (suc m) ≡ 0 + 1 + suc m
with_point-zero m = ap (λ b. cond b 0 (0 + 1 + suc m)) (suc_some m)

dollar_length-suc : (n : ℕ) → dollar_length (suc n) ≡ suc n + 1
dollar_length-suc n = ap (λ b. cond b 0 (suc n + 1)) (suc_some n)

-- a name that is taken as far as it goes
name_at : (cs : List ℕ) (a : ℕ) → ncname_length cs ≡ suc a → is_ncname (take (suc a) cs) ≡ true
name_at cs a e = subst (λ x. is_ncname (take x cs) ≡ true) e (ncname_word cs (λ z. let k : suc a ≡ 0 = sym e ∙ z in absurd (omega arith)))

-- names
plus_word : (cs rest : List ℕ) (a m : ℕ) → ncname_length cs ≡ suc a → ncname_length rest ≡ m → drop (suc a) cs ≡ 58 ∷ rest → IsQName (take (plus_local (suc a) m) cs)
plus_word cs rest a zero e f h = plain (name_at cs a e)
plus_word cs rest a (suc m) e f h =
    let n : plus_local (suc a) (suc m) ≡ suc a + suc (suc m) = plus_local-suc (suc a) m ∙ omega arith in
    subst IsQName (sym (ap (λ x. take x cs) n ∙ take_past (suc a) (suc m) cs rest 58 h)) (prefixed (take (suc a) cs) (take (suc m) rest) (name_at cs a e) (name_at rest m f))

pub qname_word : (cs : List ℕ) → qname_length cs ≢ 0 → IsQName (take (qname_length cs) cs)
qname_word cs n = this (ncname_length cs) (drop (ncname_length cs) cs) refl refl n
  where
    local : (a c : ℕ) (rest : List ℕ) (b : Bool) → ncname_length cs ≡ suc a → drop (suc a) cs ≡ c ∷ rest → (c == 58) ≡ b → IsQName (take (cond b (plus_local (suc a) (ncname_length rest)) (suc a)) cs)
    local a c rest true e h k = plus_word cs rest a (ncname_length rest) e refl (h ∙ ap (λ x. x ∷ rest) (eqb-true c 58 k))
    local a c rest false e h k = plain (name_at cs a e)

    this : (a : ℕ) (rest : List ℕ) → ncname_length cs ≡ a → drop a cs ≡ rest → joined_length a rest ≢ 0 → IsQName (take (joined_length a rest) cs)
    this zero rest e h k = absurd (k refl)
    this (suc a) [] e h k = subst (λ x. IsQName (take x cs)) (sym (joined_length-suc a [])) (plain (name_at cs a e))
    this (suc a) (c ∷ rest) e h k = subst (λ x. IsQName (take x cs)) (sym (joined_length-suc a (c ∷ rest))) (local a c rest (c == 58) e h refl)

plus_at_least : (n m : ℕ) → n ≤ plus_local n m
plus_at_least n zero = omega arith
plus_at_least n (suc m) = rw (plus_local-suc n m) (omega arith)

joined_at_least : (n : ℕ) (cs : List ℕ) → n ≤ joined_length n cs
joined_at_least zero cs = omega arith
joined_at_least (suc n) [] = rw (joined_length-suc n []) (omega arith)
joined_at_least (suc n) (c ∷ cs) = rw (joined_length-suc n (c ∷ cs)) (this (c == 58))
  where
    this : (b : Bool) → suc n ≤ cond b (plus_local (suc n) (ncname_length cs)) (suc n)
    this true = plus_at_least (suc n) (ncname_length cs)
    this false = omega arith

joined_some : (n m : ℕ) (cs : List ℕ) → 0 < n → 0 < m → m ≤ ncname_length cs → n + 1 + m ≤ joined_length n (58 ∷ cs)
joined_some zero m cs h k l = absurd (omega arith)
joined_some (suc n) m cs h k l = rw (joined_length-suc n (58 ∷ cs)) (this (ncname_length cs) l)
  where
    this : (x : ℕ) → m ≤ x → suc n + 1 + m ≤ plus_local (suc n) x
    this zero l = absurd (omega arith)
    this (suc x) l = rw (plus_local-suc (suc n) x) (omega arith)

pub qname_at_least : {w : List ℕ} (vs : List ℕ) → IsQName w → length w ≤ qname_length (w ++ vs)
qname_at_least {w} vs (plain h) =
    let a = ncname_length-append w vs h in
    let b = joined_at_least (ncname_length (w ++ vs)) (drop (ncname_length (w ++ vs)) (w ++ vs)) in
    omega arith
qname_at_least vs (prefixed p n h k) =
    let s : (p ++ 58 ∷ n) ++ vs ≡ p ++ 58 ∷ (n ++ vs) = append_assoc p (58 ∷ n) vs in
    let a = ncname_length-colon p (n ++ vs) h in
    let d : drop (ncname_length (p ++ 58 ∷ (n ++ vs))) (p ++ 58 ∷ (n ++ vs)) ≡ 58 ∷ (n ++ vs) = ap (λ x. drop x (p ++ 58 ∷ (n ++ vs))) a ∙ drop_at p (58 ∷ (n ++ vs)) (length p) refl in
    let m = ncname_length-append n vs k in
    let b = joined_some (length p) (length n) (n ++ vs) (ncname_some p h) (ncname_some n k) (omega arith) in
    let e : qname_length ((p ++ 58 ∷ n) ++ vs) ≡ joined_length (length p) (58 ∷ (n ++ vs)) = ap qname_length s ∙ ap (λ x. joined_length x (drop (ncname_length (p ++ 58 ∷ (n ++ vs))) (p ++ 58 ∷ (n ++ vs)))) a ∙ ap (joined_length (length p)) d in
    let l = length-append p (58 ∷ n) in
    rw e (omega arith)

pub any_in_word : (cs : List ℕ) → any_in_length cs ≢ 0 → IsWord (take (any_in_length cs) cs)
any_in_word cs n = this (ncname_length cs) (drop (ncname_length cs) cs) refl refl n
  where
    star : (a c d : ℕ) (rest : List ℕ) (b : Bool) → ncname_length cs ≡ suc a → drop (suc a) cs ≡ c ∷ d ∷ rest → (c == 58 && d == 42) ≡ b → cond b (suc a + 2) 0 ≢ 0 → IsWord (take (cond b (suc a + 2) 0) cs)
    star a c d rest true e h k z =
        let s = and_parts (c == 58) (d == 42) k in
        let w : drop (suc a) cs ≡ 58 ∷ 42 ∷ rest = h ∙ ap (λ x. x ∷ d ∷ rest) (eqb-true c 58 s.0) ∙ ap (λ x. 58 ∷ x ∷ rest) (eqb-true d 42 s.1) in
        let p = name_at cs a e in
        let n : suc a + 2 ≡ suc a + suc 1 = omega arith in
        subst IsWord (sym (ap (λ x. take x cs) n ∙ take_past (suc a) 1 cs (42 ∷ rest) 58 w)) (any_in (take (suc a) cs) p)
    star a c d rest false e h k z = absurd (z refl)

    this : (a : ℕ) (rest : List ℕ) → ncname_length cs ≡ a → drop a cs ≡ rest → star_length a rest ≢ 0 → IsWord (take (star_length a rest) cs)
    this zero rest e h k = absurd (k refl)
    this (suc a) [] e h k = absurd (k (star_length-suc a []))
    this (suc a) (c ∷ []) e h k = absurd (k (star_length-suc a (c ∷ [])))
    this (suc a) (c ∷ d ∷ rest) e h k = subst (λ x. IsWord (take x cs)) (sym (star_length-suc a (c ∷ d ∷ rest))) (star a c d rest (c == 58 && d == 42) e h refl (λ z. k (star_length-suc a (c ∷ d ∷ rest) ∙ z)))

star_some : (n : ℕ) (vs : List ℕ) → 0 < n → star_length n (58 ∷ 42 ∷ vs) ≡ n + 2
star_some zero vs h = absurd (omega arith)
star_some (suc n) vs h = star_length-suc n (58 ∷ 42 ∷ vs)

pub any_in_at_least : (p vs : List ℕ) → is_ncname p ≡ true → length (p ++ 58 ∷ 42 ∷ []) ≤ any_in_length ((p ++ 58 ∷ 42 ∷ []) ++ vs)
any_in_at_least p vs h =
    let s : (p ++ 58 ∷ 42 ∷ []) ++ vs ≡ p ++ 58 ∷ (42 ∷ vs) = append_assoc p (58 ∷ 42 ∷ []) vs in
    let a = ncname_length-colon p (42 ∷ vs) h in
    let d : drop (ncname_length (p ++ 58 ∷ 42 ∷ vs)) (p ++ 58 ∷ 42 ∷ vs) ≡ 58 ∷ 42 ∷ vs = ap (λ x. drop x (p ++ 58 ∷ 42 ∷ vs)) a ∙ drop_at p (58 ∷ 42 ∷ vs) (length p) refl in
    let e : any_in_length ((p ++ 58 ∷ 42 ∷ []) ++ vs) ≡ star_length (length p) (58 ∷ 42 ∷ vs) = ap any_in_length s ∙ ap (λ x. star_length x (drop (ncname_length (p ++ 58 ∷ 42 ∷ vs)) (p ++ 58 ∷ 42 ∷ vs))) a ∙ ap (star_length (length p)) d in
    let f = star_some (length p) vs (ncname_some p h) in
    let l = length-append p (58 ∷ 42 ∷ []) in
    rw (e, f) (omega arith)

-- numbers
taken_digits : (cs : List ℕ) (n : ℕ) → run is_decimal_digit cs ≡ suc n → are_digits (take (suc n) cs) ≡ true
taken_digits [] n h = absurd cc
taken_digits (c ∷ cs) n h = subst (λ x. list_all is_decimal_digit (take x (c ∷ cs)) ≡ true) h (run-all is_decimal_digit (c ∷ cs))

pub number_word : (cs : List ℕ) → number_length cs ≢ 0 → IsNumber (take (number_length cs) cs)
number_word cs n = this (run is_decimal_digit cs) (drop (run is_decimal_digit cs) cs) refl refl n
  where
    dot : (a m : ℕ) (rest : List ℕ) → run is_decimal_digit cs ≡ a → run is_decimal_digit rest ≡ m → drop a cs ≡ 46 ∷ rest → with_point a m ≢ 0 → IsNumber (take (with_point a m) cs)
    dot zero zero rest e f h k = absurd (k refl)
    dot zero (suc m) rest e f h k =
        let z : with_point 0 (suc m) ≡ 0 + suc (suc m) = with_point-zero m ∙ omega arith in
        subst IsNumber (sym (ap (λ x. take x cs) z ∙ take_past 0 (suc m) cs rest 46 h)) (after_point (taken_digits rest m f))
    dot (suc a) m rest e f h k =
        let z : with_point (suc a) m ≡ suc a + suc m = with_point-suc a m ∙ omega arith in
        subst IsNumber (sym (ap (λ x. take x cs) z ∙ take_past (suc a) m cs rest 46 h)) (pointed (take (suc a) cs) (take m rest) (taken_digits cs a e) (subst (λ x. list_all is_decimal_digit (take x rest) ≡ true) f (run-all is_decimal_digit rest)))

    alone : (a : ℕ) → run is_decimal_digit cs ≡ a → a ≢ 0 → IsNumber (take a cs)
    alone zero e k = absurd (k refl)
    alone (suc a) e k = whole (taken_digits cs a e)

    point : (a c : ℕ) (rest : List ℕ) (b : Bool) → run is_decimal_digit cs ≡ a → drop a cs ≡ c ∷ rest → (c == 46) ≡ b → cond b (with_point a (run is_decimal_digit rest)) a ≢ 0 → IsNumber (take (cond b (with_point a (run is_decimal_digit rest)) a) cs)
    point a c rest true e h k z = dot a (run is_decimal_digit rest) rest e refl (h ∙ ap (λ x. x ∷ rest) (eqb-true c 46 k)) z
    point a c rest false e h k z = alone a e z

    this : (a : ℕ) (rest : List ℕ) → run is_decimal_digit cs ≡ a → drop a cs ≡ rest → point_length a rest ≢ 0 → IsNumber (take (point_length a rest) cs)
    this a [] e h k = alone a e k
    this a (c ∷ rest) e h k = point a c rest (c == 46) e h refl k

point_at_least : (n : ℕ) (cs : List ℕ) → n ≤ point_length n cs
point_at_least n [] = omega arith
point_at_least n (c ∷ cs) = this (c == 46)
  where
    both : (n m : ℕ) → n ≤ with_point n m
    both zero m = omega arith
    both (suc n) m = rw (with_point-suc n m) (omega arith)

    this : (b : Bool) → n ≤ cond b (with_point n (run is_decimal_digit cs)) n
    this true = both n (run is_decimal_digit cs)
    this false = omega arith

with_point_at_least : (n m k : ℕ) → 0 < n + m → m ≤ k → n + 1 + m ≤ with_point n k
with_point_at_least zero m zero h l = absurd (omega arith)
with_point_at_least zero m (suc k) h l = rw (with_point-zero k) (omega arith)
with_point_at_least (suc n) m k h l = rw (with_point-suc n k) (omega arith)

digits_some : (ds : List ℕ) → are_digits ds ≡ true → (list_all is_decimal_digit ds ≡ true) × (0 < length ds)
digits_some [] h = absurd cc
digits_some (d ∷ ds) h = (h, omega arith)

pub number_at_least : {w : List ℕ} (vs : List ℕ) → IsNumber w → length w ≤ number_length (w ++ vs)
number_at_least {w} vs (whole h) =
    let a = run-append is_decimal_digit w vs (digits_some w h).0 in
    let b = point_at_least (run is_decimal_digit (w ++ vs)) (drop (run is_decimal_digit (w ++ vs)) (w ++ vs)) in
    omega arith
number_at_least vs (pointed ds es h k) =
    let s : (ds ++ 46 ∷ es) ++ vs ≡ ds ++ 46 ∷ (es ++ vs) = append_assoc ds (46 ∷ es) vs in
    let a = run-stop is_decimal_digit ds 46 (es ++ vs) (digits_some ds h).0 refl in
    let d : drop (run is_decimal_digit (ds ++ 46 ∷ (es ++ vs))) (ds ++ 46 ∷ (es ++ vs)) ≡ 46 ∷ (es ++ vs) = ap (λ x. drop x (ds ++ 46 ∷ (es ++ vs))) a ∙ drop_at ds (46 ∷ (es ++ vs)) (length ds) refl in
    let m = run-append is_decimal_digit es vs k in
    let some = (digits_some ds h).1 in
    let b = with_point_at_least (length ds) (length es) (run is_decimal_digit (es ++ vs)) (omega arith) (omega arith) in
    let e : number_length ((ds ++ 46 ∷ es) ++ vs) ≡ with_point (length ds) (run is_decimal_digit (es ++ vs)) = ap number_length s ∙ ap (λ x. point_length x (drop (run is_decimal_digit (ds ++ 46 ∷ (es ++ vs))) (ds ++ 46 ∷ (es ++ vs)))) a ∙ ap (point_length (length ds)) d in
    let l = length-append ds (46 ∷ es) in
    rw e (omega arith)
number_at_least vs (after_point {es} h) =
    let m = run-append is_decimal_digit es vs (digits_some es h).0 in
    let some = (digits_some es h).1 in
    let b = with_point_at_least 0 (length es) (run is_decimal_digit (es ++ vs)) (omega arith) (omega arith) in
    omega arith

pub number_longest : (cs w vs : List ℕ) → cs ≡ w ++ vs → IsNumber w → length w ≤ number_length cs
number_longest cs w vs e h = rw e (number_at_least vs h)

-- literals
others : (q : ℕ) (cs : List ℕ) → list_all (is_other q) cs ≡ true → list_any (λ c. c == q) cs ≡ false
others q [] h = refl
others q (c ∷ cs) h = this (others q cs) (c == q) refl h
  where
    this : (list_all (is_other q) cs ≡ true → list_any (λ c. c == q) cs ≡ false) → (b : Bool) → (c == q) ≡ b → (not b && list_all (is_other q) cs) ≡ true → (b || list_any (λ c. c == q) cs) ≡ false
    this i true e k = absurd cc
    this i false e k = i k

others_back : (q : ℕ) (cs : List ℕ) → list_any (λ c. c == q) cs ≡ false → list_all (is_other q) cs ≡ true
others_back q [] h = refl
others_back q (c ∷ cs) h = this (others_back q cs) (c == q) refl h
  where
    this : (list_any (λ c. c == q) cs ≡ false → list_all (is_other q) cs ≡ true) → (b : Bool) → (c == q) ≡ b → (b || list_any (λ c. c == q) cs) ≡ false → (not b && list_all (is_other q) cs) ≡ true
    this i true e k = absurd cc
    this i false e k = i k

not_other : (q c : ℕ) → is_other q c ≡ false → c ≡ q
not_other q c h = this (c == q) refl h
  where
    this : (b : Bool) → (c == q) ≡ b → not b ≡ false → c ≡ q
    this true e k = eqb-true c q e
    this false e k = absurd cc

drop_some : (n : ℕ) (cs : List ℕ) → n < length cs → (c : ℕ) × (vs : List ℕ) × (drop n cs ≡ c ∷ vs)
drop_some n [] h = absurd (omega arith)
drop_some zero (c ∷ cs) h = (c, cs, refl)
drop_some (suc n) (c ∷ cs) h = drop_some n cs (omega arith)

pub literal_word : (cs : List ℕ) → literal_length cs ≢ 0 → IsWord (take (literal_length cs) cs)
literal_word [] n = absurd (n refl)
literal_word (q ∷ cs) n = this (is_quote q) (nat_lt (run (is_other q) cs) (length cs)) refl refl n
  where
    this : (b d : Bool) → is_quote q ≡ b → nat_lt (run (is_other q) cs) (length cs) ≡ d → cond b (cond d (run (is_other q) cs + 2) 0) 0 ≢ 0 → IsWord (take (cond b (cond d (run (is_other q) cs + 2) 0) 0) (q ∷ cs))
    this false d e f k = absurd (k refl)
    this true false e f k = absurd (k refl)
    this true true e f k =
        let s = drop_some (run (is_other q) cs) cs (ltb-true _ _ f) in
        let c = not_other q s.0 (run-next (is_other q) cs s.0 s.1 s.2) in
        let w : drop (run (is_other q) cs) cs ≡ q ∷ s.1 = s.2 ∙ ap (λ x. x ∷ s.1) c in
        let z : run (is_other q) cs + 2 ≡ suc (run (is_other q) cs + suc 0) = omega arith in
        subst IsWord (sym (ap (λ x. take x (q ∷ cs)) z ∙ ap (λ x. q ∷ x) (take_past (run (is_other q) cs) 0 cs s.1 q w)))
        (literal q (take (run (is_other q) cs) cs) e (others q (take (run (is_other q) cs) cs) (run-all (is_other q) cs)))

pub literal_at_least : (q : ℕ) (t vs : List ℕ) → is_quote q ≡ true → list_any (λ c. c == q) t ≡ false → length (q ∷ (t ++ q ∷ [])) ≤ literal_length ((q ∷ (t ++ q ∷ [])) ++ vs)
literal_at_least q t vs h k =
    let s : (t ++ q ∷ []) ++ vs ≡ t ++ q ∷ vs = append_assoc t (q ∷ []) vs in
    let o : is_other q q ≡ false = ap not (eq-eqb q q refl) in
    let a = run-stop (is_other q) t q vs (others_back q t k) o in
    let l = length-append t (q ∷ vs) in
    let m = length-append t (q ∷ []) in
    this (run (is_other q) ((t ++ q ∷ []) ++ vs)) (length ((t ++ q ∷ []) ++ vs)) (ap (run (is_other q)) s ∙ a) (ap length s ∙ l)
  where
    this : (n m : ℕ) → n ≡ length t → m ≡ length t + length (q ∷ vs) → length (q ∷ (t ++ q ∷ [])) ≤ cond (is_quote q) (closed_length n m) 0
    this n m e f = rw h (inner (nat_lt n m) refl)
      where
        inner : (b : Bool) → nat_lt n m ≡ b → length (q ∷ (t ++ q ∷ [])) ≤ cond b (n + 2) 0
        inner true g = let m = length-append t (q ∷ []) in omega arith
        inner false g = let r = ltb-false n m g in absurd (omega arith)

-- variable references
pub variable_word : (cs : List ℕ) → variable_length cs ≢ 0 → IsWord (take (variable_length cs) cs)
variable_word [] n = absurd (n refl)
variable_word (c ∷ cs) n = this (c == 36) (qname_length cs) refl refl n
  where
    this : (b : Bool) (m : ℕ) → (c == 36) ≡ b → qname_length cs ≡ m → cond b (dollar_length m) 0 ≢ 0 → IsWord (take (cond b (dollar_length m) 0) (c ∷ cs))
    this false m e f k = absurd (k refl)
    this true zero e f k = absurd (k refl)
    this true (suc m) e f k =
        let z : dollar_length (suc m) ≡ suc (suc m) = dollar_length-suc m ∙ omega arith in
        let q = subst (λ x. IsQName (take x cs)) f (qname_word cs (λ y. let g : suc m ≡ 0 = sym f ∙ y in absurd (omega arith))) in
        subst IsWord (sym (ap (λ x. take x (c ∷ cs)) z ∙ ap (λ x. x ∷ take (suc m) cs) (eqb-true c 36 e))) (variable q)

qname_some : {w : List ℕ} → IsQName w → 0 < length w
qname_some {w} (plain h) = ncname_some w h
qname_some (prefixed p n h k) = let l = length-append p (58 ∷ n) in omega arith

dollar_at_least : (n m : ℕ) → 0 < n → n ≤ m → suc n ≤ dollar_length m
dollar_at_least n zero h k = absurd (omega arith)
dollar_at_least n (suc m) h k = rw (dollar_length-suc m) (omega arith)

pub variable_at_least : {w : List ℕ} (vs : List ℕ) → IsQName w → length (36 ∷ w) ≤ variable_length ((36 ∷ w) ++ vs)
variable_at_least {w} vs q = dollar_at_least (length w) (qname_length (w ++ vs)) (qname_some q) (qname_at_least vs q)

-- symbols
pub symbol_word : (cs : List ℕ) → symbol_length cs ≢ 0 → IsWord (take (symbol_length cs) cs)
symbol_word [] n = absurd (n refl)
symbol_word (c ∷ []) n = this (is_single c) refl n
  where
    this : (b : Bool) → is_single c ≡ b → ◌≢◌ {A = ℕ} (cond b 1 0) 0 → IsWord (take (cond b 1 0) (c ∷ []))
    this true e k = symbol e
    this false e k = absurd (k refl)
symbol_word (c ∷ d ∷ cs) n = this (is_pair c d) (is_single c) refl refl n
  where
    this : (b e : Bool) → is_pair c d ≡ b → is_single c ≡ e → ◌≢◌ {A = ℕ} (cond b 2 (cond e 1 0)) 0 → IsWord (take (cond b 2 (cond e 1 0)) (c ∷ d ∷ cs))
    this true e f g k = symbol f
    this false true f g k = symbol g
    this false false f g k = absurd (k refl)

pub symbol_at_least : (w vs : List ℕ) → is_symbol w ≡ true → length w ≤ symbol_length (w ++ vs)
symbol_at_least [] vs h = absurd cc
symbol_at_least (c ∷ []) [] h = rw h (omega arith)
symbol_at_least (c ∷ []) (d ∷ vs) h = this (is_pair c d) (is_single c) h
  where
    this : (b e : Bool) → e ≡ true → 1 ≤ cond b 2 (cond e 1 0)
    this true e k = omega arith
    this false true k = omega arith
    this false false k = absurd cc
symbol_at_least (c ∷ d ∷ []) vs h = rw h (omega arith)
symbol_at_least (c ∷ d ∷ e ∷ w) vs h = absurd cc

-- the longest of them
max_is : (a b : ℕ) → (max a b ≡ a) ⊎ (max a b ≡ b)
max_is a b = this (nat_lt a b) refl
  where
    this : (x : Bool) → nat_lt a b ≡ x → (max a b ≡ a) ⊎ (max a b ≡ b)
    this true e = let h = ltb-true a b e in inr (omega arith)
    this false e = let h = ltb-false a b e in inl (omega arith)

max_word : (cs : List ℕ) (a b : ℕ) → (a ≢ 0 → IsWord (take a cs)) → (b ≢ 0 → IsWord (take b cs)) → max a b ≢ 0 → IsWord (take (max a b) cs)
max_word cs a b f g n =
    elim (max_is a b) [
      | inl e ↦ rw e (f (rw e at n))
      | inr e ↦ rw e (g (rw e at n))
    ]

pub longest_word : (cs : List ℕ) → word_length cs ≢ 0 → IsWord (take (word_length cs) cs)
longest_word cs n =
    max_word cs (max (symbol_length cs) (max (qname_length cs) (any_in_length cs))) (max (literal_length cs) (max (number_length cs) (variable_length cs)))
    (max_word cs (symbol_length cs) (max (qname_length cs) (any_in_length cs)) (symbol_word cs) (max_word cs (qname_length cs) (any_in_length cs) (λ k. name (qname_word cs k)) (any_in_word cs)))
    (max_word cs (literal_length cs) (max (number_length cs) (variable_length cs)) (literal_word cs) (max_word cs (number_length cs) (variable_length cs) (λ k. number (number_word cs k)) (variable_word cs)))
    n

pub no_longer : {w : List ℕ} (vs : List ℕ) → IsWord w → length w ≤ word_length (w ++ vs)
no_longer {w} vs (symbol h) = let g = symbol_at_least w vs h in omega arith
no_longer vs (name q) = let g = qname_at_least vs q in omega arith
no_longer vs (any_in p h) = let g = any_in_at_least p vs h in omega arith
no_longer vs (literal q t h k) = let g = literal_at_least q t vs h k in omega arith
no_longer vs (number h) = let g = number_at_least vs h in omega arith
no_longer vs (variable q) = let g = variable_at_least vs q in omega arith
