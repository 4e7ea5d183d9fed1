-- Filters of lists of nodes, of which the indexes may rise; and whether one of a list passes.
use Rattle.std.proofs.Common.{◌≡◌, ℕ, zero, suc, ◌<◌, ◌≤◌, Bool, true, false, cond, ◌||◌, List, [], ◌∷◌, ◌++◌, refl, ap, ap₂}
use Rattle.std.proofs.Common.{sym, ◌∙◌, arith, filter, ◌==◌, ◌&&◌}
use Rattle.std.specs.List.{Contains, list_any}
use Rattle.std.proofs.lemmas.Bool.{false≢true, and_from, and_parts, eq-eqb, eqb-true, or_left, or_right}
use Rattle.xml_model.specs.Tree.{Entry}
use Rattle.xml_model.proofs.Each.{each_at, contains_here, contains_next}
use Rattle.xml_model.specs.Contexts.{Rises}

-- two tests that pass together are the same
pub same_test : (b c : Bool) → (b ≡ true → c ≡ true) → (c ≡ true → b ≡ true) → b ≡ c
same_test true c f g = sym (f refl)
same_test false true f g = g refl
same_test false false f g = refl

pub filter_same : (p q : Entry → Bool) (es : List Entry) → ((e : Entry) → Contains es e → p e ≡ q e) → filter p es ≡ filter q es
filter_same p q [] h = refl
filter_same p q (e ∷ es) h = ap₂ (λ b xs. cond b (e ∷ xs) xs) (h e (contains_here e es)) (filter_same p q es (λ x c. h x (contains_next e es x c)))

pub none_of : (P : Entry → Bool) (es : List Entry) → ((x : Entry) → Contains es x → P x ≡ true → ⊥) → filter P es ≡ []
none_of P [] h = refl
none_of P (x ∷ es) h = by (P x) refl (none_of P es (λ y c p. h y (contains_next x es y c) p))
  where
    by : (b : Bool) → P x ≡ b → filter P es ≡ [] → cond b (x ∷ filter P es) (filter P es) ≡ []
    by true p k = absurd (h x (contains_here x es) p)
    by false p k = k

-- where one node at an index passes a test, it alone is at the index and passes
pub one_here : (P : Entry → Bool) (at : ℕ) (es : List Entry) → Rises es → (y : Entry) → Contains es y → y.index ≡ at → P y ≡ true →
    filter (λ e. e.index == at && P e) es ≡ y ∷ []
one_here P at [] r y c p t = absurd (omega (arith, c.1))
one_here P at (x ∷ es) r y (zero, l, s) p t =
    let here : (x.index == at && P x) ≡ true = and_from _ _ (eq-eqb x.index at (ap (λ z. z.index) s ∙ p)) (ap P s ∙ t) in
    ap (λ b. cond b (x ∷ filter (λ e. e.index == at && P e) es) (filter (λ e. e.index == at && P e) es)) here
    ∙ ap₂ (λ z zs. z ∷ zs) s (none_of (λ e. e.index == at && P e) es
    (λ e c q. let later : x.index < e.index = each_at (λ z. x.index < z.index) es e r.0 c in
    omega (arith, later, ap (λ z. z.index) s, p, eqb-true e.index at (and_parts (e.index == at) (P e) q).0)))
one_here P at (x ∷ es) r y (suc n, l, s) p t =
    let c : Contains es y = (n, omega (arith, l), s) in
    let later : x.index < y.index = each_at (λ z. x.index < z.index) es y r.0 c in
    by (x.index == at) refl later (one_here P at es r.1 y c p t)
  where
    by : (b : Bool) → (x.index == at) ≡ b → x.index < y.index → filter (λ e. e.index == at && P e) es ≡ y ∷ [] →
        cond (b && P x) (x ∷ filter (λ e. e.index == at && P e) es) (filter (λ e. e.index == at && P e) es) ≡ y ∷ []
    by true e h i = absurd (omega (arith, h, p, eqb-true x.index at e))
    by false e h i = i

-- a filter by one test or another, where what passes the one is before what passes the other
pub split_pairs : (A B : Entry → Bool) (es : List Entry) → Rises es →
    ((y z : Entry) → Contains es y → Contains es z → A y ≡ true → B z ≡ true → y.index < z.index) →
    filter (λ e. A e || B e) es ≡ filter A es ++ filter B es
split_pairs A B [] r o = refl
split_pairs A B (x ∷ es) r o =
    by (A x) (B x) refl refl (split_pairs A B es r.1 (λ y z c d. o y z (contains_next x es y c) (contains_next x es z d)))
  where
    by : (p q : Bool) → A x ≡ p → B x ≡ q → filter (λ e. A e || B e) es ≡ filter A es ++ filter B es →
        cond (p || q) (x ∷ filter (λ e. A e || B e) es) (filter (λ e. A e || B e) es)
        ≡ cond p (x ∷ filter A es) (filter A es) ++ cond q (x ∷ filter B es) (filter B es)
    by true true h k i = absurd (omega (arith, o x x (contains_here x es) (contains_here x es) h k))
    by true false h k i = ap (λ xs. x ∷ xs) i
    by false true h k i =
        let none : filter A es ≡ [] = none_of A es (λ e c t. let later : x.index < e.index = each_at (λ z. x.index < z.index) es e r.0 c in omega
        (arith, later, o e x (contains_next x es e c) (contains_here x es) t k)) in
        ap (λ xs. x ∷ xs) (i ∙ ap (λ xs. xs ++ filter B es) none) ∙ sym (ap (λ xs. xs ++ x ∷ filter B es) none)
    by false false h k i = i

-- the same, where what passes the one is before an index and what passes the other is not
pub split_or : (A B : Entry → Bool) (n : ℕ) (es : List Entry) → Rises es → ((e : Entry) → Contains es e → A e ≡ true → e.index < n) →
    ((e : Entry) → Contains es e → B e ≡ true → n ≤ e.index) → filter (λ e. A e || B e) es ≡ filter A es ++ filter B es
split_or A B n es r a b = split_pairs A B es r (λ y z c d h k. omega (arith, a y c h, b z d k))

-- Whether one of a list passes.

pub record OneOf (P : Entry → Bool) (cs : List Entry) : Type 0 where
  pub entry : Entry
  pub there : Contains cs entry
  pub passes : P entry ≡ true

pub any_out : (P : Entry → Bool) (cs : List Entry) → list_any P cs ≡ true → OneOf P cs
any_out P [] h = absurd (false≢true h)
any_out P (c ∷ cs) h = by (P c) refl h (any_out P cs)
  where
    by : (b : Bool) → P c ≡ b → b || list_any P cs ≡ true → (list_any P cs ≡ true → OneOf P cs) → OneOf P (c ∷ cs)
    by true p k rec = record { entry = c; there = contains_here c cs; passes = p }
    by false p k rec = let o = rec k in record { entry = o.entry; there = contains_next c cs o.entry o.there; passes = o.passes }

pub any_in : (P : Entry → Bool) (cs : List Entry) (c : Entry) → Contains cs c → P c ≡ true → list_any P cs ≡ true
any_in P [] c k h = absurd (omega (arith, k.1))
any_in P (x ∷ cs) c (zero, l, s) h = or_left (P x) (list_any P cs) (ap P s ∙ h)
any_in P (x ∷ cs) c (suc n, l, s) h = or_right (P x) (list_any P cs) (any_in P cs c (n, omega (arith, l), s) h)

pub any_same : (P Q : Entry → Bool) (cs : List Entry) → ((c : Entry) → Contains cs c → P c ≡ Q c) → list_any P cs ≡ list_any Q cs
any_same P Q [] h = refl
any_same P Q (c ∷ cs) h = ap₂ (λ a b. a || b) (h c (contains_here c cs)) (any_same P Q cs (λ x k. h x (contains_next c cs x k)))
