-- Nodes by the index of their first record: at most one begins at an index.
use Rattle.std.proofs.Common.{◌≡◌, ℕ, zero, suc, ◌<◌, Bool, true, false, cond, ◌==◌, List, [], ◌∷◌, refl, ap, sym, ◌∙◌, arith, Some}
use Rattle.std.proofs.Common.{is_some, find}
use Rattle.std.specs.List.{Contains}
use Rattle.std.proofs.lemmas.Bool.{eq-eqb, eqb-true}
use Rattle.std.proofs.lemmas.Option.{none-some}
use Rattle.xml_model.specs.Contexts.{Rises}
use Rattle.xml_model.specs.Nest.{Forest}
use Rattle.xml_model.specs.Tree.{Entry, all, at_index, kind_of}
use Rattle.xml_model.specs.Laws.{IsNode}
use Rattle.xml_model.proofs.Each.{Pairs, each_at, rising_pairs}
use Rattle.xml_model.proofs.Rise.{index, indexes_rise}

rises_of : (es : List Entry) → Pairs (λ x y. x.index < y.index) es → Rises es
rises_of [] h = tt
rises_of (e ∷ es) h = (h.0, rises_of es h.1)

pub all_rise : (nest : Forest) (first : ℕ) → Rises (all nest first)
all_rise nest first = rises_of (all nest first) (rising_pairs index 0 _ (all nest first) (indexes_rise nest first))

one_in : (es : List Entry) → Rises es → (x y : Entry) → Contains es x → Contains es y → x.index ≡ y.index → x ≡ y
one_in [] r x y c d h = absurd (omega (arith, c.1))
one_in (e ∷ es) r x y (zero, l, s) (zero, m, t) h = sym s ∙ t
one_in (e ∷ es) r x y (zero, l, s) (suc k, m, t) h =
    let later : e.index < y.index = each_at (λ z. e.index < z.index) es y r.0 (k, omega (arith, m), t) in
    absurd (omega (arith, later, h, ap (λ z. z.index) s))
one_in (e ∷ es) r x y (suc k, l, s) (zero, m, t) h =
    let later : e.index < x.index = each_at (λ z. e.index < z.index) es x r.0 (k, omega (arith, l), s) in
    absurd (omega (arith, later, h, ap (λ z. z.index) t))
one_in (e ∷ es) r x y (suc j, l, s) (suc k, m, t) h = one_in es r.1 x y (j, omega (arith, l), s) (k, omega (arith, m), t) h

-- the law: at most one node begins at an index
pub one_node : (nest : Forest) (first : ℕ) (x y : Entry) → IsNode nest first x → IsNode nest first y → x.index ≡ y.index → x ≡ y
one_node nest first x y c d h = one_in (all nest first) (all_rise nest first) x y c d h

pub one_kind : (nest : Forest) (first : ℕ) (x y : Entry) → IsNode nest first x → IsNode nest first y → x.index ≡ y.index → kind_of x.what ≡ kind_of y.what
one_kind nest first x y c d h = ap (λ e. kind_of e.what) (one_node nest first x y c d h)

-- The node that is found at an index.

find_contains : (n : ℕ) (es : List Entry) (e : Entry) → find (λ x. x.index == n) es ≡ Some e → Contains es e × (e.index ≡ n)
find_contains n [] e k = absurd (none-some _ k)
find_contains n (x ∷ es) e k = by (x.index == n) refl k (λ g. find_contains n es e g)
  where
    by : (b : Bool) → (x.index == n) ≡ b → cond b (Some x) (find (λ x. x.index == n) es) ≡ Some e →
        (find (λ x. x.index == n) es ≡ Some e → Contains es e × (e.index ≡ n)) → Contains (x ∷ es) e × (e.index ≡ n)
    by true t k rec =
        let same : x ≡ e = cc in
        let there : e.index ≡ n = ap (λ y. y.index) (sym same) ∙ eqb-true x.index n t in
        ((0, (omega arith), same), there)
    by false t k rec =
        let r = rec k in
        ((suc r.0.0, omega (arith, r.0.1), r.0.2), r.1)

pub index_found : (n : ℕ) (es : List Entry) (e : Entry) → at_index n es ≡ Some e → Contains es e × (e.index ≡ n)
unfolding at_index
index_found n es e h = find_contains n es e h

has_index : (n : ℕ) (es : List Entry) (e : Entry) → Contains es e → e.index ≡ n → is_some (find (λ x. x.index == n) es) ≡ true
has_index n [] e c h = absurd (omega (arith, c.1))
has_index n (x ∷ es) e (zero, l, s) h = ap (λ b. is_some (cond b (Some x) (find (λ x. x.index == n) es))) (eq-eqb x.index n (ap (λ y. y.index) s ∙ h))
has_index n (x ∷ es) e (suc k, l, s) h = either (x.index == n) (has_index n es e (k, omega (arith, l), s) h)
  where
    either : (b : Bool) → is_some (find (λ x. x.index == n) es) ≡ true → is_some (cond b (Some x) (find (λ x. x.index == n) es)) ≡ true
    either true r = refl
    either false r = r

pub is_there : (n : ℕ) (es : List Entry) (e : Entry) → Contains es e → e.index ≡ n → is_some (at_index n es) ≡ true
unfolding at_index
is_there n es e c h = has_index n es e c h
