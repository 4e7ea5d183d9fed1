-- The first and the last of the nodes that pass a test.
use Rattle.std.proofs.Common.{◌≡◌, zero, suc, ◌<◌, ◌≤◌, Bool, true, false, cond, List, [], ◌∷◌, ◌++◌, refl, ap, ◌∙◌, arith, filter, reverse, Some}
use Rattle.std.specs.List.{Contains}
use Rattle.std.proofs.lemmas.Grind.{reverse_onto}
use Rattle.xml_model.specs.Tree.{Entry}
use Rattle.xml_model.specs.declared.Node.{Node}
use Rattle.xml_model.proofs.Each.{each_at, contains_here, contains_next}
use Rattle.xml_model.specs.Contexts.{Rises}
use Rattle.xml_model.proofs.Filters.{none_of}
use Rattle.vtd_words.specs.Table.{node_of}
use Rattle.vtd_cursor.specs.Moves.{first_of, last_of}

pub first_is : (P : Entry → Bool) (es : List Entry) → Rises es → (y : Entry) → Contains es y → P y ≡ true → ((x : Entry) → Contains es x → P x ≡ true → y.index ≤ x.index) → first_of (filter P es) ≡ Some (node_of y)
first_is P [] r y c p l = absurd (omega (arith, c.1))
first_is P (x ∷ es) r y (zero, k, s) p l = ap (λ b. first_of (cond b (x ∷ filter P es) (filter P es))) (ap P s ∙ p) ∙ ap (λ e. Some (node_of e)) s
first_is P (x ∷ es) r y (suc n, k, s) p l =
    let c : Contains es y = (n, omega (arith, k), s) in
    let later : x.index < y.index = each_at (λ e. x.index < e.index) es y r.0 c in
    by (P x) refl later (first_is P es r.1 y c p (λ e d q. l e (contains_next x es e d) q))
  where
    by : (b : Bool) → P x ≡ b → x.index < y.index → first_of (filter P es) ≡ Some (node_of y) → first_of (cond b (x ∷ filter P es) (filter P es)) ≡ Some (node_of y)
    by true q a h = absurd (omega (arith, a, l x (contains_here x es) q))
    by false q a h = h

prefix_first : (a b : List Entry) (n : Node) → first_of a ≡ Some n → first_of (a ++ b) ≡ Some n
prefix_first [] b n h = absurd cc
prefix_first (x ∷ a) b n h = h

last_more : (x : Entry) (es : List Entry) (n : Node) → last_of es ≡ Some n → last_of (x ∷ es) ≡ Some n
last_more x es n h = ap first_of (reverse_onto es x []) ∙ prefix_first (reverse es) (x ∷ []) n h

pub last_is : (P : Entry → Bool) (es : List Entry) → Rises es → (y : Entry) → Contains es y → P y ≡ true → ((x : Entry) → Contains es x → P x ≡ true → x.index ≤ y.index) → last_of (filter P es) ≡ Some (node_of y)
last_is P [] r y c p l = absurd (omega (arith, c.1))
last_is P (x ∷ es) r y (zero, k, s) p l =
    let none : filter P es ≡ [] = none_of P es (λ e d q.
    let later : x.index < e.index = each_at (λ z. x.index < z.index) es e r.0 d in
    omega (arith, later, l e (contains_next x es e d) q, ap (λ z. z.index) s)) in
    ap (λ b. last_of (cond b (x ∷ filter P es) (filter P es))) (ap P s ∙ p) ∙ ap (λ fs. last_of (x ∷ fs)) none ∙ ap (λ e. Some (node_of e)) s
last_is P (x ∷ es) r y (suc n, k, s) p l =
    let c : Contains es y = (n, omega (arith, k), s) in
    by (P x) (last_is P es r.1 y c p (λ e d q. l e (contains_next x es e d) q))
  where
    by : (b : Bool) → last_of (filter P es) ≡ Some (node_of y) → last_of (cond b (x ∷ filter P es) (filter P es)) ≡ Some (node_of y)
    by true h = last_more x (filter P es) (node_of y) h
    by false h = h
