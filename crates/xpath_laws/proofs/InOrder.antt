-- What is in document order already stays as it is.
use Rattle.std.proofs.Common.{◌≡◌, ℕ, Bool, true, false, not, cond, ◌&&◌, ◌||◌, List, [], ◌∷◌, filter, ◌==◌, Option, refl, sym, ◌∙◌, ap, arith}
use Rattle.std.specs.List.{list_all}
use Rattle.xml_model.specs.Tree.{Step, attribute, child, Path, Entry, step_eq, steps, steps_under, is_self}
use Rattle.xpath_meaning.specs.Context.{is_in, in_order}
use Rattle.xpath_laws.specs.Orders.{IsPart, end, take, skip, AreApart}

eq_sym : (i j : ℕ) → (i == j) ≡ (j == i)
eq_sym i j = grind arith

pub step_sym : (s t : Step) → step_eq s t ≡ step_eq t s
step_sym (attribute i) (attribute j) = eq_sym i j
step_sym (child i) (child j) = eq_sym i j
step_sym (attribute i) (child j) = refl
step_sym (child i) (attribute j) = refl

step_self : (s : Step) → step_eq s s ≡ true
step_self (attribute i) = grind arith
step_self (child i) = grind arith

self_under : (b : Bool) (o : Option Path) → is_self (steps_under b o) ≡ (b && is_self o)
self_under true o = refl
self_under false o = refl

pub self_steps : (p : Path) → is_self (steps p p) ≡ true
self_steps [] = refl
self_steps (s ∷ p) = self_under (step_eq s s) (steps p p) ∙ ap (λ b. b && is_self (steps p p)) (step_self s) ∙ self_steps p

sym_steps : (p q : Path) → is_self (steps p q) ≡ is_self (steps q p)
sym_steps [] [] = refl
sym_steps [] (t ∷ q) = refl
sym_steps (s ∷ p) [] = refl
sym_steps (s ∷ p) (t ∷ q) =
    self_under (step_eq s t) (steps p q) ∙ ap (λ b. b && is_self (steps p q)) (step_sym s t) ∙ ap (λ b. step_eq t s && b) (sym_steps p q)
    ∙ sym (self_under (step_eq t s) (steps q p))

not_true : (b : Bool) → not b ≡ true → b ≡ false
not_true true h = absurd cc
not_true false h = refl

and_left : (a b : Bool) → (a && b) ≡ true → a ≡ true
and_left true b h = refl
and_left false b h = absurd cc

and_right : (a b : Bool) → (a && b) ≡ true → b ≡ true
and_right true b h = h
and_right false b h = absurd cc

-- a node that is apart from all of a list is apart from all of a part of it
apart_part : (y : Entry) (xs ys : List Entry) → IsPart xs ys → list_all (λ z. not (is_self (steps y.path z.path))) ys ≡ true → is_in xs y ≡ false
apart_part y _ _ (end ys) h = refl
apart_part y _ _ (take x xs ys k) h =
    ap (λ b. b || is_in xs y) (sym_steps x.path y.path ∙ not_true _ (and_left _ _ h))
    ∙ apart_part y xs ys k (and_right (not (is_self (steps y.path x.path))) _ h)
apart_part y _ _ (skip z xs ys k) h = apart_part y xs ys k (and_right (not (is_self (steps y.path z.path))) _ h)

-- what is apart from a node does not ask for it
without : (x : Entry) (xs ys : List Entry) → list_all (λ z. not (is_self (steps x.path z.path))) ys ≡ true → filter (is_in (x ∷ xs)) ys ≡ filter (is_in xs) ys
without x xs [] h = refl
without x xs (y ∷ ys) h =
    ap (λ b. cond (b || is_in xs y) (y ∷ filter (is_in (x ∷ xs)) ys) (filter (is_in (x ∷ xs)) ys)) (not_true _ (and_left _ _ h))
    ∙ ap (λ r. cond (is_in xs y) (y ∷ r) r) (without x xs ys (and_right (not (is_self (steps x.path y.path))) _ h))

none_in : (ys : List Entry) → filter (is_in []) ys ≡ []
none_in [] = refl
none_in (y ∷ ys) = none_in ys

part_stays : (xs ys : List Entry) → IsPart xs ys → AreApart ys → filter (is_in xs) ys ≡ xs
part_stays _ _ (end ys) a = none_in ys
part_stays _ _ (take x xs ys k) a =
    ap (λ b. cond (b || is_in xs x) (x ∷ filter (is_in (x ∷ xs)) ys) (filter (is_in (x ∷ xs)) ys)) (self_steps x.path)
    ∙ ap (λ r. x ∷ r) (without x xs ys a.0 ∙ part_stays xs ys k a.1)
part_stays _ _ (skip y xs ys k) a =
    ap (λ b. cond b (y ∷ filter (is_in xs) ys) (filter (is_in xs) ys)) (apart_part y xs ys k a.0) ∙ part_stays xs ys k a.1

pub stays : (document xs : List Entry) → IsPart xs document → AreApart document → in_order document xs ≡ xs
unfolding in_order
stays document xs k a = part_stays xs document k a
