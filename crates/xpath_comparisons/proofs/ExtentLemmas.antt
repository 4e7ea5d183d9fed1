-- The least and the greatest number of a side decide a comparison by order.
use Rattle.std.proofs.Common.{◌≡◌, Bool, true, false, cond, List, [], ◌∷◌, Ok, Err, refl, sym, ◌∙◌, ap, arith}
use Rattle.std.specs.Prelude.{ℤ, ◌||◌, fold}
use Rattle.std.specs.List.{list_any}
use Rattle.std.specs.Int.RustNames.{int_lt, int_le}
use Rattle.std.proofs.lemmas.Int.{ints}
use Rattle.xpath_tokens.specs.declared.Comparison.{Comparison}
use Rattle.xpath_tokens.specs.declared.Comparison.TheVariants.{Equal, Unequal, Less, Greater, AtMost, AtLeast}
use Rattle.xpath_values.specs.declared.Number.{Number}
use Rattle.xpath_values.specs.declared.Number.TheVariants.{Nan, Millionths}
use Rattle.xpath_values.specs.declared.ValueFault.{ValueFault}
use Rattle.xpath_values.specs.Answers.{Answer, and_then, with}
use Rattle.xpath_values.specs.Numbers.{compare_numbers}
use Rattle.xpath_values.specs.Values.{some_pair, is_equality}
use Rattle.xpath_comparisons.specs.Extents.{lesser, greater, extended, extent_of, no_extent, compare_extents}
use Rattle.xpath_comparisons.specs.declared.extents.Extent.{Extent}

-- a relation of integers, of numbers
abbrev related : (ℤ → ℤ → Bool) → Number → Number → Bool
related r (Millionths x) (Millionths y) = r x y
related r x y = false

abbrev least : ℤ → ℤ → ℤ
least a b = cond (int_le a b) a b

abbrev most : ℤ → ℤ → ℤ
most a b = cond (int_le a b) b a

lt_least : (a b z : ℤ) → int_lt (least a b) z ≡ (int_lt a z || int_lt b z)
lt_least a b z = grind (arith, ints)

le_least : (a b z : ℤ) → int_le (least a b) z ≡ (int_le a z || int_le b z)
le_least a b z = grind (arith, ints)

lt_most : (z a b : ℤ) → int_lt z (most a b) ≡ (int_lt z a || int_lt z b)
lt_most z a b = grind (arith, ints)

le_most : (z a b : ℤ) → int_le z (most a b) ≡ (int_le z a || int_le z b)
le_most z a b = grind (arith, ints)

or_assoc : (a b c : Bool) → ((a || b) || c) ≡ (a || (b || c))
or_assoc true b c = refl
or_assoc false b c = refl

or_false : (a : Bool) → (a || false) ≡ a
or_false true = refl
or_false false = refl

-- a test that an operation joins
any_fold : (f : Number → Bool) (m : Number → Number → Number) → ((a b : Number) → f (m a b) ≡ (f a || f b)) → (xs : List Number) (x : Number)
    → f (fold m x xs) ≡ (f x || list_any f xs)
any_fold f m h [] x = sym (or_false (f x))
any_fold f m h (y ∷ ys) x = any_fold f m h ys (m x y) ∙ ap (λ b. b || list_any f ys) (h x y) ∙ or_assoc (f x) (f y) (list_any f ys)

least_fold : (xs : List Number) (e : Extent) → (fold extended e xs).least ≡ fold lesser e.least xs
least_fold [] e = refl
least_fold (x ∷ xs) e = least_fold xs (extended e x)

greatest_fold : (xs : List Number) (e : Extent) → (fold extended e xs).greatest ≡ fold greater e.greatest xs
greatest_fold [] e = refl
greatest_fold (x ∷ xs) e = greatest_fold xs (extended e x)

none_right : (r : ℤ → ℤ → Bool) (x : Number) → related r x Nan ≡ false
none_right r Nan = refl
none_right r (Millionths x) = refl

left_chosen : (r : ℤ → ℤ → Bool) (t : Bool) (a b z : ℤ) → related r (cond t (Millionths a) (Millionths b)) (Millionths z) ≡ r (cond t a b) z
left_chosen r true a b z = refl
left_chosen r false a b z = refl

right_chosen : (r : ℤ → ℤ → Bool) (t : Bool) (z a b : ℤ) → related r (Millionths z) (cond t (Millionths b) (Millionths a)) ≡ r z (cond t b a)
right_chosen r true z a b = refl
right_chosen r false z a b = refl

lesser_left : (r : ℤ → ℤ → Bool) → ((a b z : ℤ) → r (least a b) z ≡ (r a z || r b z)) → (a b y : Number)
    → related r (lesser a b) y ≡ (related r a y || related r b y)
lesser_left r h Nan b y = refl
lesser_left r h (Millionths a) Nan y = sym (or_false (related r (Millionths a) y))
lesser_left r h (Millionths a) (Millionths b) Nan = none_right r (lesser (Millionths a) (Millionths b))
lesser_left r h (Millionths a) (Millionths b) (Millionths z) = left_chosen r (int_le a b) a b z ∙ h a b z

greater_right : (r : ℤ → ℤ → Bool) → ((z a b : ℤ) → r z (most a b) ≡ (r z a || r z b)) → (x a b : Number)
    → related r x (greater a b) ≡ (related r x a || related r x b)
greater_right r h x Nan b = sym (ap (λ c. c || related r x b) (none_right r x))
greater_right r h x (Millionths a) Nan = sym (ap (λ c. related r x (Millionths a) || c) (none_right r x) ∙ or_false (related r x (Millionths a)))
greater_right r h Nan (Millionths a) (Millionths b) = refl
greater_right r h (Millionths z) (Millionths a) (Millionths b) = right_chosen r (int_le a b) z a b ∙ h z a b

any_same : (f g : Number → Bool) → ((x : Number) → f x ≡ g x) → (xs : List Number) → list_any f xs ≡ list_any g xs
any_same f g h [] = refl
any_same f g h (x ∷ xs) = ap (λ b. b || list_any f xs) (h x) ∙ ap (λ b. g x || b) (any_same f g h xs)

pair_same : (f g : Number → Number → Bool) → ((x y : Number) → f x y ≡ g x y) → (xs ys : List Number) → some_pair f xs ys ≡ some_pair g xs ys
pair_same f g h xs ys = any_same (λ x. list_any (f x) ys) (λ x. list_any (g x) ys) (λ x. any_same (f x) (g x) (h x) ys) xs

below : (r : ℤ → ℤ → Bool) → ((a b z : ℤ) → r (least a b) z ≡ (r a z || r b z)) → ((z a b : ℤ) → r z (most a b) ≡ (r z a || r z b))
    → (xs ys : List Number) → some_pair (related r) xs ys ≡ related r (extent_of xs).least (extent_of ys).greatest
below r h k xs ys =
    let m : Number = fold greater Nan ys in
    any_same (λ x. list_any (related r x) ys) (λ x. related r x m)
    (λ x. sym (any_fold (related r x) greater (greater_right r k x) ys Nan ∙ ap (λ b. b || list_any (related r x) ys) (none_right r x))) xs
    ∙ sym (any_fold (λ x. related r x m) lesser (λ a b. lesser_left r h a b m) xs Nan)
    ∙ ap (λ x. related r x m) (sym (least_fold xs no_extent)) ∙ ap (related r (extent_of xs).least) (sym (greatest_fold ys no_extent))

above : (r : ℤ → ℤ → Bool) → ((a b z : ℤ) → r (least a b) z ≡ (r a z || r b z)) → ((z a b : ℤ) → r z (most a b) ≡ (r z a || r z b))
    → (xs ys : List Number) → some_pair (λ x y. related r y x) xs ys ≡ related r (extent_of ys).least (extent_of xs).greatest
above r h k xs ys =
    let m : Number = fold lesser Nan ys in
    any_same (λ x. list_any (λ y. related r y x) ys) (λ x. related r m x)
    (λ x. sym (any_fold (λ y. related r y x) lesser (λ a b. lesser_left r h a b x) ys Nan)) xs
    ∙ sym (any_fold (related r m) greater (greater_right r k m) xs Nan ∙ ap (λ b. b || list_any (related r m) xs) (none_right r m))
    ∙ ap (related r m) (sym (greatest_fold xs no_extent)) ∙ ap (λ x. related r x (extent_of xs).greatest) (sym (least_fold ys no_extent))

less : (x y : Number) → compare_numbers Less x y ≡ related int_lt x y
less Nan Nan = refl
less Nan (Millionths y) = refl
less (Millionths x) Nan = refl
less (Millionths x) (Millionths y) = refl

at_most : (x y : Number) → compare_numbers AtMost x y ≡ related int_le x y
at_most Nan Nan = refl
at_most Nan (Millionths y) = refl
at_most (Millionths x) Nan = refl
at_most (Millionths x) (Millionths y) = refl

more : (x y : Number) → compare_numbers Greater x y ≡ related int_lt y x
more Nan Nan = refl
more Nan (Millionths y) = refl
more (Millionths x) Nan = refl
more (Millionths x) (Millionths y) = refl

at_least : (x y : Number) → compare_numbers AtLeast x y ≡ related int_le y x
at_least Nan Nan = refl
at_least Nan (Millionths y) = refl
at_least (Millionths x) Nan = refl
at_least (Millionths x) (Millionths y) = refl

pub order_found : (how : Comparison) → is_equality how ≡ false → (xs ys : List Number)
    → some_pair (compare_numbers how) xs ys ≡ compare_extents how (extent_of xs) (extent_of ys)
order_found Equal e xs ys = absurd (cc)
order_found Unequal e xs ys = absurd (cc)
order_found Less e xs ys =
    pair_same (compare_numbers Less) (related int_lt) less xs ys ∙ below int_lt lt_least lt_most xs ys ∙ sym (less (extent_of xs).least (extent_of ys).greatest)
order_found AtMost e xs ys =
    pair_same (compare_numbers AtMost) (related int_le) at_most xs ys ∙ below int_le le_least le_most xs ys ∙ sym (at_most (extent_of xs).least (extent_of ys).greatest)
order_found Greater e xs ys =
    pair_same (compare_numbers Greater) (λ x y. related int_lt y x) more xs ys ∙ above int_lt lt_least lt_most xs ys ∙ sym (more (extent_of xs).greatest (extent_of ys).least)
order_found AtLeast e xs ys =
    pair_same (compare_numbers AtLeast) (λ x y. related int_le y x) at_least xs ys ∙ above int_le le_least le_most xs ys ∙ sym (at_least (extent_of xs).greatest (extent_of ys).least)

pub extents_found : (how : Comparison) → is_equality how ≡ false → (a b : Answer (List Number)) (x y : Extent)
    → Ok x ≡ with a extent_of → Ok y ≡ with b extent_of
    → Ok (compare_extents how x y) ≡ and_then a (λ xs. with b (λ ys. some_pair (compare_numbers how) xs ys))
extents_found how e (Ok xs) (Ok ys) x y f g =
    let ex : x ≡ extent_of xs = cc in
    let ey : y ≡ extent_of ys = cc in
    ap Ok (ap (λ z. compare_extents how z y) ex ∙ ap (compare_extents how (extent_of xs)) ey ∙ sym (order_found how e xs ys))
extents_found how e (Ok xs) (Err k) x y f g = absurd (cc)
extents_found how e (Err k) b x y f g = absurd (cc)

pub left_fault : (how : Comparison) (a b : Answer (List Number)) (k : ValueFault) → Err k ≡ with a extent_of
    → Err k ≡ and_then a (λ xs. with b (λ ys. some_pair (compare_numbers how) xs ys))
left_fault how (Ok xs) b k f = absurd (cc)
left_fault how (Err e) b k f = cc

pub right_fault : (how : Comparison) (a b : Answer (List Number)) (k : ValueFault) (x : Extent) → Ok x ≡ with a extent_of → Err k ≡ with b extent_of
    → Err k ≡ and_then a (λ xs. with b (λ ys. some_pair (compare_numbers how) xs ys))
right_fault how (Ok xs) (Ok ys) k x f g = absurd (cc)
right_fault how (Ok xs) (Err e) k x f g = cc
right_fault how (Err e) b k x f g = absurd (cc)
