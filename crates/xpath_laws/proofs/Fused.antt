-- A step to all descendants and then to their children is one step to the descendants.
use Rattle.std.proofs.Common.{◌≡◌, ℕ, suc, length, Bool, true, false, cond, ◌&&◌, ◌||◌, ◌⊎◌, inl, inr, List, [], ◌∷◌, ◌++◌, filter, Option, Some, None, Ok}
use Rattle.std.proofs.Common.{refl, sym, ◌∙◌, ap, subst, arith}
use Rattle.std.specs.List.{flat_map}
use Rattle.xml_model.specs.declared.Axis.TheVariants.{Child, Descendant, DescendantOrSelf}
use Rattle.xml_model.specs.Tree.{Step, attribute, child, Path, Entry, step_eq, steps, steps_under, is_self, is_child, is_some_steps, ends_in_child, on_axis}
use Rattle.xml_model.specs.Tree.{axis_list}
use Rattle.xml_model.specs.Names.{passes}
use Rattle.xpath_tokens.specs.declared.StepAxis.TheVariants.{Known}
use Rattle.xpath_grammar.specs.declared.expr.StepTest.{StepTest}
use Rattle.xpath_grammar.specs.declared.expr.StepTest.TheVariants as written
use Rattle.xpath_grammar.specs.Tree.{Tree, Trees, none, more, stop, go}
use Rattle.xpath_values.specs.Answers.{Answer, and_then, with}
use Rattle.xpath_meaning.specs.Meets.{gathered}
use Rattle.xpath_values.specs.Values.{Meant}
use Rattle.xpath_meaning.specs.Context.{Context, is_in, in_order, stepped, test_of, is_passed}
use Rattle.xpath_meaning.specs.Meaning.{mean, filtered, kept, walked, one_if}
use Rattle.xpath_laws.specs.Fused.{Among, here, next, IsTree, AllAmong, IsPlain, ArePlain}
use Rattle.xpath_laws.proofs.InOrder.{self_steps, step_sym}

-- Truth values.

pub iff : (a b : Bool) → (a ≡ true → b ≡ true) → (b ≡ true → a ≡ true) → a ≡ b
iff true b f g = sym (f refl)
iff false true f g = g refl
iff false false f g = refl

pub both : (a b : Bool) → a ≡ true → b ≡ true → (a && b) ≡ true
both true b p q = q
both false b p q = p

pub left_of : (a b : Bool) → (a && b) ≡ true → a ≡ true
left_of true b h = refl
left_of false b h = h

pub right_of : (a b : Bool) → (a && b) ≡ true → b ≡ true
right_of true b h = h
right_of false b h = absurd cc

either_of : (a b : Bool) → (a || b) ≡ true → (a ≡ true) ⊎ (b ≡ true)
either_of true b h = inl refl
either_of false b h = inr h

or_first : (a b : Bool) → a ≡ true → (a || b) ≡ true
or_first true b h = refl
or_first false b h = absurd cc

or_second : (a b : Bool) → b ≡ true → (a || b) ≡ true
or_second true b h = refl
or_second false b h = h

-- Paths.

some_under : (P : Option Path → Bool) → P None ≡ false → (b : Bool) (o : Option Path) → P (steps_under b o) ≡ true → (b ≡ true) × (P o ≡ true)
some_under P n true o h = (refl, h)
some_under P n false o h = absurd (absurd_of (P None) n h)
  where
    absurd_of : (b : Bool) → b ≡ false → b ≡ true → ⊥
    absurd_of b p q = cc

step_trans : (s t u : Step) → step_eq s t ≡ true → step_eq t u ≡ true → step_eq s u ≡ true
step_trans (attribute i) (attribute j) (attribute k) h g = grind arith
step_trans (child i) (child j) (child k) h g = grind arith
step_trans (attribute i) (attribute j) (child k) h g = absurd cc
step_trans (attribute i) (child j) u h g = absurd cc
step_trans (child i) (attribute j) u h g = absurd cc
step_trans (child i) (child j) (attribute k) h g = absurd cc

-- at a node or below it
abbrev at_or_below : Option Path → Bool
at_or_below o = is_self o || is_some_steps o

-- from x down to y, and one step more
down : (x y d : Path) → at_or_below (steps x y) ≡ true → is_child (steps y d) ≡ true → is_some_steps (steps x d) ≡ true
down [] [] [] h k = absurd cc
down [] [] (u ∷ d) h k = refl
down [] (v ∷ y) [] h k = absurd cc
down [] (v ∷ y) (u ∷ d) h k = refl
down (s ∷ x) [] d h k = absurd cc
down (s ∷ x) (v ∷ y) [] h k = absurd cc
down (s ∷ x) (v ∷ y) (u ∷ d) h k =
    let h' = some_under at_or_below refl (step_eq s v) (steps x y) h in
    let k' = some_under is_child refl (step_eq v u) (steps y d) k in
    ap (λ b. is_some_steps (steps_under b (steps x d))) (step_trans s v u h'.0 k'.0) ∙ down x y d h'.1 k'.1

not_two : (u w : Step) (d : Path) → is_child (Some (u ∷ w ∷ d)) ≡ true → ⊥
not_two (attribute i) w d h = cc
not_two (child i) w d h = cc

-- what stands above d, and is not d, is at the node above d or above that
up : (x y d : Path) → is_some_steps (steps x d) ≡ true → is_child (steps y d) ≡ true → at_or_below (steps x y) ≡ true
up [] [] d h k = refl
up [] (v ∷ y) d h k = refl
up (s ∷ x) y [] h k = absurd cc
up (s ∷ []) [] (u ∷ []) h k = let e = (some_under is_some_steps refl (step_eq s u) (Some []) h).1 in absurd cc
up (s ∷ t ∷ x) [] (u ∷ []) h k = let e = (some_under is_some_steps refl (step_eq s u) None h).1 in absurd cc
up (s ∷ x) [] (u ∷ w ∷ d) h k = absurd (not_two u w d k)
up (s ∷ x) (v ∷ y) (u ∷ d) h k =
    let h' = some_under is_some_steps refl (step_eq s u) (steps x d) h in
    let k' = some_under is_child refl (step_eq v u) (steps y d) k in
    ap (λ b. at_or_below (steps_under b (steps x y))) (step_trans s u v h'.0 (step_sym u v ∙ k'.0)) ∙ up x y d h'.1 k'.1

below_nothing : (x : Path) → at_or_below (steps x []) ≡ true → is_self (steps x []) ≡ true
below_nothing [] h = refl
below_nothing (s ∷ x) h = h

ends_child : (y d : Path) → is_child (steps y d) ≡ true → ends_in_child d ≡ true
ends_child [] [] h = absurd cc
ends_child [] (attribute i ∷ []) h = absurd cc
ends_child [] (child i ∷ []) h = refl
ends_child [] (u ∷ w ∷ d) h = absurd (not_two u w d h)
ends_child (v ∷ y) [] h = absurd cc
ends_child (v ∷ []) (u ∷ []) h = let e = (some_under is_child refl (step_eq v u) (Some []) h).1 in absurd cc
ends_child (v ∷ t ∷ y) (u ∷ []) h = let e = (some_under is_child refl (step_eq v u) None h).1 in absurd cc
ends_child (v ∷ y) (u ∷ w ∷ d) h = ends_child y (w ∷ d) (some_under is_child refl (step_eq v u) (steps y (w ∷ d)) h).1

-- Nodes of lists.

first_or : (z x : Entry) (xs : List Entry) → Among z (x ∷ xs) → (z ≡ x) ⊎ Among z xs
first_or _ x xs (here _ _) = inl refl
first_or z x xs (next _ _ _ k) = inr k

pub among_filter : (p : Entry → Bool) (xs : List Entry) (z : Entry) → Among z (filter p xs) → Among z xs × (p z ≡ true)
among_filter p [] z m = elim m [ ]
among_filter p (x ∷ xs) z m = this (p x) refl (λ k. among_filter p xs z k) m
  where
    this : (b : Bool) → p x ≡ b → (Among z (filter p xs) → Among z xs × (p z ≡ true)) → Among z (cond b (x ∷ filter p xs) (filter p xs)) →
        Among z (x ∷ xs) × (p z ≡ true)
    this true e rest m = elim (first_or z x (filter p xs) m) [
      | inl q ↦ (subst (λ w. Among w (x ∷ xs)) (sym q) (here x xs), ap p q ∙ e)
      | inr k ↦ (let r = rest k in (next z x xs r.0, r.1))
    ]
    this false e rest k = let r = rest k in (next z x xs r.0, r.1)

pub filter_among : (p : Entry → Bool) (xs : List Entry) (z : Entry) → Among z xs → p z ≡ true → Among z (filter p xs)
filter_among p _ _ (here z xs) e = subst (λ b. Among z (cond b (z ∷ filter p xs) (filter p xs))) (sym e) (here z (filter p xs))
filter_among p _ z (next _ y xs m) e = this (p y) (filter_among p xs z m e)
  where
    this : (b : Bool) → Among z (filter p xs) → Among z (cond b (y ∷ filter p xs) (filter p xs))
    this true k = next z y (filter p xs) k
    this false k = k

among_front : (xs ys : List Entry) (z : Entry) → Among z xs → Among z (xs ++ ys)
among_front _ ys _ (here z xs) = here z (xs ++ ys)
among_front _ ys z (next _ y xs m) = next z y (xs ++ ys) (among_front xs ys z m)

among_back : (xs ys : List Entry) (z : Entry) → Among z ys → Among z (xs ++ ys)
among_back [] ys z m = m
among_back (x ∷ xs) ys z m = next z x (xs ++ ys) (among_back xs ys z m)

among_either : (xs ys : List Entry) (z : Entry) → Among z (xs ++ ys) → Among z xs ⊎ Among z ys
among_either [] ys z m = inr m
among_either (x ∷ xs) ys z m = this (λ k. among_either xs ys z k) m
  where
    this : (Among z (xs ++ ys) → Among z xs ⊎ Among z ys) → Among z (x ∷ (xs ++ ys)) → Among z (x ∷ xs) ⊎ Among z ys
    this rest m = elim (first_or z x (xs ++ ys) m) [
      | inl q ↦ inl (subst (λ w. Among w (x ∷ xs)) (sym q) (here x xs))
      | inr k ↦ elim (rest k) [ inl a ↦ inl (next z x xs a) | inr b ↦ inr b ]
    ]

-- a node in one of the lists that f gives
pub record InOne (f : Entry → List Entry) (xs : List Entry) (z : Entry) : Type 0 where
  pub from : Entry
  pub there : Among from xs
  pub inside : Among z (f from)

pub among_flat : (f : Entry → List Entry) (xs : List Entry) (z : Entry) → Among z (flat_map f xs) → InOne f xs z
among_flat f [] z m = elim m [ ]
among_flat f (x ∷ xs) z m = elim (among_either (f x) (flat_map f xs) z m) [
  | inl a ↦ record { from = x; there = here x xs; inside = a }
  | inr b ↦ (let r = among_flat f xs z b in record { from = r.from; there = next r.from x xs r.there; inside = r.inside })
]

pub flat_among : (f : Entry → List Entry) (xs : List Entry) (x z : Entry) → Among x xs → Among z (f x) → Among z (flat_map f xs)
flat_among f _ _ z (here x xs) k = among_front (f x) (flat_map f xs) z k
flat_among f _ x z (next _ y xs m) k = among_back (f y) (flat_map f xs) z (flat_among f xs x z m k)

-- a node of a list with the path of d
pub record Found (xs : List Entry) (d : Entry) : Type 0 where
  pub node : Entry
  pub there : Among node xs
  pub same : is_self (steps node.path d.path) ≡ true

pub found : (xs : List Entry) (d : Entry) → is_in xs d ≡ true → Found xs d
found [] d h = absurd cc
found (x ∷ xs) d h = elim (either_of (is_self (steps x.path d.path)) (is_in xs d) h) [
  | inl a ↦ record { node = x; there = here x xs; same = a }
  | inr b ↦ (let r = found xs d b in record { node = r.node; there = next r.node x xs r.there; same = r.same })
]

pub is_found : (xs : List Entry) (x : Entry) → Among x xs → is_in xs x ≡ true
is_found _ _ (here x xs) = or_first _ _ (self_steps x.path)
is_found _ x (next _ y xs m) = or_second (is_self (steps y.path x.path)) _ (is_found xs x m)

pub filter_alike : (p q : Entry → Bool) (xs : List Entry) → ((d : Entry) → Among d xs → p d ≡ q d) → filter p xs ≡ filter q xs
filter_alike p q [] h = refl
filter_alike p q (x ∷ xs) h =
    ap (λ b. cond b (x ∷ filter p xs) (filter p xs)) (h x (here x xs)) ∙ ap (λ r. cond (q x) (x ∷ r) r) (filter_alike p q xs (λ d m. h d (next d x xs m)))

-- Steps.

abbrev found_on : (Path → Path → Bool) → (Entry → Bool) → List Entry → Entry → List Entry
found_on axis test document x = filter test (filter (λ e. axis x.path e.path) document)

abbrev downward : Path → Path → Bool
downward p q = is_some_steps (steps p q) && ends_in_child q

abbrev itself_or_downward : Path → Path → Bool
itself_or_downward p q = is_self (steps p q) || downward p q

abbrev one_down : Path → Path → Bool
one_down p q = is_child (steps p q)

-- a node that a step finds
on_step : (axis : Path → Path → Bool) (test : Entry → Bool) (document : List Entry) (x z : Entry) → Among z (found_on axis test document x) →
    Among z document × (axis x.path z.path ≡ true) × (test z ≡ true)
on_step axis test document x z m =
    let r = among_filter test (filter (λ e. axis x.path e.path) document) z m in
    let q = among_filter (λ e. axis x.path e.path) document z r.0 in (q.0, q.1, r.1)

step_on : (axis : Path → Path → Bool) (test : Entry → Bool) (document : List Entry) (x z : Entry) → Among z document → axis x.path z.path ≡ true →
    test z ≡ true → Among z (found_on axis test document x)
step_on axis test document x z m a t = filter_among test (filter (λ e. axis x.path e.path) document) z (filter_among (λ e. axis x.path e.path) document z m a) t

abbrev middle : List Entry → List Entry → List Entry
middle document es = filter (is_in (flat_map (found_on itself_or_downward (λ e. true) document) es)) document

two_one : (document es : List Entry) (test : Entry → Bool) → IsTree document → (d : Entry) → Among d document →
    is_in (flat_map (found_on one_down test document) (middle document es)) d ≡ true → is_in (flat_map (found_on downward test document) es) d ≡ true
two_one document es test t d m h =
    let f = found (flat_map (found_on one_down test document) (middle document es)) d h in
    let o = among_flat (found_on one_down test document) (middle document es) f.node f.there in
    let s = on_step one_down test document o.from f.node o.inside in
    let same : f.node ≡ d = t.one f.node d s.0 m f.same in
    let y = o.from in
    let yd : is_child (steps y.path d.path) ≡ true = subst (λ z. is_child (steps y.path z.path) ≡ true) same s.1 in
    let pd : test d ≡ true = subst (λ z. test z ≡ true) same s.2 in
    let r = among_filter (is_in (flat_map (found_on itself_or_downward (λ e. true) document) es)) document y o.there in
    let g = found (flat_map (found_on itself_or_downward (λ e. true) document) es) y r.1 in
    let p = among_flat (found_on itself_or_downward (λ e. true) document) es g.node g.there in
    let q = on_step itself_or_downward (λ e. true) document p.from g.node p.inside in
    let alike : g.node ≡ y = t.one g.node y q.0 r.0 g.same in
    let x = p.from in
    let xy : itself_or_downward x.path y.path ≡ true = subst (λ z. itself_or_downward x.path z.path ≡ true) alike q.1 in
    let at : at_or_below (steps x.path y.path) ≡ true = elim (either_of (is_self (steps x.path y.path)) (downward x.path y.path) xy) [
      | inl a ↦ or_first _ _ a
      | inr b ↦ or_second (is_self (steps x.path y.path)) _ (left_of _ _ b)
    ] in
    let xd : downward x.path d.path ≡ true = both _ _ (down x.path y.path d.path at yd) (ends_child y.path d.path yd) in
    is_found (flat_map (found_on downward test document) es)
    d (flat_among (found_on downward test document) es x d p.there (step_on downward test document x d m xd pd))

one_two : (document es : List Entry) (test : Entry → Bool) → IsTree document → (d : Entry) → Among d document →
    is_in (flat_map (found_on downward test document) es) d ≡ true → is_in (flat_map (found_on one_down test document) (middle document es)) d ≡ true
one_two document es test t d m h =
    let f = found (flat_map (found_on downward test document) es) d h in
    let o = among_flat (found_on downward test document) es f.node f.there in
    let s = on_step downward test document o.from f.node o.inside in
    let same : f.node ≡ d = t.one f.node d s.0 m f.same in
    let x = o.from in
    let xd : downward x.path d.path ≡ true = subst (λ z. downward x.path z.path ≡ true) same s.1 in
    let pd : test d ≡ true = subst (λ z. test z ≡ true) same s.2 in
    let k = t.holders d m (right_of (is_some_steps (steps x.path d.path)) _ xd) in
    let y = k.holder in
    let at = up x.path y.path d.path (left_of _ _ xd) k.above in
    let xy : itself_or_downward x.path y.path ≡ true = elim (t.bare y d k.there m k.above) [
      | inl a ↦ or_first _ _ (subst (λ q. is_self (steps x.path q) ≡ true) (sym a)
          (below_nothing x.path (subst (λ q. at_or_below (steps x.path q) ≡ true) a at)))
      | inr b ↦ elim (either_of (is_self (steps x.path y.path)) (is_some_steps (steps x.path y.path)) at) [
        | inl c ↦ or_first _ _ c
        | inr e ↦ or_second (is_self (steps x.path y.path)) _ (both _ _ e b)
      ]
    ] in
    let first = flat_among (found_on itself_or_downward (λ e. true) document) es x y o.there
    (step_on itself_or_downward (λ e. true) document x y k.there xy refl) in
    let mid = filter_among (is_in (flat_map (found_on itself_or_downward (λ e. true) document) es)) document y k.there (is_found _ y first) in
    is_found (flat_map (found_on one_down test document) (middle document es))
    d (flat_among (found_on one_down test document) (middle document es) y d mid (step_on one_down test document y d m k.above pd))

pub gathered_plain : (f : Entry → List Entry) (es : List Entry) → gathered (λ e. Ok (f e)) es ≡ Ok (flat_map f es)
gathered_plain f [] = refl
gathered_plain f (e ∷ es) = ap (λ r. with r (λ zs. f e ++ zs)) (gathered_plain f es)

gathered_alike : (f g : Entry → Answer (List Entry)) (xs : List Entry) → ((x : Entry) → f x ≡ g x) → gathered f xs ≡ gathered g xs
gathered_alike f g [] h = refl
gathered_alike f g (x ∷ xs) h = ap (λ m. and_then m (λ ys. with (gathered f xs) (λ zs. ys ++ zs))) (h x)
    ∙ ap (λ n. and_then (g x) (λ ys. with n (λ zs. ys ++ zs))) (gathered_alike f g xs h)

-- descendant-or-self::node()/child::T is descendant::T
pub fused : (c : Context) (test : StepTest) (es : List Entry) → IsTree c.document →
    walked (go (Known DescendantOrSelf) written.Node none (go (Known Child) test none stop)) c es ≡ walked (go (Known Descendant) test none stop) c es
unfolding stepped in_order axis_list on_axis passes
fused c test es t =
    let doc = c.document in
    let p : Entry → Bool = passes (test_of c.bindings test) false in
    ap (λ r. and_then (with r (in_order doc)) (walked (go (Known Child) test none stop) c)) (gathered_plain (found_on itself_or_downward (λ e. true) doc) es)
    ∙ ap (λ r. and_then (with r (in_order doc)) (λ zs. Ok zs)) (gathered_plain (found_on one_down p doc) (middle doc es))
    ∙ ap Ok (filter_alike (is_in (flat_map (found_on one_down p doc) (middle doc es))) (is_in (flat_map (found_on downward p doc) es)) doc
    (λ d m. iff _ _ (two_one doc es p t d m) (one_two doc es p t d m)))
    ∙ sym (ap (λ r. and_then (with r (in_order doc)) (λ zs. Ok zs)) (gathered_plain (found_on downward p doc) es))

-- Predicates.

all_of : (xs document : List Entry) → ((z : Entry) → Among z xs → Among z document) → AllAmong xs document
all_of [] document f = tt
all_of (x ∷ xs) document f = (f x (here x xs), all_of xs document (λ z m. f z (next z x xs m)))

pub filter_twice : (p q : Entry → Bool) (xs : List Entry) → filter q (filter p xs) ≡ filter (λ e. p e && q e) xs
filter_twice p q [] = refl
filter_twice p q (x ∷ xs) = this (p x) (filter_twice p q xs)
  where
    this : (b : Bool) → filter q (filter p xs) ≡ filter (λ e. p e && q e) xs →
        filter q (cond b (x ∷ filter p xs) (filter p xs)) ≡ cond (b && q x) (x ∷ filter (λ e. p e && q e) xs) (filter (λ e. p e && q e) xs)
    this true e = ap (λ r. cond (q x) (x ∷ r) r) e
    this false e = e

pub one_more : (b : Bool) (e : Entry) (zs : List Entry) → one_if b e ++ zs ≡ cond b (e ∷ zs) zs
one_more true e zs = refl
one_more false e zs = refl

-- a plain predicate leaves what q passes
pub kept_plain : (c : Context) (f : Context → Answer Meant) (q : Entry → Bool) (n p : ℕ) (xs : List Entry) → IsPlain c f q → AllAmong xs c.document →
    kept f c n p xs ≡ Ok (filter q xs)
kept_plain c f q n p [] k a = refl
kept_plain c f q n p (e ∷ xs) k a =
    let s = k.passes e a.0 p n in
    ap (λ m. and_then m (λ v. with (kept f c n (suc p) xs) (λ zs. one_if (is_passed v p) e ++ zs))) s.is
    ∙ ap (λ b. with (kept f c n (suc p) xs) (λ zs. one_if b e ++ zs)) s.passed
    ∙ ap (λ m. with m (λ zs. one_if (q e) e ++ zs)) (kept_plain c f q n (suc p) xs k a.1)
    ∙ ap Ok (one_more (q e) e (filter q xs))

pub one_plain : (c : Context) (p : Tree) (q : Entry → Bool) → IsPlain c (mean p) q → ArePlain c (more p none) q
one_plain c p q k = record { leave = λ xs a. ap (λ m. and_then m (λ zs. Ok zs)) (kept_plain c (mean p) q (length xs) 1 xs k a) }

-- descendant-or-self::node()/child::T[p] is descendant::T[p], where p has no fault and does not ask for the position
pub fused_plain : (c : Context) (test : StepTest) (ps : Trees) (q : Entry → Bool) (es : List Entry) → IsTree c.document → ArePlain c ps q →
    walked (go (Known DescendantOrSelf) written.Node none (go (Known Child) test ps stop)) c es ≡ walked (go (Known Descendant) test ps stop) c es
unfolding stepped in_order axis_list on_axis passes
fused_plain c test ps q es t k =
    let doc = c.document in
    let p : Entry → Bool = passes (test_of c.bindings test) false in
    let r : Entry → Bool = λ e. p e && q e in
    let of : (axis : Path → Path → Bool) (x : Entry) → filtered ps c (found_on axis p doc x) ≡ Ok (found_on axis r doc x) =
    λ axis x. k.leave (found_on axis p doc x) (all_of (found_on axis p doc x) doc (λ z m. (on_step axis p doc x z m).0))
    ∙ ap Ok (filter_twice p q (filter (λ e. axis x.path e.path) doc)) in
    ap (λ m. and_then (with m (in_order doc)) (walked (go (Known Child) test ps stop) c)) (gathered_plain (found_on itself_or_downward (λ e. true) doc) es)
    ∙ ap (λ m. and_then (with m (in_order doc)) (λ zs. Ok zs)) (gathered_alike _ _ (middle doc es) (of one_down)
    ∙ gathered_plain (found_on one_down r doc) (middle doc es))
    ∙ ap Ok (filter_alike (is_in (flat_map (found_on one_down r doc) (middle doc es))) (is_in (flat_map (found_on downward r doc) es)) doc
    (λ d m. iff _ _ (two_one doc es r t d m) (one_two doc es r t d m)))
    ∙ sym (ap (λ m. and_then (with m (in_order doc)) (λ zs. Ok zs)) (gathered_alike _ _ es (of downward) ∙ gathered_plain (found_on downward r doc) es))
