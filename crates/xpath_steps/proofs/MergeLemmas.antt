-- Two lists of nodes in document order, made one.
use Rattle.std.proofs.Common.{◌≡◌, ℕ, zero, suc, ◌+◌, ◌<◌, ◌≤◌, Bool, true, false, cond, ◌&&◌, ◌||◌, ◌==◌, List, [], ◌∷◌, ◌++◌, length, drop, map}
use Rattle.std.proofs.Common.{refl, ap, ap₂, sym, ◌∙◌, arith, filter, nat_le, Some, None}
use Rattle.std.specs.List.{AllByRecursion as Each, slice_index_or}
use Rattle.std.proofs.lemmas.Bool.{false≢true, eq-eqb, eqb-true, le-leb, lt-leb}
use Rattle.std.proofs.lemmas.List.{drop_all}
use Rattle.xml_model.specs.declared.Axis.{Axis}
use Rattle.xml_model.specs.declared.Axis.TheVariants as axes
use Rattle.xml_model.specs.declared.Kind.TheVariants as kinds
use Rattle.xml_model.specs.declared.Node.{Node}
use Rattle.xml_model.specs.Contexts.{union_list, AreContexts, Rises}
use Rattle.xml_model.specs.Laws.{by_indexes, is_child_thing, is_under}
use Rattle.xml_model.specs.Names.{Test, passes}
use Rattle.xml_model.specs.Nest.{Forest, is_nest}
use Rattle.xml_model.specs.Tree.{Entry, all}
use Rattle.xml_model.proofs.Contexts.{any_by_indexes, union_by_indexes}
use Rattle.xml_model.proofs.Filters.{filter_same, same_test}
use Rattle.vtd_words.specs.Table.{node_of}
use Rattle.xpath_axes.specs.Tests.{is_attribute_axis}
use Rattle.xpath_axes.proofs.AxisLemmas.{filter_filter}
use Rattle.xpath_steps.specs.Merges.{is_first, IsStep}
use Rattle.xpath_steps.specs.Steps.{step_nodes}

-- What is left of a list.

pub drop_here : (xs : List Node) (i : ℕ) (d : Node) → i < length xs → drop i xs ≡ slice_index_or xs i d ∷ drop (i + 1) xs
drop_here [] i d h = absurd (omega (arith, h))
drop_here (x ∷ xs) zero d h = refl
drop_here (x ∷ xs) (suc i) d h = drop_here xs i d (omega (arith, h))
    ∙ ap (λ n. slice_index_or xs i d ∷ drop n (x ∷ xs)) (let z : suc (i + 1) ≡ suc i + 1 = omega arith in z)

pub none_left : (xs : List Node) (i : ℕ) → length xs ≤ i → drop i xs ≡ []
none_left xs i h = drop_all i xs h

-- The first node of two lists.

abbrev pub either : (Entry → Bool) → (Entry → Bool) → List Entry → List Node
either P Q es = map node_of (filter (λ e. P e || Q e) es)

-- a node before some lists or not
abbrev pub with_first : Bool → Node → List Node → List Node
with_first b m ms = cond b (m ∷ ms) ms

-- what two lists begin with
pub record Begins (P Q : Entry → Bool) (one other whole : List Node) (a b : Bool) : Type 0 where
  pub node : Node
  pub rest : List Entry
  pub rises : Rises rest
  pub first : one ≡ with_first a node (map node_of (filter P rest))
  pub second : other ≡ with_first b node (map node_of (filter Q rest))
  pub found : whole ≡ with_first (a || b) node (either P Q rest)
  pub end : (a || b) ≡ false → either P Q rest ≡ []

later : (x : Entry) (P : Entry → Bool) (es : List Entry) → Each (λ y. x.index < y.index) es → (m : Node) (ms : List Node) →
    map node_of (filter P es) ≡ m ∷ ms → x.index < m.at
later x P [] h m ms e = absurd cc
later x P (y ∷ es) h m ms e = by (later x P es h.1 m ms) (P y) e
  where
    by : (map node_of (filter P es) ≡ m ∷ ms → x.index < m.at) → (b : Bool) → map node_of (cond b (y ∷ filter P es) (filter P es)) ≡ m ∷ ms → x.index < m.at
    by rec true f = let same : node_of y ≡ m = cc in omega (arith, h.0, ap (λ (n : Node). n.at) same)
    by rec false f = rec f

-- a node comes before all that are later
before_later : (x : Entry) (P : Entry → Bool) (es : List Entry) → Each (λ y. x.index < y.index) es → (xs ms : List Node) → map node_of (filter P es) ≡ ms →
    (is_first (node_of x ∷ xs) ms ≡ true) × (is_first ms (node_of x ∷ xs) ≡ false)
before_later x P es h xs [] e = (refl, refl)
before_later x P es h xs (m ∷ ms) e =
    let l : x.index < m.at = later x P es h m ms e in (le-leb x.index m.at (omega (arith, l)), lt-leb m.at x.index l)

made : (P Q : Entry → Bool) (x : Entry) (es : List Entry) → Rises es → (a b c d : Bool) → a ≡ c → b ≡ d → (c || d) ≡ true →
    Begins P Q (with_first c (node_of x) (map node_of (filter P es))) (with_first d (node_of x) (map node_of (filter Q es))) (node_of x ∷ either P Q es) a b
made P Q x es r a b c d h k t = record {
  node = node_of x;
  rest = es;
  rises = r;
  first = ap (λ u. with_first u (node_of x) (map node_of (filter P es))) (sym h);
  second = ap (λ u. with_first u (node_of x) (map node_of (filter Q es))) (sym k);
  found = ap (λ u. with_first u (node_of x) (either P Q es)) (sym t ∙ ap₂ (λ u v. u || v) (sym h) (sym k));
  end = λ z. absurd (false≢true (sym z ∙ ap₂ (λ u v. u || v) h k ∙ t));
}

pub begins : (P Q : Entry → Bool) (es : List Entry) → Rises es → (a b : Bool) →
    a ≡ is_first (map node_of (filter P es)) (map node_of (filter Q es)) → b ≡ is_first (map node_of (filter Q es)) (map node_of (filter P es)) →
    Begins P Q (map node_of (filter P es)) (map node_of (filter Q es)) (either P Q es) a b
begins P Q [] r a b h k = record {
  node = record { kind = kinds.Root; at = 0 };
  rest = [];
  rises = tt;
  first = ap (λ t. with_first t (record { kind = kinds.Root; at = 0 }) []) (sym h);
  second = ap (λ t. with_first t (record { kind = kinds.Root; at = 0 }) []) (sym k);
  found = ap₂ (λ t u. with_first (t || u) (record { kind = kinds.Root; at = 0 }) []) (sym h) (sym k);
  end = λ z. refl;
}
begins P Q (x ∷ es) r a b h k = by (P x) (Q x) (begins P Q es r.1 a b) h k
  where
    by : (p q : Bool) →
        (a ≡ is_first (map node_of (filter P es)) (map node_of (filter Q es)) → b ≡ is_first (map node_of (filter Q es)) (map node_of (filter P es)) →
        Begins P Q (map node_of (filter P es)) (map node_of (filter Q es)) (either P Q es) a b) →
        a ≡ is_first (map node_of (cond p (x ∷ filter P es) (filter P es))) (map node_of (cond q (x ∷ filter Q es) (filter Q es))) →
        b ≡ is_first (map node_of (cond q (x ∷ filter Q es) (filter Q es))) (map node_of (cond p (x ∷ filter P es) (filter P es))) →
        Begins P Q (map node_of (cond p (x ∷ filter P es) (filter P es))) (map node_of (cond q (x ∷ filter Q es) (filter Q es)))
        (map node_of (cond (p || q) (x ∷ filter (λ e. P e || Q e) es) (filter (λ e. P e || Q e) es))) a b
    by true true rec f g =
        let same : nat_le x.index x.index ≡ true = le-leb x.index x.index (omega arith) in made P Q x es r.1 a b true true (f ∙ same) (g ∙ same) refl
    by true false rec f g =
        let l = before_later x Q es r.0 (map node_of (filter P es)) (map node_of (filter Q es)) refl in
        made P Q x es r.1 a b true false (f ∙ l.0) (g ∙ l.1) refl
    by false true rec f g =
        let l = before_later x P es r.0 (map node_of (filter Q es)) (map node_of (filter P es)) refl in
        made P Q x es r.1 a b false true (f ∙ l.1) (g ∙ l.0) refl
    by false false rec f g = rec f g

module _ (P Q : Entry → Bool) (es : List Entry) (A B : List Node) where
  pub both : Begins P Q A B (either P Q es) true true → (m k : Node) (xs ys : List Node) → m ∷ xs ≡ A → k ∷ ys ≡ B →
      IsStep P Q es (Some m) xs ys
  both g m k xs ys h i =
      let e : m ∷ xs ≡ g.node ∷ map node_of (filter P g.rest) = h ∙ g.first in
      let same : m ≡ g.node = cc in
      record {
        rest = g.rest;
        rises = g.rises;
        first = (let f : xs ≡ map node_of (filter P g.rest) = cc in f);
        second = (let e : k ∷ ys ≡ g.node ∷ map node_of (filter Q g.rest) = i ∙ g.second in let f : ys ≡ map node_of (filter Q g.rest) = cc in f);
        found = g.found ∙ ap (λ n. n ∷ either P Q g.rest) (sym same);
        end = tt;
      }

  pub only_one : Begins P Q A B (either P Q es) true false → (m : Node) (xs ys : List Node) → m ∷ xs ≡ A → ys ≡ B →
      IsStep P Q es (Some m) xs ys
  only_one g m xs ys h i =
      let e : m ∷ xs ≡ g.node ∷ map node_of (filter P g.rest) = h ∙ g.first in
      let same : m ≡ g.node = cc in
      record {
        rest = g.rest;
        rises = g.rises;
        first = (let f : xs ≡ map node_of (filter P g.rest) = cc in f);
        second = i ∙ g.second;
        found = g.found ∙ ap (λ n. n ∷ either P Q g.rest) (sym same);
        end = tt;
      }

  pub only_other : Begins P Q A B (either P Q es) false true → (k : Node) (xs ys : List Node) → xs ≡ A → k ∷ ys ≡ B →
      IsStep P Q es (Some k) xs ys
  only_other g k xs ys h i =
      let e : k ∷ ys ≡ g.node ∷ map node_of (filter Q g.rest) = i ∙ g.second in
      let same : k ≡ g.node = cc in
      record {
        rest = g.rest;
        rises = g.rises;
        first = h ∙ g.first;
        second = (let f : ys ≡ map node_of (filter Q g.rest) = cc in f);
        found = g.found ∙ ap (λ n. n ∷ either P Q g.rest) (sym same);
        end = tt;
      }

  pub neither : Begins P Q A B (either P Q es) false false → (xs ys : List Node) → xs ≡ A → ys ≡ B → IsStep P Q es None xs ys
  neither g xs ys h i = record {
    rest = g.rest;
    rises = g.rises;
    first = h ∙ g.first;
    second = i ∙ g.second;
    found = g.found;
    end = g.end refl;
  }

-- what is left of two lists, of which some was gathered
pub record Left (P Q : Entry → Bool) (whole held one other : List Node) : Type 0 where
  pub rest : List Entry
  pub rises : Rises rest
  pub first : one ≡ map node_of (filter P rest)
  pub second : other ≡ map node_of (filter Q rest)
  pub so_far : whole ≡ held ++ either P Q rest

-- Steps that are made of two.

or_swap : (a b c d : Bool) → ((a || b) || (c || d)) ≡ ((a || c) || (b || d))
or_swap true b c d = refl
or_swap false true true d = refl
or_swap false true false d = refl
or_swap false false c d = refl

and_or : (a b t : Bool) → ((a || b) && t) ≡ ((a && t) || (b && t))
and_or true true true = refl
and_or true true false = refl
and_or true false true = refl
and_or true false false = refl
and_or false b t = refl

or_turn : (a b : Bool) → (a || b) ≡ (b || a)
or_turn true true = refl
or_turn true false = refl
or_turn false true = refl
or_turn false false = refl

pub two_steps : (nest : Forest) (first : ℕ) → is_nest nest ≡ true → (axis one other : Axis) → is_attribute_axis axis ≡ false →
    is_attribute_axis one ≡ false → is_attribute_axis other ≡ false →
    ((c y : Entry) → by_indexes axis c y ≡ (by_indexes one c y || by_indexes other c y)) →
    (cs : List Entry) → AreContexts cs (all nest first) → (test : Test) → (held : List Node) →
    ((P Q : Entry → Bool) → step_nodes one test cs (all nest first) ≡ map node_of (filter P (all nest first)) →
    step_nodes other test cs (all nest first) ≡ map node_of (filter Q (all nest first)) → held ≡ either P Q (all nest first)) →
    held ≡ step_nodes axis test cs (all nest first)
two_steps nest first n axis one other x y z h cs k test held m =
    let es = all nest first in
    let T = passes test false in
    let O = λ (e : Entry). any_by_indexes one cs e && T e in
    let Q = λ (e : Entry). any_by_indexes other cs e && T e in
    m O Q (by_tests one y) (by_tests other z)
    ∙ ap (map node_of) (filter_same _ (λ e. any_by_indexes axis cs e && T e) es (λ e d.
    sym (ap (λ b. b && T e) (any_or cs e) ∙ and_or (any_by_indexes one cs e) (any_by_indexes other cs e) (T e))))
    ∙ sym (by_tests axis x)
  where
    by_tests : (a : Axis) → is_attribute_axis a ≡ false →
        step_nodes a test cs (all nest first) ≡ map node_of (filter (λ e. any_by_indexes a cs e && passes test false e) (all nest first))
    by_tests a f = ap (λ b. map node_of (filter (passes test b) (union_list a cs (all nest first)))) f
        ∙ ap (λ xs. map node_of (filter (passes test false) xs)) (union_by_indexes nest first n a cs k.among)
        ∙ ap (map node_of) (filter_filter (passes test false) (any_by_indexes a cs) (all nest first))

    any_or : (ds : List Entry) (e : Entry) → any_by_indexes axis ds e ≡ (any_by_indexes one ds e || any_by_indexes other ds e)
    any_or [] e = refl
    any_or (d ∷ ds) e = ap₂ (λ b c. b || c) (h d e) (any_or ds e)
        ∙ or_swap (by_indexes one d e) (by_indexes other d e) (any_by_indexes one ds e) (any_by_indexes other ds e)

pub above_or_self : (c y : Entry) → by_indexes axes.AncestorOrSelf c y ≡ (by_indexes axes.Ancestor c y || by_indexes axes.Itself c y)
above_or_self c y =
    or_turn (y.index == c.index) (is_under y c)
    ∙ ap (λ b. is_under y c || b) (same_test _ _ (λ t. eq-eqb c.index y.index (sym (eqb-true y.index c.index t)))
    (λ t. eq-eqb y.index c.index (sym (eqb-true c.index y.index t))))

pub under_or_self : (c y : Entry) → by_indexes axes.DescendantOrSelf c y ≡ (by_indexes axes.Descendant c y || by_indexes axes.Itself c y)
under_or_self c y = or_turn (c.index == y.index) (is_under c y && is_child_thing y.what)
