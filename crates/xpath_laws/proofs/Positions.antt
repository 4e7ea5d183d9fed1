-- An expression that does not read the position has one value at a node.
use Rattle.std.proofs.Common.{◌≡◌, ℕ, suc, Bool, true, false, ◌||◌, List, [], ◌∷◌, ◌++◌, length, Option, Some, None, Ok, Err, refl, ◌∙◌, ap}
use Rattle.xml_model.specs.Tree.{Entry}
use Rattle.xpath_tokens.specs.declared.StepAxis.{StepAxis}
use Rattle.xpath_tokens.specs.declared.StepAxis.TheVariants.{Known, Namespace}
use Rattle.xpath_grammar.specs.declared.expr.StepTest.{StepTest}
use Rattle.xpath_grammar.specs.Tree.{Tree, Trees, Walk, or, and, union, compare, arithmetic, negate, path, from, filter, literal, number, variable, call, none}
use Rattle.xpath_grammar.specs.Tree.{more, stop, go}
use Rattle.xpath_values.specs.Answers.{Answer, and_then, with}
use Rattle.xpath_meaning.specs.Meets.{gathered}
use Rattle.xpath_values.specs.Values.{Meant, nodes}
use Rattle.xpath_values.specs.Values as values
use Rattle.xpath_meaning.specs.declared.function.Function.{Function}
use Rattle.xpath_meaning.specs.declared.function.Function.TheVariants.{Last, Position}
use Rattle.xpath_meaning.specs.Context.{Context, at, in_order, start, nodes_in}
use Rattle.xpath_meaning.specs.Functions.{function_named}
use Rattle.xpath_meaning.specs.Meaning.{mean, listed, filtered, walked, answered, either, both}
use Rattle.xpath_laws.specs.Analysis.{reads_position, some_read_position, asks_position}
use Rattle.xpath_laws.proofs.Everywhere.{then_same, filtered_same, walked_same}

or_left : (a b : Bool) → (a || b) ≡ false → a ≡ false
or_left true b h = h
or_left false b h = refl

or_right : (a b : Bool) → (a || b) ≡ false → b ≡ false
or_right true b h = absurd cc
or_right false b h = h

sym_to : {X : Type 0} (a b c : X) → a ≡ c → b ≡ c → a ≡ b
sym_to a b c p q = cc

answered_same : (f : Option Function) (c : Context) (x : Entry) (p n q m : ℕ) (vs : List Meant) → asks_position f ≡ false →
    answered f (at c x p n) vs ≡ answered f (at c x q m) vs
answered_same None c x p n q m vs h = refl
answered_same (Some Last) c x p n q m vs h = absurd cc
answered_same (Some Position) c x p n q m vs h = absurd cc
answered_same (Some _) c x p n q m vs h = refl

start_same : (b : Bool) (c : Context) (x : Entry) (p n q m : ℕ) → start b (at c x p n) ≡ start b (at c x q m)
start_same true c x p n q m = refl
start_same false c x p n q m = refl

steps_same : (w : Walk) (c : Context) (x : Entry) (p n q m : ℕ) (es : List Entry) → walked w (at c x p n) es ≡ walked w (at c x q m) es
steps_same w c x p n q m es = sym_to _ _ (walked w c es) (walked_same w c x p n es) (walked_same w c x q m es)

passes_same : (ps : Trees) (c : Context) (x : Entry) (p n q m : ℕ) (es : List Entry) → filtered ps (at c x p n) es ≡ filtered ps (at c x q m) es
passes_same ps c x p n q m es = sym_to _ _ (filtered ps c es) (filtered_same ps c x p n es) (filtered_same ps c x q m es)

mutual
  pub one_value : (e : Tree) (c : Context) (x : Entry) (p n q m : ℕ) → reads_position e ≡ false → mean e (at c x p n) ≡ mean e (at c x q m)
  one_value (or a b) c x p n q m h = then_same _ _ _ _ (one_value a c x p n q m (or_left _ _ h))
      (λ v. ap (λ k. either (values.truth_of v) k) (one_value b c x p n q m (or_right (reads_position a) _ h)))
  one_value (and a b) c x p n q m h = then_same _ _ _ _ (one_value a c x p n q m (or_left _ _ h))
      (λ v. ap (λ k. both (values.truth_of v) k) (one_value b c x p n q m (or_right (reads_position a) _ h)))
  one_value (compare how a b) c x p n q m h = then_same _ _ _ _ (one_value a c x p n q m (or_left _ _ h))
      (λ v. then_same _ _ _ _ (one_value b c x p n q m (or_right (reads_position a) _ h)) (λ w. refl))
  one_value (arithmetic how a b) c x p n q m h = then_same _ _ _ _ (one_value a c x p n q m (or_left _ _ h))
      (λ v. then_same _ _ _ _ (one_value b c x p n q m (or_right (reads_position a) _ h)) (λ w. refl))
  one_value (negate a) c x p n q m h = then_same _ _ _ _ (one_value a c x p n q m h) (λ v. refl)
  one_value (union a b) c x p n q m h = then_same _ _ _ _ (one_value a c x p n q m (or_left _ _ h))
      (λ v. ap (λ k. with k (λ w. nodes (in_order c.document (nodes_in v ++ nodes_in w)))) (one_value b c x p n q m (or_right (reads_position a) _ h)))
  one_value (path b w) c x p n q m h = ap (λ k. with k nodes)
      (ap (walked w (at c x p n)) (start_same b c x p n q m) ∙ steps_same w c x p n q m (start b (at c x q m)))
  one_value (from e w) c x p n q m h = then_same _ _ _ _ (one_value e c x p n q m h) (λ v. ap (λ k. with k nodes) (steps_same w c x p n q m (nodes_in v)))
  one_value (filter e ps) c x p n q m h = then_same _ _ _ _ (one_value e c x p n q m h) (λ v. ap (λ k. with k nodes) (passes_same ps c x p n q m (nodes_in v)))
  one_value (literal t) c x p n q m h = refl
  one_value (number t) c x p n q m h = refl
  one_value (variable v) c x p n q m h = refl
  one_value (call name es) c x p n q m h = then_same _ _ _ _ (all_values es c x p n q m (or_right (asks_position (function_named name)) _ h))
      (λ vs. answered_same (function_named name) c x p n q m vs (or_left _ _ h))

  pub all_values : (es : Trees) (c : Context) (x : Entry) (p n q m : ℕ) → some_read_position es ≡ false → listed es (at c x p n) ≡ listed es (at c x q m)
  all_values none c x p n q m h = refl
  all_values (more e es) c x p n q m h = then_same _ _ _ _ (one_value e c x p n q m (or_left _ _ h))
      (λ v. ap (λ k. with k (λ vs. v ∷ vs)) (all_values es c x p n q m (or_right (reads_position e) _ h)))
