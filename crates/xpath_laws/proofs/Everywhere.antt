-- An expression that does not read the context has one value everywhere.
use Rattle.std.proofs.Common.{◌≡◌, ℕ, suc, Bool, true, false, ◌||◌, List, [], ◌∷◌, ◌++◌, length, Option, Some, None, Ok, Err, refl, ◌∙◌, ap}
use Rattle.xml_model.specs.Tree.{Entry}
use Rattle.xpath_tokens.specs.declared.StepAxis.{StepAxis}
use Rattle.xpath_tokens.specs.declared.StepAxis.TheVariants.{Known, Namespace}
use Rattle.xpath_grammar.specs.declared.expr.StepTest.{StepTest}
use Rattle.xpath_grammar.specs.Tree.{Tree, Trees, Walk, or, and, union, compare, arithmetic, negate, path, from, filter, literal, number, variable, call, none}
use Rattle.xpath_grammar.specs.Tree.{more, stop, go}
use Rattle.xpath_values.specs.Answers.{Answer, and_then, with}
use Rattle.xpath_meaning.specs.Meets.{gathered}
use Rattle.xpath_values.specs.Values.{Meant, nodes}
use Rattle.xpath_values.specs.Values as values
use Rattle.xpath_meaning.specs.declared.function.Function.{Function}
use Rattle.xpath_meaning.specs.declared.function.Function.TheVariants.{Last, Position, LocalName, NamespaceUri, Name, AsString}
use Rattle.xpath_meaning.specs.declared.function.Function.TheVariants.{StringLength, NormalizeSpace}
use Rattle.xpath_meaning.specs.declared.function.Function.TheVariants.{Lang, AsNumber}
use Rattle.xpath_meaning.specs.Context.{Context, at, stepped, in_order, start, is_passed, nodes_in}
use Rattle.xpath_meaning.specs.Functions.{function_named}
use Rattle.xpath_meaning.specs.Meaning.{mean, listed, filtered, walked, kept, answered, either, both, one_if}
use Rattle.xpath_laws.specs.Analysis.{reads_context, some_reads, function_reads, is_default}

-- answers go on in the same way
pub then_same : {X Y : Type 0} (m n : Answer X) (f g : X → Answer Y) → m ≡ n → ((x : X) → f x ≡ g x) → and_then m f ≡ and_then n g
then_same {X} {Y} m n f g e h = ap (λ k. and_then k f) e ∙ this n
  where
    this : (k : Answer X) → and_then k f ≡ and_then k g
    this (Ok x) = h x
    this (Err d) = refl

gathered_same : {X Y : Type 0} (f g : X → Answer (List Y)) (xs : List X) → ((x : X) → f x ≡ g x) → gathered f xs ≡ gathered g xs
gathered_same f g [] h = refl
gathered_same f g (x ∷ xs) h = then_same (f x) (g x) _ _ (h x) (λ ys. ap (λ k. with k (λ zs. ys ++ zs)) (gathered_same f g xs h))

stepped_same : (axis : StepAxis) (test : StepTest) (c : Context) (x : Entry) (p n : ℕ) (e : Entry) → stepped axis test (at c x p n) e ≡ stepped axis test c e
unfolding stepped
stepped_same (Known axis) test c x p n e = refl
stepped_same Namespace test c x p n e = refl

kept_same : (f : Context → Answer Meant) (c : Context) (x : Entry) (p n m q : ℕ) (es : List Entry) → kept f (at c x p n) m q es ≡ kept f c m q es
kept_same f c x p n m q [] = refl
kept_same f c x p n m q (e ∷ es) = then_same _ _ _ _ refl (λ v. ap (λ k. with k (λ zs. one_if (is_passed v q) e ++ zs)) (kept_same f c x p n m (suc q) es))

pub filtered_same : (ps : Trees) (c : Context) (x : Entry) (p n : ℕ) (es : List Entry) → filtered ps (at c x p n) es ≡ filtered ps c es
filtered_same none c x p n es = refl
filtered_same (more e ps) c x p n es = then_same _ _ _ _ (kept_same (mean e) c x p n (length es) 1 es) (λ zs. filtered_same ps c x p n zs)

pub walked_same : (w : Walk) (c : Context) (x : Entry) (p n : ℕ) (es : List Entry) → walked w (at c x p n) es ≡ walked w c es
walked_same stop c x p n es = refl
walked_same (go axis test ps w) c x p n es =
    then_same _ _ _ _
    (ap (λ k. with k (in_order c.document)) (gathered_same _ _ es (λ e. filtered_same ps c x p n (stepped axis test (at c x p n) e)
    ∙ ap (filtered ps c) (stepped_same axis test c x p n e))))
    (λ zs. walked_same w c x p n zs)

or_left : (a b : Bool) → (a || b) ≡ false → a ≡ false
or_left true b h = h
or_left false b h = refl

or_right : (a b : Bool) → (a || b) ≡ false → b ≡ false
or_right true b h = absurd cc
or_right false b h = h

-- a function that is given its arguments
given_same : (f : Option Function) (c : Context) (x : Entry) (p n : ℕ) (v : Meant) (vs : List Meant) → function_reads f false ≡ false →
    answered f (at c x p n) (v ∷ vs) ≡ answered f c (v ∷ vs)
given_same None c x p n v vs h = refl
given_same (Some Last) c x p n v vs h = absurd cc
given_same (Some Position) c x p n v vs h = absurd cc
given_same (Some Lang) c x p n v vs h = absurd cc
given_same (Some _) c x p n v vs h = refl

-- a function without arguments
alone_same : (f : Option Function) (c : Context) (x : Entry) (p n : ℕ) → function_reads f true ≡ false → answered f (at c x p n) [] ≡ answered f c []
alone_same None c x p n h = refl
alone_same (Some Last) c x p n h = absurd cc
alone_same (Some Position) c x p n h = absurd cc
alone_same (Some Lang) c x p n h = absurd cc
alone_same (Some LocalName) c x p n h = absurd cc
alone_same (Some NamespaceUri) c x p n h = absurd cc
alone_same (Some Name) c x p n h = absurd cc
alone_same (Some AsString) c x p n h = absurd cc
alone_same (Some StringLength) c x p n h = absurd cc
alone_same (Some NormalizeSpace) c x p n h = absurd cc
alone_same (Some AsNumber) c x p n h = absurd cc
alone_same (Some _) c x p n h = refl

-- a function's answer on values of its arguments
called_same : (f : Option Function) (es : Trees) (c : Context) (x : Entry) (p n : ℕ) → function_reads f (is_default es) ≡ false →
    listed es (at c x p n) ≡ listed es c → and_then (listed es (at c x p n)) (answered f (at c x p n)) ≡ and_then (listed es c) (answered f c)
called_same f none c x p n h same = alone_same f c x p n h
called_same f (more e es) c x p n h same = ap (λ k. and_then k (answered f (at c x p n))) same ∙ this (mean e c)
  where
    those : (v : Meant) (k : Answer (List Meant)) → and_then (with k (λ vs. v ∷ vs)) (answered f (at c x p n)) ≡ and_then (with k (λ vs. v ∷ vs)) (answered f c)
    those v (Ok vs) = given_same f c x p n v vs h
    those v (Err d) = refl

    this : (m : Answer Meant) → and_then (and_then m (λ v. with (listed es c) (λ vs. v ∷ vs))) (answered f (at c x p n)) ≡ and_then
        (and_then m (λ v. with (listed es c) (λ vs. v ∷ vs))) (answered f c)
    this (Ok v) = those v (listed es c)
    this (Err d) = refl

mutual
  pub mean_same : (e : Tree) (c : Context) (x : Entry) (p n : ℕ) → reads_context e ≡ false → mean e (at c x p n) ≡ mean e c
  mean_same (or a b) c x p n h = then_same _ _ _ _ (mean_same a c x p n (or_left _ _ h))
      (λ v. ap (λ k. either (values.truth_of v) k) (mean_same b c x p n (or_right (reads_context a) _ h)))
  mean_same (and a b) c x p n h = then_same _ _ _ _ (mean_same a c x p n (or_left _ _ h))
      (λ v. ap (λ k. both (values.truth_of v) k) (mean_same b c x p n (or_right (reads_context a) _ h)))
  mean_same (compare how a b) c x p n h = then_same _ _ _ _ (mean_same a c x p n (or_left _ _ h))
      (λ v. then_same _ _ _ _ (mean_same b c x p n (or_right (reads_context a) _ h)) (λ w. refl))
  mean_same (arithmetic how a b) c x p n h = then_same _ _ _ _ (mean_same a c x p n (or_left _ _ h))
      (λ v. then_same _ _ _ _ (mean_same b c x p n (or_right (reads_context a) _ h)) (λ w. refl))
  mean_same (negate a) c x p n h = then_same _ _ _ _ (mean_same a c x p n h) (λ v. refl)
  mean_same (union a b) c x p n h = then_same _ _ _ _ (mean_same a c x p n (or_left _ _ h))
      (λ v. ap (λ k. with k (λ w. nodes (in_order c.document (nodes_in v ++ nodes_in w)))) (mean_same b c x p n (or_right (reads_context a) _ h)))
  mean_same (path true w) c x p n h = ap (λ k. with k nodes) (walked_same w c x p n (start true c))
  mean_same (path false w) c x p n h = absurd cc
  mean_same (from e w) c x p n h = then_same _ _ _ _ (mean_same e c x p n h) (λ v. ap (λ k. with k nodes) (walked_same w c x p n (nodes_in v)))
  mean_same (filter e ps) c x p n h = then_same _ _ _ _ (mean_same e c x p n h) (λ v. ap (λ k. with k nodes) (filtered_same ps c x p n (nodes_in v)))
  mean_same (literal t) c x p n h = refl
  mean_same (number t) c x p n h = refl
  mean_same (variable m) c x p n h = refl
  mean_same (call name es) c x p n h = called_same (function_named name) es c x p n (or_left _ _ h)
      (listed_same es c x p n (or_right (function_reads (function_named name) (is_default es)) _ h))

  pub listed_same : (es : Trees) (c : Context) (x : Entry) (p n : ℕ) → some_reads es ≡ false → listed es (at c x p n) ≡ listed es c
  listed_same none c x p n h = refl
  listed_same (more e es) c x p n h = then_same _ _ _ _ (mean_same e c x p n (or_left _ _ h))
      (λ v. ap (λ k. with k (λ vs. v ∷ vs)) (listed_same es c x p n (or_right (reads_context e) _ h)))
