-- An expression by the part at its start.
use Rattle.std.proofs.Common.{◌≡◌, ◌<◌, List, Some, None, Ok, Err, refl, sym, ◌∙◌, ap, subst, arith}
use Rattle.xpath_grammar.specs.Checking.{prefix_of, weight, list_weight, step_weight}
use Rattle.xpath_grammar.specs.Tree.{Tree, or, and, union, compare, arithmetic, negate, path, from, filter, literal, number, variable, call}
use Rattle.xpath_values.specs.declared.Value.{Value}
use Rattle.xpath_values.specs.declared.ValueFault.{ValueFault}
use Rattle.xpath_values.specs.Answers.{Answer, and_then}
use Rattle.xpath_values.specs.Values.{IsHeld, Meant}
use Rattle.xpath_meaning.specs.declared.scope.Place.{Place}
use Rattle.xpath_meaning.specs.Context.{Context}
use Rattle.xpath_meaning.specs.Meaning.{mean}
use Rattle.xpath_meaning.specs.Meets.{Meets, IsHeldFor}
use Rattle.xpath_meaning.specs.Scope.{IsContext, Means, ScopeOf}
use Rattle.xpath_eval.specs.Parts.{Follows, after_first}
use Rattle.xpath_eval.proofs.Meanings.{same_fault}

some_is : {a b : Tree} → Some a ≡ Some b → a ≡ b
some_is h = cc

split : (t a : Tree) (c : Context) → prefix_of t ≡ Some a → mean t c ≡ and_then (mean a c) (after_first t c)
split (or a b) d c h = ap (λ x. and_then (mean x c) (after_first (or a b) c)) (some_is h)
split (and a b) d c h = ap (λ x. and_then (mean x c) (after_first (and a b) c)) (some_is h)
split (compare how a b) d c h = ap (λ x. and_then (mean x c) (after_first (compare how a b) c)) (some_is h)
split (arithmetic how a b) d c h = ap (λ x. and_then (mean x c) (after_first (arithmetic how a b) c)) (some_is h)
split (union a b) d c h = ap (λ x. and_then (mean x c) (after_first (union a b) c)) (some_is h)
split (from e w) d c h = ap (λ x. and_then (mean x c) (after_first (from e w) c)) (some_is h)
split (filter e ps) d c h = ap (λ x. and_then (mean x c) (after_first (filter e ps) c)) (some_is h)
split (negate a) d c h = absurd cc
split (path b w) d c h = absurd cc
split (literal t) d c h = absurd cc
split (number t) d c h = absurd cc
split (variable t) d c h = absurd cc
split (call f es) d c h = absurd cc

-- the part at the start is smaller
pub first_smaller : (t a : Tree) → prefix_of t ≡ Some a → weight a < weight t
first_smaller (or a b) d h = rw (sym (some_is h)) (omega arith)
first_smaller (and a b) d h = rw (sym (some_is h)) (omega arith)
first_smaller (compare how a b) d h = rw (sym (some_is h)) (omega arith)
first_smaller (arithmetic how a b) d h = rw (sym (some_is h)) (omega arith)
first_smaller (union a b) d h = rw (sym (some_is h)) (omega arith)
first_smaller (from e w) d h = rw (sym (some_is h)) (omega arith)
first_smaller (filter e ps) d h = rw (sym (some_is h)) (omega arith)
first_smaller (negate a) d h = absurd cc
first_smaller (path b w) d h = absurd cc
first_smaller (literal t) d h = absurd cc
first_smaller (number t) d h = absurd cc
first_smaller (variable t) d h = absurd cc
first_smaller (call f es) d h = absurd cc

-- an expression means what comes of the value of the part at its start
pub first_then : (s : ScopeOf) (p : Place) (t a : Tree) (first : Value) (r : Answer Value) → prefix_of t ≡ Some a → Means s p (Ok first) (mean a) → Follows s p first r (after_first t) → Means s p r (mean t)
first_then s p t a first r h one two = record { yields = λ c hc. this c hc }
  where
    this : (c : Context) → IsContext s p c → Meets (IsHeld c.document) r (mean t c)
    this c hc =
        let y : IsHeldFor (IsHeld c.document) first (mean a c) = one.yields c hc in
        subst (Meets (IsHeld c.document) r) (sym (split t a c h ∙ ap (λ m. and_then m (after_first t c)) y.meant_is)) (two.yields c hc y.value y.held)

-- or its fault
pub first_fault : (s : ScopeOf) (p : Place) (t a : Tree) (e : ValueFault) → prefix_of t ≡ Some a → Means s p (Err e) (mean a) → Means s p (Err e) (mean t)
first_fault s p t a e h one = record {
  yields = λ c hc.
      same_fault (IsHeld c.document) (IsHeld c.document) e (mean a c) (mean t c) (λ d q. split t a c h ∙ ap (λ m. and_then m (after_first t c)) q) (one.yields c hc);
}
