-- The value of an expression by the value of the part at its start: XPath 1.0, sections 3.3 to 3.5.
use Rattle.std.specs.Prelude.{Ok}
use Rattle.xpath_grammar.specs.Tree.{Tree, or, and, union, compare, arithmetic, from, filter}
use Rattle.xpath_values.specs.declared.Value.{Value}
use Rattle.xpath_values.specs.Answers.{Answer, and_then, with}
use Rattle.xpath_values.specs.Values.{IsHeld, Meant, nodes, truth, truth_of}
use Rattle.xpath_values.specs.Values as values
use Rattle.xpath_meaning.specs.declared.scope.Place.{Place}
use Rattle.xpath_meaning.specs.Context.{Context, nodes_in}
use Rattle.xpath_meaning.specs.Meaning.{both, either, filtered, mean, operated, united, walked}
use Rattle.xpath_meaning.specs.Meets.{Meets}
use Rattle.xpath_meaning.specs.Scope.{IsContext, ScopeOf}

-- what comes of the value v of the part at the start; an expression without one is that value
abbrev pub after_first : Tree → Context → Meant → Answer Meant
after_first (or a b) c v = either (truth_of v) (mean b c)
after_first (and a b) c v = both (truth_of v) (mean b c)
after_first (compare how a b) c v = and_then (mean b c) (λ w. with (values.compare how v w) truth)
after_first (arithmetic how a b) c v = and_then (mean b c) (operated how v)
after_first (union a b) c v = with (mean b c) (united c.document v)
after_first (from e w) c v = with (walked w c (nodes_in v)) nodes
after_first (filter e ps) c v = with (filtered ps c (nodes_in v)) nodes
after_first _ c v = Ok v

-- what comes of a value that a program holds, in each context that a place stands for
pub record Follows (s : ScopeOf) (p : Place) (first : Value) (result : Answer Value)
    (meant : Context → Meant → Answer Meant) : Type 0 where
  pub yields : (c : Context) → IsContext s p c → (v : Meant) → IsHeld c.document first v →
      Meets (IsHeld c.document) result (meant c v)
