-- Expressions without the places where their parts lie in memory.
use Rattle.std.specs.Prelude.{ℕ, List, Bool}
use Rattle.xpath_tokens.specs.declared.Comparison.{Comparison}
use Rattle.xpath_tokens.specs.declared.Operator.{Operator}
use Rattle.xpath_tokens.specs.declared.StepAxis.{StepAxis}
use Rattle.xpath_grammar.specs.declared.expr.StepTest.{StepTest}
use Rattle.xpath_grammar.specs.declared.expr.Expr.{Expr}
use Rattle.xpath_grammar.specs.declared.expr.Exprs.{Exprs}
use Rattle.xpath_grammar.specs.declared.expr.Steps.{Steps}
use Rattle.xpath_grammar.specs.declared.expr.Expr.TheVariants.{Or', And', Compare', Arithmetic', Negate', Union'}
use Rattle.xpath_grammar.specs.declared.expr.Expr.TheVariants.{Path, From', Filter', Literal, Number, Variable, Call}
use Rattle.xpath_grammar.specs.declared.expr.Exprs.TheVariants as exprs
use Rattle.xpath_grammar.specs.declared.expr.Steps.TheVariants as steps

mutual
  pub data Tree : Type 0 where
    or and union : Tree → Tree → Tree
    compare : Comparison → Tree → Tree → Tree
    arithmetic : Operator → Tree → Tree → Tree
    negate : Tree → Tree
    path : Bool → Walk → Tree
    from : Tree → Walk → Tree
    filter : Tree → Trees → Tree
    literal number variable : List ℕ → Tree
    call : List ℕ → Trees → Tree

  pub data Trees : Type 0 where
    none : Trees
    more : Tree → Trees → Trees

  pub data Walk : Type 0 where
    stop : Walk
    go : StepAxis → StepTest → Trees → Walk → Walk

abbrev mutual
  pub tree_of : Expr → Tree
  tree_of (Or' p a q b) = or (tree_of a) (tree_of b)
  tree_of (And' p a q b) = and (tree_of a) (tree_of b)
  tree_of (Compare' how p a q b) = compare how (tree_of a) (tree_of b)
  tree_of (Arithmetic' op p a q b) = arithmetic op (tree_of a) (tree_of b)
  tree_of (Negate' p a) = negate (tree_of a)
  tree_of (Union' p a q b) = union (tree_of a) (tree_of b)
  tree_of (Path absolute steps) = path absolute (walk_of steps)
  tree_of (From' p start steps) = from (tree_of start) (walk_of steps)
  tree_of (Filter' p start predicates) = filter (tree_of start) (trees_of predicates)
  tree_of (Literal text) = literal text
  tree_of (Number text) = number text
  tree_of (Variable name) = variable name
  tree_of (Call name arguments) = call name (trees_of arguments)

  pub trees_of : Exprs → Trees
  trees_of exprs.End = none
  trees_of (exprs.More' p e q rest) = more (tree_of e) (trees_of rest)

  pub walk_of : Steps → Walk
  walk_of steps.End = stop
  walk_of (steps.More' p axis test predicates q rest) = go axis test (trees_of predicates) (walk_of rest)
