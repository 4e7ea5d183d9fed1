-- What an expression means in a context: XPath 1.0, sections 2 and 3. Operands and arguments are taken from left to
-- right; the first fault is the answer.
use Rattle.std.specs.Prelude.{ℕ, suc, Bool, true, false, List, [], ◌∷◌, ◌++◌, length, Option, Some, None, Ok}
use Rattle.xml_model.specs.Tree.{Entry}
use Rattle.xpath_tokens.specs.declared.Operator.{Operator}
use Rattle.xpath_tokens.specs.declared.StepAxis.{StepAxis}
use Rattle.xpath_tokens.specs.Numbers.{number_value}
use Rattle.xpath_grammar.specs.declared.expr.StepTest.{StepTest}
use Rattle.xpath_grammar.specs.Tree.{Tree, Trees, Walk, or, and, union, compare, arithmetic, negate, path, from}
use Rattle.xpath_grammar.specs.Tree.{filter, literal, variable, call, none, more, stop, go}
use Rattle.xpath_values.specs.Answers.{Answer, and_then, with}
use Rattle.xpath_values.specs.Numbers.{number_held, negative}
use Rattle.xpath_values.specs.Numbers as numbers
use Rattle.xpath_values.specs.Values.{Meant, nodes, truth, number, text, truth_of, number_of}
use Rattle.xpath_values.specs.Values as values
use Rattle.xpath_meaning.specs.declared.function.Function.{Function}
use Rattle.xpath_meaning.specs.Meets.{gathered}
use Rattle.xpath_meaning.specs.Context.{Context, at, in_order, start, stepped, is_passed, nodes_in}
use Rattle.xpath_meaning.specs.Functions.{function_named, called}

-- the right operand of 'or' and 'and' is taken only where the left does not decide: XPath 1.0, section 3.4
abbrev pub either : Bool → Answer Meant → Answer Meant
either true right = Ok (truth true)
either false right = with right (λ w. truth (truth_of w))

abbrev pub both : Bool → Answer Meant → Answer Meant
both true right = with right (λ w. truth (truth_of w))
both false right = Ok (truth false)

-- two values are converted, the left one first: XPath 1.0, section 3.5
abbrev pub operated : Operator → Meant → Meant → Answer Meant
operated how v w = and_then (number_of v) (λ x. and_then (number_of w) (λ y. with (numbers.arithmetic how x y) number))

-- the nodes of two node-sets: XPath 1.0, section 3.3
abbrev pub united : List Entry → Meant → Meant → Meant
united document v w = nodes (in_order document (nodes_in v ++ nodes_in w))

-- a function that is not known is refused before
abbrev pub answered : Option Function → Context → List Meant → Answer Meant
answered None c vs = Ok (nodes [])
answered (Some f) c vs = called f c vs

-- a node, where it passes
abbrev pub one_if : Bool → Entry → List Entry
one_if true e = e ∷ []
one_if false e = []

-- the nodes of a list that a predicate passes; the list has n nodes, and the first that is left has the position p:
-- XPath 1.0, section 2.4
abbrev pub kept : (Context → Answer Meant) → Context → ℕ → ℕ → List Entry → Answer (List Entry)
kept predicate c n p [] = Ok []
kept predicate c n p (e ∷ es) =
    and_then (predicate (at c e p n))
    (λ v. with (kept predicate c n (suc p) es) (λ zs. one_if (is_passed v p) e ++ zs))

-- a step from each of some nodes, joined in document order, each node once: XPath 1.0, section 2.1
abbrev pub step_from :
    (Context → List Entry → Answer (List Entry)) → StepAxis → StepTest → Context → List Entry → Answer (List Entry)
step_from predicates axis test c es =
    with (gathered (λ e. predicates c (stepped axis test c e)) es) (in_order c.document)

abbrev mutual
  -- the value of an expression
  pub mean : Tree → Context → Answer Meant
  mean (or a b) c = and_then (mean a c) (λ v. either (truth_of v) (mean b c))
  mean (and a b) c = and_then (mean a c) (λ v. both (truth_of v) (mean b c))
  mean (compare how a b) c = and_then (mean a c) (λ v. and_then (mean b c) (λ w. with (values.compare how v w) truth))
  mean (arithmetic how a b) c = and_then (mean a c) (λ v. and_then (mean b c) (operated how v))
  mean (negate a) c = and_then (mean a c) (λ v. with (number_of v) (λ x. number (negative x)))
  mean (union a b) c = and_then (mean a c) (λ v. with (mean b c) (united c.document v))
  mean (path absolute w) c = with (walked w c (start absolute c)) nodes
  mean (from e w) c = and_then (mean e c) (λ v. with (walked w c (nodes_in v)) nodes)
  mean (filter e ps) c = and_then (mean e c) (λ v. with (filtered ps c (nodes_in v)) nodes)
  mean (literal t) c = Ok (text t)
  mean (Tree.number t) c = with (number_held (number_value t)) number
  mean (variable name) c = Ok (nodes [])
  mean (call name es) c = and_then (listed es c) (answered (function_named name) c)

  -- the values of expressions
  pub listed : Trees → Context → Answer (List Meant)
  listed none c = Ok []
  listed (more e es) c = and_then (mean e c) (λ v. with (listed es c) (λ vs. v ∷ vs))

  -- the nodes that each of the predicates passes, in turn
  pub filtered : Trees → Context → List Entry → Answer (List Entry)
  filtered none c es = Ok es
  filtered (more p ps) c es = and_then (kept (mean p) c (length es) 1 es) (filtered ps c)

  -- the nodes that the steps find from each of some nodes
  pub walked : Walk → Context → List Entry → Answer (List Entry)
  walked stop c es = Ok es
  walked (go axis test ps w) c es = and_then (step_from (filtered ps) axis test c es) (walked w c)
