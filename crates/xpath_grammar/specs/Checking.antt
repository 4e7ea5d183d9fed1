-- The first refusal of an expression, as the working functions find it: they go down the parts at its start, and keep
-- the earliest refusal of what is after them.
use Rattle.std.specs.Prelude.{ℕ, suc, ◌+◌, Bool, true, false, List, [], ◌∷◌, Option, Some, None, unwrap_or}
use Rattle.std.specs.List.{flat_map}
use Rattle.xml_model.specs.declared.Axis.TheVariants as axis
use Rattle.xpath_tokens.specs.declared.StepAxis.{StepAxis}
use Rattle.xpath_tokens.specs.declared.StepAxis.TheVariants.{Known}
use Rattle.xpath_grammar.specs.declared.expr.StepTest.{StepTest}
use Rattle.xpath_grammar.specs.declared.faults.StaticFault.{StaticFault}
use Rattle.xpath_grammar.specs.declared.faults.StaticFault.TheVariants as fault
use Rattle.xpath_grammar.specs.declared.parts.Tail.{Tail}
use Rattle.xpath_grammar.specs.declared.parts.Tail.TheVariants as tail
use Rattle.xpath_grammar.specs.Tree.{tree_of, trees_of, walk_of, Tree, Trees, Walk, or, and, union, compare}
use Rattle.xpath_grammar.specs.Tree.{arithmetic, negate, path, from, filter, literal, number, variable, call, none}
use Rattle.xpath_grammar.specs.Tree.{more, stop, go}
use Rattle.xpath_grammar.specs.Functions.{signature_of}
use Rattle.xpath_grammar.specs.Static.{Word, axis_word, test_word, function_word, variable_word, number_word}
use Rattle.xpath_grammar.specs.Static.{other_word, Mark, word_fault, refused_at, plain, wanted, wants_nodes, marks}
use Rattle.xpath_grammar.specs.Static.{list_marks, step_marks, number_fault, call_fault}

-- the first of a list
abbrev pub head : List StaticFault → Option StaticFault
head [] = None
head (f ∷ fs) = Some f

-- the first refusal at some tokens
abbrev pub first_in : List (List ℕ × List ℕ) → List Mark → Option StaticFault
first_in bs ms = head (flat_map (refused_at bs) ms)

-- the expression at the start of another, with the same first token
abbrev pub prefix_of : Tree → Option Tree
prefix_of (or a b) = Some a
prefix_of (and a b) = Some a
prefix_of (compare how a b) = Some a
prefix_of (arithmetic op a b) = Some a
prefix_of (union a b) = Some a
prefix_of (from e w) = Some e
prefix_of (filter e ps) = Some e
prefix_of _ = None

-- the same, or the expression after a minus sign
abbrev pub inner_of : Tree → Option Tree
inner_of (negate a) = Some a
inner_of e = prefix_of e

-- whether nodes are needed of the expression at the start
abbrev pub needs_nodes : Tree → Bool
needs_nodes (union a b) = true
needs_nodes (from e w) = true
needs_nodes (filter e ps) = true
needs_nodes _ = false

-- the tokens after the part at the start
abbrev pub tail_marks : Tree → List Mark
tail_marks (or a b) = marks b
tail_marks (and a b) = marks b
tail_marks (compare how a b) = marks b
tail_marks (arithmetic op a b) = marks b
tail_marks (union a b) = wanted true b (marks b)
tail_marks (path absolute w) = step_marks w
tail_marks (from e w) = step_marks w
tail_marks (filter e ps) = list_marks false ps
tail_marks (call f es) = list_marks (wants_nodes (signature_of f)) es
tail_marks _ = []

-- the tokens of the part at the start, or the one of an expression that has no other at its start
abbrev pub prefix_marks : Tree → List Mark
prefix_marks (or a b) = marks a
prefix_marks (and a b) = marks a
prefix_marks (compare how a b) = marks a
prefix_marks (arithmetic op a b) = marks a
prefix_marks (negate a) = plain other_word ∷ marks a
prefix_marks (union a b) = wanted true a (marks a)
prefix_marks (path true w) = plain other_word ∷ []
prefix_marks (path false stop) = plain other_word ∷ []
prefix_marks (path false (go a t ps w)) = []
prefix_marks (from e w) = wanted true e (marks e)
prefix_marks (filter e ps) = wanted true e (marks e)
prefix_marks (literal t) = plain other_word ∷ []
prefix_marks (number t) = plain (number_word t) ∷ []
prefix_marks (variable n) = plain variable_word ∷ []
prefix_marks (call f es) = plain (function_word f es) ∷ []

-- what an expression that has no other at its start refuses there
abbrev pub own_fault : Tree → Option StaticFault
own_fault (number t) = number_fault t
own_fault (variable n) = Some fault.Variable
own_fault (call f es) = call_fault f es
own_fault _ = None

-- the first token of a path that is not absolute
abbrev pub step_word : StepAxis → StepTest → Word
step_word (Known axis.Child) t = test_word t
step_word a t = axis_word a

abbrev pub walk_word : Walk → Word
walk_word stop = other_word
walk_word (go a t ps w) = step_word a t

-- the first token of an expression
abbrev pub first_word : Tree → Word
first_word (or a b) = first_word a
first_word (and a b) = first_word a
first_word (compare how a b) = first_word a
first_word (arithmetic op a b) = first_word a
first_word (negate a) = other_word
first_word (union a b) = first_word a
first_word (path true w) = other_word
first_word (path false w) = walk_word w
first_word (from e w) = first_word e
first_word (filter e ps) = first_word e
first_word (literal t) = other_word
first_word (number t) = number_word t
first_word (variable n) = variable_word
first_word (call f es) = function_word f es

-- what an expression that gives no nodes refuses where they are needed
abbrev pub needed_fault : List (List ℕ × List ℕ) → Tree → StaticFault
needed_fault bs e = unwrap_or (word_fault bs (first_word e)) fault.NotNodes

abbrev pub marks_after : Tail → List Mark
marks_after tail.Nothing = []
marks_after (tail.Operand nodes e) = wanted nodes (tree_of e.now) (marks (tree_of e.now))
marks_after (tail.Steps s) = step_marks (walk_of s.now)
marks_after (tail.List nodes es) = list_marks nodes (trees_of es.now)

-- how many parts an expression has
abbrev mutual
  pub weight : Tree → ℕ
  weight (or a b) = suc (weight a + weight b)
  weight (and a b) = suc (weight a + weight b)
  weight (compare how a b) = suc (weight a + weight b)
  weight (arithmetic op a b) = suc (weight a + weight b)
  weight (negate a) = suc (weight a)
  weight (union a b) = suc (weight a + weight b)
  weight (path absolute w) = suc (step_weight w)
  weight (from e w) = suc (weight e + step_weight w)
  weight (filter e ps) = suc (weight e + list_weight ps)
  weight (literal t) = 1
  weight (number t) = 1
  weight (variable n) = 1
  weight (call f es) = suc (list_weight es)

  pub list_weight : Trees → ℕ
  list_weight none = 0
  list_weight (more e es) = suc (weight e + list_weight es)

  pub step_weight : Walk → ℕ
  step_weight stop = 0
  step_weight (go a t ps w) = suc (list_weight ps + step_weight w)

abbrev pub tail_weight : Tail → ℕ
tail_weight tail.Nothing = 0
tail_weight (tail.Operand nodes e) = weight (tree_of e.now)
tail_weight (tail.Steps s) = step_weight (walk_of s.now)
tail_weight (tail.List nodes es) = list_weight (trees_of es.now)
