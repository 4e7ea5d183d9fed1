-- The refusals that an expression shows before it meets a document, in the order of its tokens: this project's own
-- rules for what XPath 1.0 calls errors, and for what is left out.
use Rattle.std.specs.Prelude.{◌≡◌, ℕ, Bool, true, false, cond, not, ◌&&◌, ◌==◌, List, [], ◌∷◌, ◌++◌, length, Option}
use Rattle.std.specs.Prelude.{Some, None, is_some, Result, Ok, Err}
use Rattle.std.specs.List.{flat_map}
use Rattle.xml_model.specs.declared.Axis.TheVariants as axis
use Rattle.xpath_tokens.specs.declared.StepAxis.{StepAxis}
use Rattle.xpath_tokens.specs.declared.StepAxis.TheVariants.{Known, Namespace}
use Rattle.xpath_tokens.specs.declared.numbers.NumberFault.{NumberFault}
use Rattle.xpath_tokens.specs.declared.numbers.NumberFault.TheVariants as value
use Rattle.xpath_tokens.specs.Numbers.{number_value}
use Rattle.xpath_grammar.specs.declared.expr.StepTest.{StepTest}
use Rattle.xpath_grammar.specs.declared.expr.StepTest.TheVariants as test
use Rattle.xpath_grammar.specs.declared.functions.Signature.{Signature}
use Rattle.xpath_grammar.specs.declared.faults.StaticFault.{StaticFault}
use Rattle.xpath_grammar.specs.declared.faults.StaticFault.TheVariants as fault
use Rattle.xpath_grammar.specs.Tree.{Tree, Trees, Walk, or, and, union, compare, arithmetic, negate, path, from}
use Rattle.xpath_grammar.specs.Tree.{filter, literal, number, variable, call, none, more, stop, go}
use Rattle.xpath_grammar.specs.Bindings.{uri_in}
use Rattle.xpath_grammar.specs.Functions.{signature_of, gives_nodes, fits}

-- A token of an expression that can be refused, or with which an expression can begin. The others, brackets, commas,
-- operators after an operand and slashes after a step, are left aside.
pub data Word : Type 0 where
  axis_word : StepAxis → Word
  test_word : StepTest → Word
  function_word : List ℕ → Trees → Word
  variable_word : Word
  number_word : List ℕ → Word
  other_word : Word

-- a token, and whether an expression begins with it that gives no nodes where nodes are needed
pub record Mark : Type 0 where
  pub word : Word
  pub not_nodes : Bool

-- what a number is refused for: Fraction, where it is no whole number of millionths, or Range, where it is above the
-- greatest
abbrev pub refusal_of : Result ℕ NumberFault → Option StaticFault
refusal_of (Ok n) = None
refusal_of (Err value.Fraction) = Some fault.Fraction
refusal_of (Err value.Range) = Some fault.Range

abbrev pub number_fault : List ℕ → Option StaticFault
number_fault t = refusal_of (number_value t)

-- Axis, where it is namespace
abbrev pub axis_fault : StepAxis → Option StaticFault
axis_fault (Known a) = None
axis_fault Namespace = Some fault.Axis

-- Prefix, where it is not bound
abbrev pub prefix_fault : List (List ℕ × List ℕ) → List ℕ → Option StaticFault
prefix_fault bs p = cond (is_some (uri_in bs p)) None (Some fault.Prefix)

abbrev pub test_fault : List (List ℕ × List ℕ) → StepTest → Option StaticFault
test_fault bs (test.AnyIn p) = prefix_fault bs p
test_fault bs (test.Named p n) = cond (length p == 0) None (prefix_fault bs p)
test_fault bs _ = None

-- Function, where it is not known; Arguments, where it is, and their number does not fit
abbrev pub arguments_fault : Option Signature → Trees → Option StaticFault
arguments_fault None es = Some fault.Function
arguments_fault (Some s) es = cond (fits s es) None (Some fault.Arguments)

abbrev pub call_fault : List ℕ → Trees → Option StaticFault
call_fault f es = arguments_fault (signature_of f) es

-- what a token itself is refused for
abbrev pub word_fault : List (List ℕ × List ℕ) → Word → Option StaticFault
word_fault bs (axis_word a) = axis_fault a
word_fault bs (test_word t) = test_fault bs t
word_fault bs (function_word f es) = call_fault f es
word_fault bs variable_word = Some fault.Variable
word_fault bs (number_word t) = number_fault t
word_fault bs other_word = None

abbrev pub listed : Option StaticFault → List StaticFault
listed (Some f) = f ∷ []
listed None = []

-- the refusals that are at a token, in the order of StaticFault
abbrev pub refused_at : List (List ℕ × List ℕ) → Mark → List StaticFault
refused_at bs m = listed (word_fault bs m.word) ++ cond m.not_nodes (fault.NotNodes ∷ []) []

abbrev pub plain : Word → Mark
plain w = record { word = w; not_nodes = false }

abbrev pub marked : List Mark → List Mark
marked [] = []
marked (m ∷ ms) = record { word = m.word; not_nodes = true } ∷ ms

-- the tokens of an expression of which nodes are needed, or not: where it is of another type, that is at its first
abbrev pub wanted : Bool → Tree → List Mark → List Mark
wanted nodes e ms = cond (nodes && not (gives_nodes e)) (marked ms) ms

abbrev pub wants_nodes : Option Signature → Bool
wants_nodes None = false
wants_nodes (Some s) = s.nodes

-- the token of an axis; child:: is left out, since nothing stands for it too
abbrev pub axis_marks : StepAxis → List Mark
axis_marks (Known axis.Child) = []
axis_marks a = plain (axis_word a) ∷ []

-- a path that is not absolute begins with a step
abbrev pub begun : List Mark → List Mark
begun [] = plain other_word ∷ []
begun (m ∷ ms) = m ∷ ms

-- the tokens of an expression in their order, with the brackets round it left aside
abbrev mutual
  pub marks : Tree → List Mark
  marks (or a b) = marks a ++ marks b
  marks (and a b) = marks a ++ marks b
  marks (compare how a b) = marks a ++ marks b
  marks (arithmetic op a b) = marks a ++ marks b
  marks (negate a) = plain other_word ∷ marks a
  marks (union a b) = wanted true a (marks a) ++ wanted true b (marks b)
  marks (path true w) = plain other_word ∷ step_marks w
  marks (path false w) = begun (step_marks w)
  marks (from e w) = wanted true e (marks e) ++ step_marks w
  marks (filter e ps) = wanted true e (marks e) ++ list_marks false ps
  marks (literal t) = plain other_word ∷ []
  marks (number t) = plain (number_word t) ∷ []
  marks (variable n) = plain variable_word ∷ []
  marks (call f es) = plain (function_word f es) ∷ list_marks (wants_nodes (signature_of f)) es

  -- of a list, of which the first is needed as nodes, or not
  pub list_marks : Bool → Trees → List Mark
  list_marks nodes none = []
  list_marks nodes (more e es) = wanted nodes e (marks e) ++ list_marks false es

  pub step_marks : Walk → List Mark
  step_marks stop = []
  step_marks (go a t ps w) = axis_marks a ++ plain (test_word t) ∷ (list_marks false ps ++ step_marks w)

-- all refusals of an expression, in the order of its tokens, and at one token in that of StaticFault
abbrev pub refusals : List (List ℕ × List ℕ) → Tree → List StaticFault
refusals bs e = flat_map (refused_at bs) (marks e)

abbrev pub IsFirst : StaticFault → List StaticFault → Type 0
IsFirst f fs = (rest : List StaticFault) × (fs ≡ f ∷ rest)
