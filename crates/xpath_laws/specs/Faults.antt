-- Expressions that have no fault, by their text alone (this project's own).
use Rattle.std.specs.Prelude.{◌≡◌, Bool, true, false, ◌&&◌, Option, Some, None, Ok, is_ok}
use Rattle.xpath_grammar.specs.declared.functions.ValueType.{ValueType}
use Rattle.xpath_grammar.specs.declared.functions.ValueType.TheVariants as type
use Rattle.xpath_grammar.specs.Tree.{Tree, Trees, Walk, or, and, union, compare, arithmetic, negate, path, from, filter}
use Rattle.xpath_grammar.specs.Tree.{literal, variable, call, none, more, stop, go}
use Rattle.xpath_values.specs.Answers.{Answer}
use Rattle.xpath_tokens.specs.Numbers.{number_value}
use Rattle.xpath_values.specs.Numbers.{number_held}
use Rattle.xpath_values.specs.Values.{Meant, nodes, truth, number, text, is_equality}
use Rattle.xpath_meaning.specs.declared.function.Function.{Function}
use Rattle.xpath_meaning.specs.declared.function.Function.TheVariants as f
use Rattle.xpath_meaning.specs.Functions.{function_named}

-- the type of a value
abbrev pub kind : Meant → ValueType
kind (nodes es) = type.Nodes
kind (truth b) = type.Truth
kind (number x) = type.Number
kind (text t) = type.Text

-- the type of a function's answer
abbrev pub answers : Function → ValueType
answers f.Last = type.Number
answers f.Position = type.Number
answers f.Count = type.Number
answers f.StringLength = type.Number
answers f.AsNumber = type.Number
answers f.Sum = type.Number
answers f.Floor = type.Number
answers f.Ceiling = type.Number
answers f.Round = type.Number
answers f.LocalName = type.Text
answers f.NamespaceUri = type.Text
answers f.Name = type.Text
answers f.AsString = type.Text
answers f.Concat = type.Text
answers f.SubstringBefore = type.Text
answers f.SubstringAfter = type.Text
answers f.Substring = type.Text
answers f.NormalizeSpace = type.Text
answers f.Translate = type.Text
answers _ = type.Truth

abbrev pub answers_call : Option Function → ValueType
answers_call None = type.Nodes
answers_call (Some g) = answers g

-- the type of an expression's value
abbrev pub kind_of : Tree → ValueType
kind_of (or a b) = type.Truth
kind_of (and a b) = type.Truth
kind_of (compare how a b) = type.Truth
kind_of (arithmetic how a b) = type.Number
kind_of (negate a) = type.Number
kind_of (union a b) = type.Nodes
kind_of (path absolute w) = type.Nodes
kind_of (from e w) = type.Nodes
kind_of (filter e ps) = type.Nodes
kind_of (literal t) = type.Text
kind_of (Tree.number t) = type.Number
kind_of (variable n) = type.Nodes
kind_of (call name es) = answers_call (function_named name)

abbrev pub is_number : ValueType → Bool
is_number type.Number = true
is_number _ = false

-- whether values of two types are compared without making a number of a string: by = and !=, or by the others
abbrev pub compares_plainly : Bool → ValueType → ValueType → Bool
compares_plainly true type.Truth k = true
compares_plainly true k type.Truth = true
compares_plainly true type.Number k = is_number k
compares_plainly true k type.Number = false
compares_plainly true j k = true
compares_plainly false j k = is_number j && is_number k

-- the functions that make a number of no argument and count no characters
abbrev pub converts_nothing : Option Function → Bool
converts_nothing None = true
converts_nothing (Some f.Substring) = false
converts_nothing (Some f.StringLength) = false
converts_nothing (Some f.AsNumber) = false
converts_nothing (Some f.Sum) = false
converts_nothing (Some f.Floor) = false
converts_nothing (Some f.Ceiling) = false
converts_nothing (Some f.Round) = false
converts_nothing (Some _) = true

abbrev mutual
  pub faultless : Tree → Bool
  faultless (or a b) = faultless a && faultless b
  faultless (and a b) = faultless a && faultless b
  faultless (compare how a b) = faultless a && (faultless b && compares_plainly (is_equality how) (kind_of a)
      (kind_of b))
  faultless (arithmetic how a b) = false
  faultless (negate a) = faultless a && is_number (kind_of a)
  faultless (union a b) = faultless a && faultless b
  faultless (path absolute w) = faultless_steps w
  faultless (from e w) = faultless e && faultless_steps w
  faultless (filter e ps) = faultless e && all_faultless ps
  faultless (literal t) = true
  faultless (Tree.number t) = is_ok (number_held (number_value t))
  faultless (variable n) = true
  faultless (call name es) = converts_nothing (function_named name) && all_faultless es

  pub all_faultless : Trees → Bool
  all_faultless none = true
  all_faultless (more e es) = faultless e && all_faultless es

  pub faultless_steps : Walk → Bool
  faultless_steps stop = true
  faultless_steps (go axis t ps w) = all_faultless ps && faultless_steps w

-- an answer is no fault
pub record IsFine {X : Type 0} (m : Answer X) : Type 0 where
  pub value : X
  pub is : m ≡ Ok value
