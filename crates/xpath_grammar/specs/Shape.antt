-- What the first and the last tokens of a list show.
use Rattle.std.specs.Prelude.{◌≡◌, ◌≢◌, ℕ, Bool, true, false, List, [], ◌∷◌, ◌++◌, Option, Some, None, Result, Ok, Err}
use Rattle.std.specs.Borrow.{Bor}
use Rattle.xml_model.specs.declared.Axis.{Axis}
use Rattle.xml_model.specs.declared.Axis.TheVariants as axis
use Rattle.xpath_tokens.specs.declared.StepAxis.{StepAxis}
use Rattle.xpath_tokens.specs.declared.StepAxis.TheVariants.{Known}
use Rattle.xpath_tokens.specs.declared.NodeType.TheVariants as kind
use Rattle.xpath_tokens.specs.declared.Token.{Token}
use Rattle.xpath_tokens.specs.declared.Token.TheVariants.{Open, Close, CloseSquare, Dot, DotDot, At, ColonColon, Any}
use Rattle.xpath_tokens.specs.declared.Token.TheVariants.{AnyIn, Named, Kind, Slash, SlashSlash, Function, AxisName}
use Rattle.xpath_tokens.specs.declared.Token.TheVariants.{Literal, Number, Variable}
use Rattle.xpath_tokens.specs.declared.Fault.{Fault}
use Rattle.xpath_tokens.specs.declared.Fault.TheVariants.{Syntax, NoMemory}
use Rattle.xpath_grammar.specs.declared.expr.StepTest.{StepTest}
use Rattle.xpath_grammar.specs.declared.expr.StepTest.TheVariants as test
use Rattle.xpath_grammar.specs.declared.shape.PrimaryShape.{PrimaryShape}
use Rattle.xpath_grammar.specs.declared.shape.PrimaryShape.TheVariants as primary
use Rattle.xpath_grammar.specs.declared.shape.PathShape.{PathShape}
use Rattle.xpath_grammar.specs.declared.shape.PathShape.TheVariants as path
use Rattle.xpath_grammar.specs.Grammar.{kind_test}

abbrev pub IsPrefix : List Token → Option (Bor Token × Bor (List Token)) → Type 0
IsPrefix ts None = ts ≡ []
IsPrefix ts (Some p) = ts ≡ p.0.now ∷ p.1.now

abbrev pub IsBack : List Token → Option (Bor Token × Bor (List Token)) → Type 0
IsBack ts None = ts ≡ []
IsBack ts (Some p) = ts ≡ p.1.now ++ p.0.now ∷ []

abbrev pub IsClosed : List Token → Option (Bor (List Token)) → Type 0
IsClosed ts None = (us : List Token) → ts ≡ us ++ Close ∷ [] → ⊥
IsClosed ts (Some inner) = ts ≡ inner.now ++ Close ∷ []

abbrev pub IsUnsquared : List Token → Option (Bor (List Token)) → Type 0
IsUnsquared ts None = (us : List Token) → ts ≡ us ++ CloseSquare ∷ [] → ⊥
IsUnsquared ts (Some inner) = ts ≡ inner.now ++ CloseSquare ∷ []

-- a list that no primary expression derives, by its first and last tokens
pub record NotPrimary (ts : List Token) : Type 0 where
  pub variable : (n : List ℕ) → ts ≡ Variable n ∷ [] → ⊥
  pub literal : (t : List ℕ) → ts ≡ Literal t ∷ [] → ⊥
  pub number : (n : List ℕ) → ts ≡ Number n ∷ [] → ⊥
  pub bracketed : (us : List Token) → ts ≡ Open ∷ (us ++ Close ∷ []) → ⊥
  pub call : (f : List ℕ) (us : List Token) → ts ≡ Function f ∷ Open ∷ (us ++ Close ∷ []) → ⊥

abbrev pub IsPrimaryShape : List Token → PrimaryShape → Type 0
IsPrimaryShape ts (primary.Variable name) = ts ≡ Variable name.now ∷ []
IsPrimaryShape ts (primary.Literal text) = ts ≡ Literal text.now ∷ []
IsPrimaryShape ts (primary.Number text) = ts ≡ Number text.now ∷ []
IsPrimaryShape ts (primary.Bracketed inner) = ts ≡ Open ∷ (inner.now ++ Close ∷ [])
IsPrimaryShape ts (primary.Call name inner) = ts ≡ Function name.now ∷ Open ∷ (inner.now ++ Close ∷ [])
IsPrimaryShape ts primary.Other = NotPrimary ts

-- the first token of a primary expression
abbrev pub starts_primary : Token → Bool
starts_primary Open = true
starts_primary (Variable n) = true
starts_primary (Literal t) = true
starts_primary (Number n) = true
starts_primary (Function f) = true
starts_primary _ = false

abbrev pub first : (Token → Bool) → List Token → Bool
first p [] = false
first p (t ∷ ts) = p t

pub record Relative (ts : List Token) : Type 0 where
  pub no_filter : first starts_primary ts ≡ false
  pub no_slash : (us : List Token) → ts ≡ Slash ∷ us → ⊥
  pub no_deep : (us : List Token) → ts ≡ SlashSlash ∷ us → ⊥

abbrev pub IsPathShape : List Token → PathShape → Type 0
IsPathShape ts path.Root = ts ≡ Slash ∷ []
IsPathShape ts (path.Absolute rest) = (ts ≡ Slash ∷ rest.now) × (rest.now ≢ [])
IsPathShape ts (path.Deep rest) = ts ≡ SlashSlash ∷ rest.now
IsPathShape ts path.Filter = first starts_primary ts ≡ true
IsPathShape ts path.Steps = Relative ts

-- . and .. alone
abbrev pub dot_axis : List Token → Option Axis
dot_axis (Dot ∷ []) = Some axis.Itself
dot_axis (DotDot ∷ []) = Some axis.Parent
dot_axis _ = None

-- the axis part at the start, and what is after it
abbrev pub axis_of : List Token → StepAxis
axis_of (AxisName a ∷ ColonColon ∷ ts) = a
axis_of (At ∷ ts) = Known axis.Attribute
axis_of _ = Known axis.Child

abbrev pub after_axis : List Token → List Token
after_axis (AxisName a ∷ ColonColon ∷ ts) = ts
after_axis (At ∷ ts) = ts
after_axis ts = ts

-- the node test at the start, and what is after it
abbrev pub test_of : List Token → Option StepTest
test_of (Any ∷ ts) = Some test.Any
test_of (AnyIn p ∷ ts) = Some (test.AnyIn p)
test_of (Named p n ∷ ts) = Some (test.Named p n)
test_of (Kind k ∷ Open ∷ Close ∷ ts) = Some (kind_test k)
test_of (Kind kind.Instruction ∷ Open ∷ Literal t ∷ Close ∷ ts) = Some (test.Target t)
test_of _ = None

abbrev pub after_test : List Token → List Token
after_test (Kind k ∷ Open ∷ Close ∷ ts) = ts
after_test (Kind k ∷ Open ∷ Literal t ∷ Close ∷ ts) = ts
after_test (t ∷ ts) = ts
after_test [] = []

abbrev pub IsStepTest : List Token → Result StepTest Fault → Type 0
IsStepTest ts (Ok t) = test_of ts ≡ Some t
IsStepTest ts (Err Syntax) = test_of ts ≡ None
IsStepTest ts (Err NoMemory) = Unit {0}
