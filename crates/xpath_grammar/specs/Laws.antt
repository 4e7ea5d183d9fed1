-- Laws of the grammar.
use Rattle.std.specs.Prelude.{◌≡◌, List, [], ◌∷◌, ◌++◌, Bool, true, false}
use Rattle.xpath_tokens.specs.declared.Token.{Token}
use Rattle.xpath_tokens.specs.declared.Token.TheVariants.{Comma, Or, And, Compare, Arithmetic, Bar, Slash, SlashSlash}
use Rattle.xpath_tokens.specs.declared.Comparison.{Comparison}
use Rattle.xpath_tokens.specs.declared.Operator.{Operator}
use Rattle.xpath_tokens.specs.declared.Operator.TheVariants.{Subtract}
use Rattle.xpath_grammar.specs.Grammar.{Symbol, Phrase, Derives, or_one, or_more, and_one, and_more, equality_one}
use Rattle.xpath_grammar.specs.Grammar.{equality_more, relational_one, relational_more, additive_one, additive_more}
use Rattle.xpath_grammar.specs.Grammar.{multiplicative_one, multiplicative_more, unary_one, unary_minus, union_one}
use Rattle.xpath_grammar.specs.Grammar.{union_more, path_location, path_filter, path_slash, path_slash_slash}
use Rattle.xpath_grammar.specs.Grammar.{filter_one, filter_more, primary_bracket, primary_variable, primary_literal}
use Rattle.xpath_grammar.specs.Grammar.{primary_number, call_none, call_some, arguments_one, arguments_more}
use Rattle.xpath_grammar.specs.Grammar.{location_relative, location_root, location_slash, location_slash_slash}
use Rattle.xpath_grammar.specs.Grammar.{relative_one, relative_slash, relative_slash_slash, step, step_dot, step_dots}
use Rattle.xpath_grammar.specs.Grammar.{predicates_none, predicates_more, predicate, plus, minus, IsAdditive, ends}
use Rattle.xpath_grammar.specs.Grammar.{IsEquality, IsRelational, IsMultiplicative, depth, ended, OrExpr, AndExpr}
use Rattle.xpath_grammar.specs.Grammar.{EqualityExpr, RelationalExpr, AdditiveExpr, MultiplicativeExpr, UnaryExpr}
use Rattle.xpath_grammar.specs.Grammar.{UnionExpr, PathExpr, Arguments, RelativeLocationPath, StepPart}

-- of each minus in a derivation, in their order, whether it is binary there
abbrev pub minuses : {s : Symbol} {ts : List Token} {e : Phrase} → Derives s ts e → List Bool
minuses (or_one d) = minuses d
minuses (or_more c d) = minuses c ++ minuses d
minuses (and_one d) = minuses d
minuses (and_more c d) = minuses c ++ minuses d
minuses (equality_one d) = minuses d
minuses (equality_more how c d) = minuses c ++ minuses d
minuses (relational_one d) = minuses d
minuses (relational_more how c d) = minuses c ++ minuses d
minuses (additive_one d) = minuses d
minuses (additive_more plus c d) = minuses c ++ minuses d
minuses (additive_more minus c d) = minuses c ++ true ∷ minuses d
minuses (multiplicative_one d) = minuses d
minuses (multiplicative_more op c d) = minuses c ++ minuses d
minuses (unary_one d) = minuses d
minuses (unary_minus d) = false ∷ minuses d
minuses (union_one d) = minuses d
minuses (union_more c d) = minuses c ++ minuses d
minuses (path_location d) = minuses d
minuses (path_filter d) = minuses d
minuses (path_slash c d) = minuses c ++ minuses d
minuses (path_slash_slash c d) = minuses c ++ minuses d
minuses (filter_one d) = minuses d
minuses (filter_more c d) = minuses c ++ minuses d
minuses (primary_bracket d) = minuses d
minuses primary_variable = []
minuses primary_literal = []
minuses primary_number = []
minuses call_none = []
minuses (call_some d) = minuses d
minuses (arguments_one d) = minuses d
minuses (arguments_more c d) = minuses c ++ minuses d
minuses (location_relative d) = minuses d
minuses location_root = []
minuses (location_slash d) = minuses d
minuses (location_slash_slash d) = minuses d
minuses (relative_one d) = minuses d
minuses (relative_slash c d) = minuses c ++ minuses d
minuses (relative_slash_slash c d) = minuses c ++ minuses d
minuses (step us vs ws axis test d) = minuses d
minuses step_dot = []
minuses step_dots = []
minuses predicates_none = []
minuses (predicates_more c d) = minuses c ++ minuses d
minuses (predicate d) = minuses d

-- of each minus in a list, whether a token that ends an operand is before it
abbrev pub flags : Bool → List Token → List Bool
flags b [] = []
flags b (Arithmetic Subtract ∷ ts) = b ∷ flags false ts
flags b (t ∷ ts) = flags (ends t) ts

-- the productions with two parts: the symbol, the operator, and the symbol of the part after it; a comma is that of the
-- arguments of a call
pub data IsForm : Symbol → Token → Symbol → Type 0 where
  by_or : IsForm OrExpr Or AndExpr
  by_and : IsForm AndExpr And EqualityExpr
  by_equality : {how : Comparison} → IsEquality how → IsForm EqualityExpr (Compare how) RelationalExpr
  by_relational : {how : Comparison} → IsRelational how → IsForm RelationalExpr (Compare how) AdditiveExpr
  by_additive : {op : Operator} → IsAdditive op → IsForm AdditiveExpr (Arithmetic op) MultiplicativeExpr
  by_multiplicative : {op : Operator} → IsMultiplicative op → IsForm MultiplicativeExpr (Arithmetic op) UnaryExpr
  by_bar : IsForm UnionExpr Bar PathExpr
  by_slash : IsForm RelativeLocationPath Slash StepPart
  by_slash_slash : IsForm RelativeLocationPath SlashSlash StepPart
  by_comma : IsForm Arguments Comma OrExpr

-- a token is one of the operators of a symbol
abbrev pub IsOperator : Symbol → Token → Type 0
IsOperator s t = (o : Symbol) × IsForm s t o

-- what is after these tokens is outside all brackets
abbrev pub IsOutside : List Token → Type 0
IsOutside before = depth 0 before ≡ 0

-- a minus is an operator only where it is binary: where a token that is /, or can end an operand, is before it
abbrev pub Counts : List Token → Token → Type 0
Counts before t = t ≡ Arithmetic Subtract → ended false before ≡ true

-- the operator is the last token outside all brackets that is one of the symbol's operators
pub record IsLastOperator (s : Symbol) (us : List Token) (t : Token) (vs : List Token) : Type 0 where
  pub outside : IsOutside us
  pub counts : Counts us t
  pub last : (ws xs : List Token) (u : Token) → vs ≡ ws ++ u ∷ xs → IsOutside (us ++ t ∷ ws) → IsOperator s u
      → Counts (us ++ t ∷ ws) u → ⊥

-- a / or // with steps after it
pub data IsSlash : Token → Type 0 where
  one : IsSlash Slash
  two : IsSlash SlashSlash

-- what is after these tokens is outside all brackets, and no / or // among them does
pub record IsFirstSlash (us : List Token) : Type 0 where
  pub outside : IsOutside us
  pub first : (ws xs : List Token) (u : Token) → us ≡ ws ++ u ∷ xs → IsOutside ws → IsSlash u → ⊥
