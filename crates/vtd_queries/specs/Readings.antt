-- What a text is as an expression, where prefixes are bound (XPath 1.0, section 3): an expression that may meet a
-- document, or the first refusal. The grammar's refusals come first, then those that the expression shows.
use Rattle.std.specs.Prelude.{ℕ, ◌<◌, ◌≤◌, false, List, [], ◌∷◌, length, Result, Ok, Err}
use Rattle.std.specs.Str.{chars}
use Rattle.xpath_tokens.specs.declared.Token.{Token}
use Rattle.xpath_tokens.specs.Tokens.{Splits}
use Rattle.xpath_grammar.specs.declared.faults.StaticFault.{StaticFault}
use Rattle.xpath_grammar.specs.Grammar.{Derives, OrExpr, expr}
use Rattle.xpath_grammar.specs.Parse.{longest_text, IsDeep, IsDeepText, IsNoExpression}
use Rattle.xpath_grammar.specs.Static.{refusals}
use Rattle.xpath_grammar.specs.Tree.{Tree}
use Rattle.vtd_queries.specs.declared.faults.QueryFault.{QueryFault}
use Rattle.vtd_queries.specs.declared.faults.QueryFault.TheVariants as no
use Rattle.vtd_queries.specs.Faults.{static_fault}

-- the text derives the expression: IsParse of the grammar, without the places where the parts lie in memory
pub record IsExpression (text : List ℕ) (t : Tree) : Type 0 where
  pub short : length text ≤ longest_text
  pub tokens : List Token
  pub split : Splits false (chars text) tokens
  pub shallow : IsDeep tokens → ⊥
  pub derived : Derives OrExpr tokens (expr t)

-- the expression, or the first of its refusals
abbrev pub unless_refused : List StaticFault → Tree → Result Tree QueryFault
unless_refused [] t = Ok t
unless_refused (fault ∷ faults) t = Err (static_fault fault)

pub data Reads (bound : List (List ℕ × List ℕ)) (text : List ℕ) : Result Tree QueryFault → Type 0 where
  long : longest_text < length text → Reads bound text (Err no.Long)
  deep : IsDeepText text → Reads bound text (Err no.Deep)
  no_expression : IsNoExpression text → Reads bound text (Err no.Syntax)
  expression : (t : Tree) → IsExpression text t → Reads bound text (unless_refused (refusals bound t) t)
