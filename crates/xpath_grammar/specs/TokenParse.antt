-- What the parser answers on a list of tokens.
use Rattle.std.specs.Prelude.{ℕ, ◌+◌, Bool, false, cond, nat_lt, ◌||◌, List, [], ◌∷◌, Result, Ok, Err}
use Rattle.xpath_tokens.specs.declared.Token.{Token}
use Rattle.xpath_tokens.specs.declared.Fault.{Fault}
use Rattle.xpath_tokens.specs.declared.Fault.TheVariants as fault
use Rattle.xpath_grammar.specs.declared.expr.Expr.{Expr}
use Rattle.xpath_grammar.specs.declared.entry.GrammarFault.{GrammarFault}
use Rattle.xpath_grammar.specs.declared.entry.GrammarFault.TheVariants.{Long, Deep, Syntax, NoMemory}
use Rattle.xpath_grammar.specs.Tree.{tree_of}
use Rattle.xpath_grammar.specs.Grammar.{Derives, OrExpr, Phrase, expr}
use Rattle.xpath_grammar.specs.Parse.{opens, closes, IsDeep}

abbrev pub fault_of : Fault → GrammarFault
fault_of fault.Syntax = Syntax
fault_of fault.NoMemory = NoMemory

-- in some prefix of a list too many brackets are open, after o that open and c that close
abbrev pub deep_from : ℕ → ℕ → List Token → Bool
deep_from o c [] = false
deep_from o c (t ∷ ts) =
    nat_lt (cond (closes t) (c + 1) c + 64) (cond (opens t) (o + 1) o)
    || deep_from (cond (opens t) (o + 1) o) (cond (closes t) (c + 1) c) ts

pub record IsTokenParse (ts : List Token) (e : Expr) : Type 0 where
  pub shallow : IsDeep ts → ⊥
  pub derived : Derives OrExpr ts (expr (tree_of e))

pub record IsTokenRefusal (ts : List Token) : Type 0 where
  pub shallow : IsDeep ts → ⊥
  pub underived : (e : Phrase) → Derives OrExpr ts e → ⊥

abbrev pub ParsesTokens : List Token → Result Expr GrammarFault → Type 0
ParsesTokens ts (Ok e) = IsTokenParse ts e
ParsesTokens ts (Err Long) = ⊥
ParsesTokens ts (Err Deep) = IsDeep ts
ParsesTokens ts (Err Syntax) = IsTokenRefusal ts
ParsesTokens ts (Err NoMemory) = Unit {0}
