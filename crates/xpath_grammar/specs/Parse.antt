-- What a text is as an expression, and why it is none.
use Rattle.std.specs.Prelude.{ℕ, suc, ◌+◌, ◌<◌, ◌≤◌, Bool, true, false, cond, List, [], ◌∷◌, length, take}
use Rattle.std.specs.Str.{chars}
use Rattle.xpath_tokens.specs.declared.Token.{Token}
use Rattle.xpath_tokens.specs.declared.Token.TheVariants.{Open, Close, OpenSquare, CloseSquare}
use Rattle.xpath_tokens.specs.Tokens.{Splits}
use Rattle.xpath_grammar.specs.declared.expr.Expr.{Expr}
use Rattle.xpath_grammar.specs.declared.entry.GrammarFault.{GrammarFault}
use Rattle.xpath_grammar.specs.declared.entry.GrammarFault.TheVariants.{Long, Deep, Syntax, NoMemory}
use Rattle.xpath_grammar.specs.Tree.{tree_of}
use Rattle.xpath_grammar.specs.Grammar.{Derives, OrExpr, Phrase, expr}

abbrev pub opens : Token → Bool
opens Open = true
opens OpenSquare = true
opens _ = false

abbrev pub closes : Token → Bool
closes Close = true
closes CloseSquare = true
closes _ = false

abbrev pub count : (Token → Bool) → List Token → ℕ
count p [] = 0
count p (t ∷ ts) = cond (p t) (suc (count p ts)) (count p ts)

-- in some prefix the opening brackets outnumber the closing ones by more than 64: this project's own limit
abbrev pub IsDeep : List Token → Type 0
IsDeep ts = (n : ℕ) × (count closes (take n ts) + 64 < count opens (take n ts))

-- the longest text, in bytes: this project's own limit
abbrev pub longest_text : ℕ
longest_text = 4096

-- the text derives the expression
pub record IsParse (text : List ℕ) (e : Expr) : Type 0 where
  pub short : length text ≤ longest_text
  pub tokens : List Token
  pub split : Splits false (chars text) tokens
  pub shallow : IsDeep tokens → ⊥
  pub derived : Derives OrExpr tokens (expr (tree_of e))

-- the text splits, and has too many open brackets
pub record IsDeepText (text : List ℕ) : Type 0 where
  pub short : length text ≤ longest_text
  pub tokens : List Token
  pub split : Splits false (chars text) tokens
  pub deep : IsDeep tokens

-- the text does not split, or what it splits into is not too deep and derives nothing
pub record IsNoExpression (text : List ℕ) : Type 0 where
  pub short : length text ≤ longest_text
  pub shallow : (ts : List Token) → Splits false (chars text) ts → IsDeep ts → ⊥
  pub underived : (ts : List Token) (e : Phrase) → Splits false (chars text) ts → Derives OrExpr ts e → ⊥

abbrev pub IsRefusal : List ℕ → GrammarFault → Type 0
IsRefusal text Long = longest_text < length text
IsRefusal text Deep = IsDeepText text
IsRefusal text Syntax = IsNoExpression text
IsRefusal text NoMemory = length text ≤ longest_text
