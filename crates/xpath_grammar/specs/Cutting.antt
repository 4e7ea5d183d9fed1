-- How a token list is cut at the operators outside all brackets, and what the working functions of the parser answer.
use Rattle.std.specs.Prelude.{◌≡◌, ◌≢◌, ℕ, zero, suc, List, [], ◌∷◌, ◌++◌, length, take, Bool, true, false, cond}
use Rattle.std.specs.Prelude.{Option, Some, None, Result, Ok, Err}
use Rattle.std.specs.Borrow.{Bor}
use Rattle.xpath_tokens.specs.declared.Comparison.TheVariants.{Equal, Unequal}
use Rattle.xpath_tokens.specs.declared.Operator.TheVariants.{Add, Subtract}
use Rattle.xpath_tokens.specs.declared.Token.{Token}
use Rattle.xpath_tokens.specs.declared.Token.TheVariants.{OpenSquare, Comma, Or, And, Compare, Arithmetic, Bar, Slash}
use Rattle.xpath_tokens.specs.declared.Token.TheVariants.{SlashSlash}
use Rattle.xpath_tokens.specs.declared.Fault.{Fault}
use Rattle.xpath_tokens.specs.declared.Fault.TheVariants.{Syntax, NoMemory}
use Rattle.xpath_grammar.specs.declared.expr.Expr.{Expr}
use Rattle.xpath_grammar.specs.declared.expr.Exprs.{Exprs}
use Rattle.xpath_grammar.specs.declared.expr.Steps.{Steps}
use Rattle.xpath_grammar.specs.declared.expr.Step.{Step, out-Step}
use Rattle.xpath_grammar.specs.declared.parser.Binary.{Binary}
use Rattle.xpath_grammar.specs.declared.parser.Binary.TheVariants as rust
use Rattle.xpath_grammar.specs.Tree.{tree_of, trees_of, walk_of, Tree, Trees, Walk, or, and, union, compare}
use Rattle.xpath_grammar.specs.Tree.{arithmetic, negate, none, more, stop, go}
use Rattle.xpath_grammar.specs.Grammar.{Symbol, Phrase, appended, joined, filter_tree, any_depth, Derives, ends}
use Rattle.xpath_grammar.specs.Grammar.{depth_after, depth, ended, OrExpr, AndExpr, EqualityExpr, RelationalExpr}
use Rattle.xpath_grammar.specs.Grammar.{AdditiveExpr, MultiplicativeExpr, UnaryExpr, UnionExpr, PathExpr, FilterExpr}
use Rattle.xpath_grammar.specs.Grammar.{Arguments, RelativeLocationPath, StepPart, expr, exprs, filtered, walk}

-- how far a token binds where it is outside all brackets; the flag says that a token before it ends an operand
abbrev pub rank : Bool → Token → ℕ
rank b Comma = 0
rank b Or = 1
rank b And = 2
rank b (Compare Equal) = 3
rank b (Compare Unequal) = 3
rank b (Compare how) = 4
rank b (Arithmetic Add) = 5
rank true (Arithmetic Subtract) = 5
rank false (Arithmetic Subtract) = 20
rank b (Arithmetic op) = 6
rank b Bar = 8
rank b Slash = 9
rank b SlashSlash = 9
rank b OpenSquare = 10
rank b _ = 20

-- no token of a rank is outside all brackets
abbrev pub IsOther : ℕ → ℕ → Bool → Token → Type 0
IsOther k zero b t = rank b t ≢ k
IsOther k (suc d) b t = Unit {0}

abbrev pub Free : ℕ → ℕ → Bool → List Token → Type 0
Free k d b [] = Unit {0}
Free k d b (t ∷ ts) = IsOther k d b t × Free k (depth_after d t) (ends t) ts

-- the forms with an operator or a separator between two parts
pub data Level : Type 0 where
  OrLevel AndLevel EqualityLevel RelationalLevel AdditiveLevel : Level
  MultiplicativeLevel UnionLevel RelativeLevel ArgumentLevel : Level

abbrev pub symbol : Level → Symbol
symbol OrLevel = OrExpr
symbol AndLevel = AndExpr
symbol EqualityLevel = EqualityExpr
symbol RelationalLevel = RelationalExpr
symbol AdditiveLevel = AdditiveExpr
symbol MultiplicativeLevel = MultiplicativeExpr
symbol UnionLevel = UnionExpr
symbol RelativeLevel = RelativeLocationPath
symbol ArgumentLevel = Arguments

abbrev pub operand : Level → Symbol
operand OrLevel = AndExpr
operand AndLevel = EqualityExpr
operand EqualityLevel = RelationalExpr
operand RelationalLevel = AdditiveExpr
operand AdditiveLevel = MultiplicativeExpr
operand MultiplicativeLevel = UnaryExpr
operand UnionLevel = PathExpr
operand RelativeLevel = StepPart
operand ArgumentLevel = OrExpr

abbrev pub rank_of : Level → ℕ
rank_of OrLevel = 1
rank_of AndLevel = 2
rank_of EqualityLevel = 3
rank_of RelationalLevel = 4
rank_of AdditiveLevel = 5
rank_of MultiplicativeLevel = 6
rank_of UnionLevel = 8
rank_of RelativeLevel = 9
rank_of ArgumentLevel = 0

-- what one part alone gives
abbrev pub single : Level → Phrase → Phrase
single ArgumentLevel (expr a) = exprs (more a none)
single _ x = x

-- what two parts with an operator between give
abbrev pub combined : Token → Phrase → Phrase → Phrase
combined Or (expr a) (expr b) = expr (or a b)
combined And (expr a) (expr b) = expr (and a b)
combined (Compare how) (expr a) (expr b) = expr (compare how a b)
combined (Arithmetic op) (expr a) (expr b) = expr (arithmetic op a b)
combined Bar (expr a) (expr b) = expr (union a b)
combined Slash (walk v) (walk w) = walk (joined v w)
combined SlashSlash (walk v) (walk w) = walk (joined v (any_depth w))
combined Comma (exprs es) (expr a) = exprs (appended es a)
combined _ x y = x

-- a list is cut here: outside all brackets, by a token of the rank, with no such token later
pub record Cuts (k : ℕ) (us : List Token) (t : Token) (vs : List Token) : Type 0 where
  pub level : depth 0 us ≡ 0
  pub is : rank (ended false us) t ≡ k
  pub later : Free k (depth_after 0 t) (ends t) vs

-- a list has its last cut at a place
pub record CutsAt (k : ℕ) (ts : List Token) (i : ℕ) : Type 0 where
  pub prefix : List Token
  pub token : Token
  pub rest : List Token
  pub whole : ts ≡ prefix ++ token ∷ rest
  pub place : length prefix ≡ i
  pub cuts : Cuts k prefix token rest

-- all the places at which a list is cut, the last one first at the end
pub data AreCuts (k : ℕ) : List Token → List ℕ → Type 0 where
  no_more : {ts : List Token} → Free k 0 false ts → AreCuts k ts []
  further_cut : {ts : List Token} (is : List ℕ) (i : ℕ) → CutsAt k ts i → AreCuts k (take i ts) is
      → AreCuts k ts (is ++ i ∷ [])

-- a list has its first cut at a place
pub record FirstAt (k : ℕ) (ts : List Token) (i : ℕ) : Type 0 where
  pub prefix : List Token
  pub token : Token
  pub rest : List Token
  pub whole : ts ≡ prefix ++ token ∷ rest
  pub place : length prefix ≡ i
  pub level : depth 0 prefix ≡ 0
  pub is : rank (ended false prefix) token ≡ k
  pub before : Free k 0 false prefix

abbrev pub FoundFirst : ℕ → List Token → Option ℕ → Type 0
FoundFirst k ts None = Free k 0 false ts
FoundFirst k ts (Some i) = FirstAt k ts i

-- what a parser of a symbol answers: a phrase that is derived, or that none is, unless memory runs out
abbrev pub Answers : {X : Type 0} → Symbol → (X → Phrase) → List Token → Result X Fault → Type 0
Answers s view ts (Ok x) = Derives s ts (view x)
Answers s view ts (Err Syntax) = (e : Phrase) → Derives s ts e → ⊥
Answers s view ts (Err NoMemory) = Unit {0}

-- the expression, as a phrase
abbrev pub as_expr : Expr → Phrase
as_expr e = expr (tree_of e)

abbrev pub as_exprs : Exprs → Phrase
as_exprs es = exprs (trees_of es)

abbrev pub as_walk : Steps → Phrase
as_walk s = walk (walk_of s)

abbrev pub form : Binary → Level
form rust.Or = OrLevel
form rust.And = AndLevel
form rust.Equality = EqualityLevel
form rust.Relational = RelationalLevel
form rust.Additive = AdditiveLevel
form rust.Multiplicative = MultiplicativeLevel
form rust.Union = UnionLevel

-- an operator of an expression, between two parts
abbrev pub IsBinary : Token → Type 0
IsBinary Or = Unit {0}
IsBinary And = Unit {0}
IsBinary (Compare how) = Unit {0}
IsBinary (Arithmetic op) = Unit {0}
IsBinary Bar = Unit {0}
IsBinary _ = ⊥

-- how many calls a level is above the unary expressions
abbrev pub height : Binary → ℕ
height rust.Or = 16
height rust.And = 15
height rust.Equality = 14
height rust.Relational = 13
height rust.Additive = 12
height rust.Multiplicative = 11
height rust.Union = 8

-- what a part that only needs memory answers
abbrev pub Gives : {X : Type 0} → Result X Fault → (X → Type 0) → Type 0
Gives (Ok x) P = P x
Gives (Err Syntax) P = ⊥
Gives (Err NoMemory) P = Unit {0}

-- a path after an expression
abbrev pub after_slash : Token → Walk → Walk
after_slash SlashSlash w = any_depth w
after_slash _ w = w

abbrev pub step_walk : Step → Walk
step_walk s = go (out-Step s).axis (out-Step s).test (trees_of (out-Step s).predicates) stop

abbrev pub as_step : Step → Phrase
as_step s = walk (step_walk s)

pub record DerivesFilter (ts : List Token) (e : Tree) : Type 0 where
  pub start : Tree
  pub predicates : Trees
  pub derived : Derives FilterExpr ts (filtered start predicates)
  pub value : e ≡ filter_tree start predicates

abbrev pub AnswersFilter : List Token → Result Expr Fault → Type 0
AnswersFilter ts (Ok e) = DerivesFilter ts (tree_of e)
AnswersFilter ts (Err Syntax) = (e : Phrase) → Derives FilterExpr ts e → ⊥
AnswersFilter ts (Err NoMemory) = Unit {0}

-- the tree of two with an operator between
abbrev pub tree_join : Token → Tree → Tree → Tree
tree_join Or a b = or a b
tree_join And a b = and a b
tree_join (Compare how) a b = compare how a b
tree_join (Arithmetic op) a b = arithmetic op a b
tree_join Bar a b = union a b
tree_join _ a b = a

-- a tree with operators and operands after it, of which the last come first
abbrev pub applied : Tree → List (Bor Token × Expr) → Tree
applied a [] = a
applied a (p ∷ ps) = tree_join p.0.now (applied a ps) (tree_of p.1)

abbrev pub AreBinary : List (Bor Token × Expr) → Type 0
AreBinary [] = Unit {0}
AreBinary (p ∷ ps) = IsBinary p.0.now × AreBinary ps

abbrev pub is_minus : Token → Bool
is_minus (Arithmetic Subtract) = true
is_minus _ = false

-- how many minus signs are at the start
abbrev pub leading_minuses : List Token → ℕ
leading_minuses [] = 0
leading_minuses (t ∷ ts) = cond (is_minus t) (suc (leading_minuses ts)) 0

abbrev pub negations : ℕ → Tree → Tree
negations zero a = a
negations (suc n) a = negate (negations n a)
