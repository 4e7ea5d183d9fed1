-- The grammar of XPath 1.0 over token lists, cut anywhere.
use Rattle.std.specs.Prelude.{◌≡◌, ℕ, zero, suc, List, [], ◌∷◌, ◌++◌, Bool, true, false}
use Rattle.xml_model.specs.declared.Axis.TheVariants as axis
use Rattle.xpath_tokens.specs.declared.Comparison.{Comparison}
use Rattle.xpath_tokens.specs.declared.Comparison.TheVariants.{Equal, Unequal, Less, Greater, AtMost, AtLeast}
use Rattle.xpath_tokens.specs.declared.Operator.{Operator}
use Rattle.xpath_tokens.specs.declared.Operator.TheVariants.{Add, Subtract, Multiply, Divide, Modulo}
use Rattle.xpath_tokens.specs.declared.StepAxis.{StepAxis}
use Rattle.xpath_tokens.specs.declared.StepAxis.TheVariants.{Known}
use Rattle.xpath_tokens.specs.declared.NodeType.{NodeType}
use Rattle.xpath_tokens.specs.declared.NodeType.TheVariants as kind
use Rattle.xpath_tokens.specs.declared.Token.{Token}
use Rattle.xpath_tokens.specs.declared.Token.TheVariants.{Open, Close, OpenSquare, CloseSquare, Dot, DotDot, At}
use Rattle.xpath_tokens.specs.declared.Token.TheVariants.{Comma, ColonColon, Any, AnyIn, Named, Kind, Or, And}
use Rattle.xpath_tokens.specs.declared.Token.TheVariants.{Compare, Arithmetic, Bar, Slash, SlashSlash, Function}
use Rattle.xpath_tokens.specs.declared.Token.TheVariants.{AxisName, Literal, Number, Variable}
use Rattle.xpath_tokens.specs.Tokens.{closes_operand}
use Rattle.xpath_grammar.specs.declared.expr.StepTest.{StepTest}
use Rattle.xpath_grammar.specs.declared.expr.StepTest.TheVariants as test
use Rattle.xpath_grammar.specs.Tree.{Tree, Trees, Walk, or, and, union, compare, arithmetic, negate, path, from}
use Rattle.xpath_grammar.specs.Tree.{filter, literal, number, variable, call, none, more, stop, go}

-- the symbols of the grammar
pub data Symbol : Type 0 where
  OrExpr AndExpr EqualityExpr RelationalExpr AdditiveExpr MultiplicativeExpr UnaryExpr : Symbol
  UnionExpr PathExpr FilterExpr PrimaryExpr Arguments LocationPath RelativeLocationPath : Symbol
  StepPart Predicates Predicate : Symbol

-- what a symbol stands for
pub data Phrase : Type 0 where
  expr : Tree → Phrase
  exprs : Trees → Phrase
  filtered : Tree → Trees → Phrase
  walk : Walk → Phrase

-- one more at the end
abbrev pub appended : Trees → Tree → Trees
appended none e = more e none
appended (more x xs) e = more x (appended xs e)

abbrev pub joined : Walk → Walk → Walk
joined stop w = w
joined (go axis test predicates v) w = go axis test predicates (joined v w)

-- a filter without predicates is its start
abbrev pub filter_tree : Tree → Trees → Tree
filter_tree e none = e
filter_tree e (more p ps) = filter e (more p ps)

-- the step that // stands for (XPath 1.0, section 2.5)
abbrev pub any_depth : Walk → Walk
any_depth w = go (Known axis.DescendantOrSelf) test.Node none w

pub data IsEquality : Comparison → Type 0 where
  equal : IsEquality Equal
  unequal : IsEquality Unequal

pub data IsRelational : Comparison → Type 0 where
  less : IsRelational Less
  greater : IsRelational Greater
  at_most : IsRelational AtMost
  at_least : IsRelational AtLeast

pub data IsAdditive : Operator → Type 0 where
  plus : IsAdditive Add
  minus : IsAdditive Subtract

pub data IsMultiplicative : Operator → Type 0 where
  times : IsMultiplicative Multiply
  divided : IsMultiplicative Divide
  modulo : IsMultiplicative Modulo

-- the axis of a step; nothing stands for child:: (XPath 1.0, productions 5 and 13)
pub data IsAxis : List Token → StepAxis → Type 0 where
  axis_name : {a : StepAxis} → IsAxis (AxisName a ∷ ColonColon ∷ []) a
  axis_at : IsAxis (At ∷ []) (Known axis.Attribute)
  axis_child : IsAxis [] (Known axis.Child)

abbrev pub kind_test : NodeType → StepTest
kind_test kind.Comment = test.Comment
kind_test kind.Text = test.Text
kind_test kind.Instruction = test.Instruction
kind_test kind.Node = test.Node

-- the node test of a step (XPath 1.0, productions 7 and 37)
pub data IsTest : List Token → StepTest → Type 0 where
  test_any : IsTest (Any ∷ []) test.Any
  test_any_in : {p : List ℕ} → IsTest (AnyIn p ∷ []) (test.AnyIn p)
  test_named : {p n : List ℕ} → IsTest (Named p n ∷ []) (test.Named p n)
  test_kind : {k : NodeType} → IsTest (Kind k ∷ Open ∷ Close ∷ []) (kind_test k)
  test_target : {t : List ℕ} → IsTest (Kind kind.Instruction ∷ Open ∷ Literal t ∷ Close ∷ []) (test.Target t)

-- a symbol derives a token list, and stands for a phrase: a case for each production of XPath 1.0, sections 2 and 3
pub data Derives : Symbol → List Token → Phrase → Type 0 where
  or_one : {ts : List Token} {e : Phrase} → Derives AndExpr ts e → Derives OrExpr ts e
  or_more : {us vs : List Token} {a b : Tree} → Derives OrExpr us (expr a) → Derives AndExpr vs (expr b)
      → Derives OrExpr (us ++ Or ∷ vs) (expr (or a b))
  and_one : {ts : List Token} {e : Phrase} → Derives EqualityExpr ts e → Derives AndExpr ts e
  and_more : {us vs : List Token} {a b : Tree} → Derives AndExpr us (expr a) → Derives EqualityExpr vs (expr b)
      → Derives AndExpr (us ++ And ∷ vs) (expr (and a b))
  equality_one : {ts : List Token} {e : Phrase} → Derives RelationalExpr ts e → Derives EqualityExpr ts e
  equality_more : {us vs : List Token} {a b : Tree} {how : Comparison} → IsEquality how
      → Derives EqualityExpr us (expr a) → Derives RelationalExpr vs (expr b)
      → Derives EqualityExpr (us ++ Compare how ∷ vs) (expr (compare how a b))
  relational_one : {ts : List Token} {e : Phrase} → Derives AdditiveExpr ts e → Derives RelationalExpr ts e
  relational_more : {us vs : List Token} {a b : Tree} {how : Comparison} → IsRelational how
      → Derives RelationalExpr us (expr a) → Derives AdditiveExpr vs (expr b)
      → Derives RelationalExpr (us ++ Compare how ∷ vs) (expr (compare how a b))
  additive_one : {ts : List Token} {e : Phrase} → Derives MultiplicativeExpr ts e → Derives AdditiveExpr ts e
  additive_more : {us vs : List Token} {a b : Tree} {op : Operator} → IsAdditive op → Derives AdditiveExpr us (expr a)
      → Derives MultiplicativeExpr vs (expr b)
      → Derives AdditiveExpr (us ++ Arithmetic op ∷ vs) (expr (arithmetic op a b))
  multiplicative_one : {ts : List Token} {e : Phrase} → Derives UnaryExpr ts e → Derives MultiplicativeExpr ts e
  multiplicative_more : {us vs : List Token} {a b : Tree} {op : Operator} → IsMultiplicative op
      → Derives MultiplicativeExpr us (expr a) → Derives UnaryExpr vs (expr b)
      → Derives MultiplicativeExpr (us ++ Arithmetic op ∷ vs) (expr (arithmetic op a b))
  unary_one : {ts : List Token} {e : Phrase} → Derives UnionExpr ts e → Derives UnaryExpr ts e
  unary_minus : {ts : List Token} {a : Tree} → Derives UnaryExpr ts (expr a)
      → Derives UnaryExpr (Arithmetic Subtract ∷ ts) (expr (negate a))
  union_one : {ts : List Token} {e : Phrase} → Derives PathExpr ts e → Derives UnionExpr ts e
  union_more : {us vs : List Token} {a b : Tree} → Derives UnionExpr us (expr a) → Derives PathExpr vs (expr b)
      → Derives UnionExpr (us ++ Bar ∷ vs) (expr (union a b))
  path_location : {ts : List Token} {e : Phrase} → Derives LocationPath ts e → Derives PathExpr ts e
  path_filter : {ts : List Token} {a : Tree} {ps : Trees} → Derives FilterExpr ts (filtered a ps)
      → Derives PathExpr ts (expr (filter_tree a ps))
  path_slash : {us vs : List Token} {a : Tree} {ps : Trees} {w : Walk} → Derives FilterExpr us (filtered a ps)
      → Derives RelativeLocationPath vs (walk w)
      → Derives PathExpr (us ++ Slash ∷ vs) (expr (from (filter_tree a ps) w))
  path_slash_slash : {us vs : List Token} {a : Tree} {ps : Trees} {w : Walk} → Derives FilterExpr us (filtered a ps)
      → Derives RelativeLocationPath vs (walk w)
      → Derives PathExpr (us ++ SlashSlash ∷ vs) (expr (from (filter_tree a ps) (any_depth w)))
  filter_one : {ts : List Token} {a : Tree} → Derives PrimaryExpr ts (expr a) → Derives FilterExpr ts (filtered a none)
  filter_more : {us vs : List Token} {a p : Tree} {ps : Trees} → Derives FilterExpr us (filtered a ps)
      → Derives Predicate vs (expr p) → Derives FilterExpr (us ++ vs) (filtered a (appended ps p))
  primary_variable : {n : List ℕ} → Derives PrimaryExpr (Variable n ∷ []) (expr (variable n))
  primary_bracket : {ts : List Token} {a : Tree} → Derives OrExpr ts (expr a)
      → Derives PrimaryExpr (Open ∷ (ts ++ Close ∷ [])) (expr a)
  primary_literal : {t : List ℕ} → Derives PrimaryExpr (Literal t ∷ []) (expr (literal t))
  primary_number : {n : List ℕ} → Derives PrimaryExpr (Number n ∷ []) (expr (number n))
  call_none : {f : List ℕ} → Derives PrimaryExpr (Function f ∷ Open ∷ Close ∷ []) (expr (call f none))
  call_some : {f : List ℕ} {ts : List Token} {es : Trees} → Derives Arguments ts (exprs es)
      → Derives PrimaryExpr (Function f ∷ Open ∷ (ts ++ Close ∷ [])) (expr (call f es))
  arguments_one : {ts : List Token} {a : Tree} → Derives OrExpr ts (expr a) → Derives Arguments ts (exprs (more a none))
  arguments_more : {us vs : List Token} {a : Tree} {es : Trees} → Derives Arguments us (exprs es)
      → Derives OrExpr vs (expr a) → Derives Arguments (us ++ Comma ∷ vs) (exprs (appended es a))
  location_relative : {ts : List Token} {w : Walk} → Derives RelativeLocationPath ts (walk w)
      → Derives LocationPath ts (expr (path false w))
  location_root : Derives LocationPath (Slash ∷ []) (expr (path true stop))
  location_slash : {ts : List Token} {w : Walk} → Derives RelativeLocationPath ts (walk w)
      → Derives LocationPath (Slash ∷ ts) (expr (path true w))
  location_slash_slash : {ts : List Token} {w : Walk} → Derives RelativeLocationPath ts (walk w)
      → Derives LocationPath (SlashSlash ∷ ts) (expr (path true (any_depth w)))
  relative_one : {ts : List Token} {e : Phrase} → Derives StepPart ts e → Derives RelativeLocationPath ts e
  relative_slash : {us vs : List Token} {v w : Walk} → Derives RelativeLocationPath us (walk v)
      → Derives StepPart vs (walk w) → Derives RelativeLocationPath (us ++ Slash ∷ vs) (walk (joined v w))
  relative_slash_slash : {us vs : List Token} {v w : Walk} → Derives RelativeLocationPath us (walk v)
      → Derives StepPart vs (walk w)
      → Derives RelativeLocationPath (us ++ SlashSlash ∷ vs) (walk (joined v (any_depth w)))
  step : (us vs ws : List Token) {a : StepAxis} {t : StepTest} {ps : Trees} → IsAxis us a → IsTest vs t
      → Derives Predicates ws (exprs ps) → Derives StepPart (us ++ (vs ++ ws)) (walk (go a t ps stop))
  step_dot : Derives StepPart (Dot ∷ []) (walk (go (Known axis.Itself) test.Node none stop))
  step_dots : Derives StepPart (DotDot ∷ []) (walk (go (Known axis.Parent) test.Node none stop))
  predicates_none : Derives Predicates [] (exprs none)
  predicates_more : {us vs : List Token} {p : Tree} {ps : Trees} → Derives Predicates us (exprs ps)
      → Derives Predicate vs (expr p) → Derives Predicates (us ++ vs) (exprs (appended ps p))
  predicate : {ts : List Token} {a : Tree} → Derives OrExpr ts (expr a)
      → Derives Predicate (OpenSquare ∷ (ts ++ CloseSquare ∷ [])) (expr a)

-- whether a token ends an operand, so that a minus after it is binary
abbrev pub ends : Token → Bool
ends Slash = true
ends t = closes_operand t

-- how many brackets are open after a token
abbrev pub depth_after : ℕ → Token → ℕ
depth_after d Open = suc d
depth_after d OpenSquare = suc d
depth_after zero Close = zero
depth_after (suc d) Close = d
depth_after zero CloseSquare = zero
depth_after (suc d) CloseSquare = d
depth_after d _ = d

-- how many brackets are open after a list, and whether it ends an operand
abbrev pub depth : ℕ → List Token → ℕ
depth d [] = d
depth d (t ∷ ts) = depth (depth_after d t) ts

abbrev pub ended : Bool → List Token → Bool
ended b [] = b
ended b (t ∷ ts) = ended (ends t) ts

-- where a symbol may be: after what ends an operand, or not
abbrev pub MayFollow : Symbol → Bool → Type 0
MayFollow Arguments b = b ≡ false
MayFollow OrExpr b = b ≡ false
MayFollow AndExpr b = b ≡ false
MayFollow EqualityExpr b = b ≡ false
MayFollow RelationalExpr b = b ≡ false
MayFollow AdditiveExpr b = b ≡ false
MayFollow MultiplicativeExpr b = b ≡ false
MayFollow UnaryExpr b = b ≡ false
MayFollow Predicates b = b ≡ true
MayFollow _ b = Unit {0}
