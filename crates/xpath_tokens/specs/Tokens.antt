-- How a text splits into tokens. A text is a list of code points.
use Rattle.std.specs.Prelude.{◌≡◌, ℕ, Bool, true, false, cond, ◌&&◌, ◌||◌, List, [], ◌∷◌, ◌++◌, ◌==◌, Option, Some}
use Rattle.std.specs.Prelude.{None, codes}
use Rattle.std.specs.List.{list_all, list_any}
use Rattle.std.specs.Str.{bytes_eq}
use Rattle.xml_model.specs.declared.Axis.TheVariants as axis
use Rattle.xml_model.specs.Chars.{is_space, is_blank, is_ncname}
use Rattle.xpath_tokens.specs.declared.Comparison.TheVariants.{Equal, Unequal, Less, Greater, AtMost, AtLeast}
use Rattle.xpath_tokens.specs.declared.Operator.TheVariants.{Add, Subtract, Multiply, Divide, Modulo}
use Rattle.xpath_tokens.specs.declared.StepAxis.{StepAxis}
use Rattle.xpath_tokens.specs.declared.StepAxis.TheVariants.{Known, Namespace}
use Rattle.xpath_tokens.specs.declared.NodeType.{NodeType}
use Rattle.xpath_tokens.specs.declared.NodeType.TheVariants as kind
use Rattle.xpath_tokens.specs.declared.Token.{Token}
use Rattle.xpath_tokens.specs.declared.Token.TheVariants.{Open, Close, OpenSquare, CloseSquare, Dot, DotDot, At}
use Rattle.xpath_tokens.specs.declared.Token.TheVariants.{Comma, ColonColon, Any, AnyIn, Named, Kind, Or, And}
use Rattle.xpath_tokens.specs.declared.Token.TheVariants.{Compare, Arithmetic, Bar, Slash, SlashSlash, Function}
use Rattle.xpath_tokens.specs.declared.Token.TheVariants.{AxisName, Literal, Number, Variable}

-- The words: the spellings of tokens.

-- ( ) [ ] . @ , * | + - = < > / (XPath 1.0, productions 28 to 34)
abbrev pub is_single : ℕ → Bool
is_single c = list_any (λ s. s == c) (codes "()[].@,*|+-=<>/")

-- .. :: // != <= >=
abbrev pub is_pair : ℕ → ℕ → Bool
is_pair c d =
    (c == 46 && d == 46) || (c == 58 && d == 58) || (c == 47 && d == 47)
    || (list_any (λ s. s == c) (codes "!<>") && d == 61)

abbrev pub is_symbol : List ℕ → Bool
is_symbol (c ∷ []) = is_single c
is_symbol (c ∷ d ∷ []) = is_pair c d
is_symbol _ = false

-- a name, or two joined by one colon (Namespaces in XML 1.0, productions 7 to 9)
pub data IsQName : List ℕ → Type 0 where
  plain : {n : List ℕ} → is_ncname n ≡ true → IsQName n
  prefixed : (p n : List ℕ) → is_ncname p ≡ true → is_ncname n ≡ true → IsQName (p ++ 58 ∷ n)

abbrev pub is_decimal_digit : ℕ → Bool
is_decimal_digit c = list_any (λ s. s == c) (codes "0123456789")

-- one or more digits
abbrev pub are_digits : List ℕ → Bool
are_digits [] = false
are_digits (c ∷ cs) = list_all is_decimal_digit (c ∷ cs)

-- digits, digits with a point after or within, or a point and digits (XPath 1.0, productions 30 and 31)
pub data IsNumber : List ℕ → Type 0 where
  whole : {ds : List ℕ} → are_digits ds ≡ true → IsNumber ds
  pointed : (ds es : List ℕ) → are_digits ds ≡ true → list_all is_decimal_digit es ≡ true → IsNumber (ds ++ 46 ∷ es)
  after_point : {es : List ℕ} → are_digits es ≡ true → IsNumber (46 ∷ es)

abbrev pub is_quote : ℕ → Bool
is_quote c = c == 34 || c == 39

-- a word is a symbol, a name, a prefix with :*, a literal, a number or a variable reference
-- (XPath 1.0, productions 28 to 37)
pub data IsWord : List ℕ → Type 0 where
  symbol : {w : List ℕ} → is_symbol w ≡ true → IsWord w
  name : {w : List ℕ} → IsQName w → IsWord w
  any_in : (p : List ℕ) → is_ncname p ≡ true → IsWord (p ++ 58 ∷ 42 ∷ [])
  literal : (q : ℕ) (t : List ℕ) → is_quote q ≡ true → list_any (λ c. c == q) t ≡ false → IsWord (q ∷ (t ++ q ∷ []))
  number : {w : List ℕ} → IsNumber w → IsWord w
  variable : {w : List ℕ} → IsQName w → IsWord (36 ∷ w)

-- a word is as long as it can be: none goes on into what is after it
abbrev pub IsLongest : List ℕ → List ℕ → Type 0
IsLongest w rest = (beyond after : List ℕ) → rest ≡ beyond ++ after → IsWord (w ++ beyond) → beyond ≡ []

-- Which token a word is.

-- a token that can end an operand: none of @, ::, (, [, the comma and the operators (XPath 1.0, section 3.7)
abbrev pub closes_operand : Token → Bool
closes_operand At = false
closes_operand ColonColon = false
closes_operand Open = false
closes_operand OpenSquare = false
closes_operand Comma = false
closes_operand Or = false
closes_operand And = false
closes_operand (Compare c) = false
closes_operand (Arithmetic op) = false
closes_operand Bar = false
closes_operand Slash = false
closes_operand SlashSlash = false
closes_operand _ = true

abbrev pub find_named : {X : Type 0} → List (List ℕ × X) → List ℕ → Option X
find_named [] w = None
find_named (p ∷ ps) w = cond (bytes_eq w p.0) (Some p.1) (find_named ps w)

abbrev pub delimiters : List (List ℕ × Token)
delimiters =
    (codes "(", Open) ∷ (codes ")", Close) ∷ (codes "[", OpenSquare) ∷ (codes "]", CloseSquare) ∷ (codes ".", Dot)
    ∷ (codes "..", DotDot) ∷ (codes "@", At) ∷ (codes ",", Comma) ∷ (codes "::", ColonColon) ∷ []

-- the operators that are no names, but *
abbrev pub operator_signs : List (List ℕ × Token)
operator_signs =
    (codes "|", Bar) ∷ (codes "/", Slash) ∷ (codes "//", SlashSlash) ∷ (codes "+", Arithmetic Add)
    ∷ (codes "-", Arithmetic Subtract) ∷ (codes "=", Compare Equal) ∷ (codes "!=", Compare Unequal)
    ∷ (codes "<", Compare Less) ∷ (codes ">", Compare Greater) ∷ (codes "<=", Compare AtMost)
    ∷ (codes ">=", Compare AtLeast) ∷ []

-- the operators that are names (XPath 1.0, production 33)
abbrev pub operator_names : List (List ℕ × Token)
operator_names =
    (codes "or", Or) ∷ (codes "and", And) ∷ (codes "div", Arithmetic Divide) ∷ (codes "mod", Arithmetic Modulo) ∷ []

-- XPath 1.0, production 38
abbrev pub node_types : List (List ℕ × NodeType)
node_types =
    (codes "comment", kind.Comment) ∷ (codes "text", kind.Text)
    ∷ (codes "processing-instruction", kind.Instruction) ∷ (codes "node", kind.Node) ∷ []

-- XPath 1.0, production 6
abbrev pub axis_names : List (List ℕ × StepAxis)
axis_names =
    (codes "child", Known axis.Child) ∷ (codes "descendant", Known axis.Descendant)
    ∷ (codes "parent", Known axis.Parent) ∷ (codes "ancestor", Known axis.Ancestor)
    ∷ (codes "following-sibling", Known axis.FollowingSibling)
    ∷ (codes "preceding-sibling", Known axis.PrecedingSibling) ∷ (codes "following", Known axis.Following)
    ∷ (codes "preceding", Known axis.Preceding) ∷ (codes "attribute", Known axis.Attribute)
    ∷ (codes "self", Known axis.Itself) ∷ (codes "descendant-or-self", Known axis.DescendantOrSelf)
    ∷ (codes "ancestor-or-self", Known axis.AncestorOrSelf)
    ∷ (codes "namespace", Namespace) ∷ []

-- what is after a word, white space aside
abbrev pub starts_open : List ℕ → Bool
starts_open (c ∷ cs) = c == 40
starts_open [] = false

abbrev pub starts_colons : List ℕ → Bool
starts_colons (c ∷ d ∷ cs) = c == 58 && d == 58
starts_colons _ = false

-- what is after the white space at the start
abbrev pub after_space : List ℕ → List ℕ
after_space [] = []
after_space (c ∷ cs) = cond (is_space c) (after_space cs) (c ∷ cs)

abbrev pub before_open : List ℕ → Bool
before_open rest = starts_open (after_space rest)

abbrev pub before_colons : List ℕ → Bool
before_colons rest = starts_colons (after_space rest)

-- the token that a word is, after an operand or not, and before the rest: a case for each class of tokens (XPath 1.0,
-- section 3.7). After an operand * is an operator, and a name is one or no token. Elsewhere a name before ( is a node
-- type or a function's name, a name without a colon before :: is an axis name, and any other name is a name test, as *
-- is. A prefix with :* is a name test everywhere
pub data IsToken (after : Bool) (rest : List ℕ) : List ℕ → Token → Type 0 where
  is_delimiter : {w : List ℕ} {t : Token} → find_named delimiters w ≡ Some t → IsToken after rest w t
  is_sign : {w : List ℕ} {t : Token} → find_named operator_signs w ≡ Some t → IsToken after rest w t
  is_times : after ≡ true → IsToken after rest (codes "*") (Arithmetic Multiply)
  is_operator_name : {w : List ℕ} {t : Token} → after ≡ true → find_named operator_names w ≡ Some t
      → IsToken after rest w t
  is_node_type : {w : List ℕ} {k : NodeType} → after ≡ false → before_open rest ≡ true
      → find_named node_types w ≡ Some k → IsToken after rest w (Kind k)
  is_function : {w : List ℕ} → after ≡ false → before_open rest ≡ true → find_named node_types w ≡ None → IsQName w
      → IsToken after rest w (Function w)
  is_axis : {w : List ℕ} {a : StepAxis} → after ≡ false → before_colons rest ≡ true → find_named axis_names w ≡ Some a
      → IsToken after rest w (AxisName a)
  is_any : after ≡ false → IsToken after rest (codes "*") Any
  is_any_in : {p : List ℕ} → is_ncname p ≡ true → IsToken after rest (p ++ 58 ∷ 42 ∷ []) (AnyIn p)
  is_name : {n : List ℕ} → after ≡ false → before_open rest ≡ false → before_colons rest ≡ false → is_ncname n ≡ true
      → IsToken after rest n (Named [] n)
  is_prefixed : {p n : List ℕ} → after ≡ false → before_open rest ≡ false → is_ncname p ≡ true → is_ncname n ≡ true
      → IsToken after rest (p ++ 58 ∷ n) (Named p n)
  is_literal : {q : ℕ} {t : List ℕ} → is_quote q ≡ true → list_any (λ c. c == q) t ≡ false
      → IsToken after rest (q ∷ (t ++ q ∷ [])) (Literal t)
  is_number : {w : List ℕ} → IsNumber w → IsToken after rest w (Number w)
  is_variable : {n : List ℕ} → IsQName n → IsToken after rest (36 ∷ n) (Variable n)

-- a text splits into tokens, after an operand or not: white space, a word as long as it can be, and what is left
-- after the token that it is
pub data Splits : Bool → List ℕ → List Token → Type 0 where
  done : {after : Bool} {space : List ℕ} → is_blank space ≡ true → Splits after space []
  next : {after : Bool} (space w rest : List ℕ) {t : Token} {ts : List Token} → is_blank space ≡ true → IsWord w
      → IsLongest w rest → IsToken after rest w t → Splits (closes_operand t) rest ts
      → Splits after (space ++ (w ++ rest)) (t ∷ ts)
