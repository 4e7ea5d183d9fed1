-- Which token a word is, as the working functions find it: by the word's first characters and what is around it.
use Rattle.std.specs.Prelude.{ℕ, Bool, true, false, cond, ◌||◌, List, [], ◌∷◌, ◌==◌, ◌-◌, length, take, drop, Option}
use Rattle.std.specs.Prelude.{Some, None, codes, option_map}
use Rattle.std.specs.List.{list_any}
use Rattle.std.specs.Str.{bytes_eq}
use Rattle.xml_model.specs.Chars.{has_colon, prefix_of, local_of}
use Rattle.xpath_tokens.specs.declared.Operator.TheVariants.{Multiply}
use Rattle.xpath_tokens.specs.declared.NodeType.{NodeType}
use Rattle.xpath_tokens.specs.declared.lexer.WordKind.{WordKind}
use Rattle.xpath_tokens.specs.declared.lexer.WordKind.TheVariants as word
use Rattle.xpath_tokens.specs.declared.Token.{Token}
use Rattle.xpath_tokens.specs.declared.Token.TheVariants.{Any, AnyIn, Named, Kind, Arithmetic, Function, AxisName}
use Rattle.xpath_tokens.specs.declared.Token.TheVariants.{Literal, Number, Variable}
use Rattle.xpath_tokens.specs.Tokens.{is_symbol, is_quote, is_decimal_digit, find_named, delimiters, operator_signs}
use Rattle.xpath_tokens.specs.Tokens.{operator_names, node_types, axis_names, before_open, before_colons}

-- what is before a name, and after it, white space aside
pub data Place : Type 0 where
  after_operand at_open at_colons elsewhere : Place

abbrev pub place : Bool → List ℕ → Place
place after rest =
    cond after after_operand (cond (before_open rest) at_open (cond (before_colons rest) at_colons elsewhere))

abbrev pub call_token : List ℕ → Option NodeType → Token
call_token w (Some k) = Kind k
call_token w None = Function w

abbrev pub named_token : List ℕ → Token
named_token w = Named (prefix_of w) (local_of w)

abbrev pub axis_token : List ℕ → Option Token
axis_token w = cond (has_colon w) (Some (named_token w)) (option_map AxisName (find_named axis_names w))

abbrev pub name_token : List ℕ → Place → Option Token
name_token w after_operand = find_named operator_names w
name_token w at_open = Some (call_token w (find_named node_types w))
name_token w at_colons = axis_token w
name_token w elsewhere = Some (named_token w)

abbrev pub star_token : Bool → Token
star_token true = Arithmetic Multiply
star_token false = Any

abbrev pub without_last : {X : Type 0} → List X → List X
without_last xs = take (length xs - 1) xs

abbrev pub has_star : List ℕ → Bool
has_star cs = list_any (λ c. c == 42) cs

abbrev pub or_else : {X : Type 0} → Option X → Option X → Option X
or_else (Some x) o = Some x
or_else None o = o

-- a word that is a symbol but *, by its spelling
abbrev pub fixed_token : List ℕ → Option Token
fixed_token w = or_else (find_named delimiters w) (find_named operator_signs w)

abbrev pub symbol_token : Bool → List ℕ → Option Token
symbol_token after w = cond (bytes_eq w (codes "*")) (Some (star_token after)) (fixed_token w)

-- the kind of a word, which its first character shows, and whether it has a *
abbrev pub kind_by_first : List ℕ → WordKind
kind_by_first [] = word.Name
kind_by_first (c ∷ cs) =
    cond (is_quote c) word.Literal
    (cond (c == 36) word.Variable
    (cond (is_decimal_digit c || c == 46) word.Number
    (cond (has_star cs) word.AnyIn word.Name)))

abbrev pub kind_of : List ℕ → WordKind
kind_of w = cond (is_symbol w) word.Symbol (kind_by_first w)

abbrev pub token_by_kind : WordKind → Bool → List ℕ → List ℕ → Option Token
token_by_kind word.Symbol after w rest = symbol_token after w
token_by_kind word.Literal after w rest = Some (Literal (without_last (drop 1 w)))
token_by_kind word.Variable after w rest = Some (Variable (drop 1 w))
token_by_kind word.Number after w rest = Some (Number w)
token_by_kind word.AnyIn after w rest = Some (AnyIn (prefix_of w))
token_by_kind word.Name after w rest = name_token w (place after rest)

abbrev pub token_of : Bool → List ℕ → List ℕ → Option Token
token_of after w rest = token_by_kind (kind_of w) after w rest
