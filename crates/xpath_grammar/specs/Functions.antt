-- The core functions of XPath 1.0, section 4, and the types of expressions.
use Rattle.std.specs.Prelude.{ℕ, suc, Bool, true, false, ◌&&◌, List, [], ◌∷◌, ◌++◌, nat_le, codes, Option, Some, None}
use Rattle.std.specs.Str.{chars}
use Rattle.xpath_tokens.specs.Tokens.{find_named}
use Rattle.xpath_grammar.specs.declared.functions.ValueType.{ValueType}
use Rattle.xpath_grammar.specs.declared.functions.ValueType.TheVariants as type
use Rattle.xpath_grammar.specs.declared.functions.Signature.{Signature}
use Rattle.xpath_grammar.specs.Tree.{Tree, Trees, or, and, union, compare, arithmetic, negate, path, from, filter}
use Rattle.xpath_grammar.specs.Tree.{literal, number, variable, call, none, more}

-- a function of so many arguments at least and at most
abbrev pub takes : ℕ → ℕ → ValueType → Signature
takes least most answer = record { least = least; most = Some most; nodes = false; answer = answer }

-- the same, whose first argument is a node-set
abbrev pub takes_nodes : ℕ → ℕ → ValueType → Signature
takes_nodes least most answer = record { least = least; most = Some most; nodes = true; answer = answer }

-- a function of so many arguments at least
abbrev pub takes_many : ℕ → ValueType → Signature
takes_many least answer = record { least = least; most = None; nodes = false; answer = answer }

-- XPath 1.0, section 4.1; id is left out
abbrev pub node_set_functions : List (List ℕ × Signature)
node_set_functions =
    (chars (codes "last"), takes 0 0 type.Number)
    ∷ (chars (codes "position"), takes 0 0 type.Number)
    ∷ (chars (codes "count"), takes_nodes 1 1 type.Number)
    ∷ (chars (codes "local-name"), takes_nodes 0 1 type.Text)
    ∷ (chars (codes "namespace-uri"), takes_nodes 0 1 type.Text)
    ∷ (chars (codes "name"), takes_nodes 0 1 type.Text) ∷ []

-- XPath 1.0, section 4.2, where no text is sought in another
abbrev pub string_functions : List (List ℕ × Signature)
string_functions =
    (chars (codes "string"), takes 0 1 type.Text)
    ∷ (chars (codes "concat"), takes_many 2 type.Text)
    ∷ (chars (codes "substring"), takes 2 3 type.Text)
    ∷ (chars (codes "string-length"), takes 0 1 type.Number)
    ∷ (chars (codes "normalize-space"), takes 0 1 type.Text)
    ∷ (chars (codes "translate"), takes 3 3 type.Text) ∷ []

-- XPath 1.0, section 4.2, where a text is sought in another
abbrev pub finding_functions : List (List ℕ × Signature)
finding_functions =
    (chars (codes "starts-with"), takes 2 2 type.Truth)
    ∷ (chars (codes "contains"), takes 2 2 type.Truth)
    ∷ (chars (codes "substring-before"), takes 2 2 type.Text)
    ∷ (chars (codes "substring-after"), takes 2 2 type.Text) ∷ []

-- XPath 1.0, section 4.3
abbrev pub boolean_functions : List (List ℕ × Signature)
boolean_functions =
    (chars (codes "boolean"), takes 1 1 type.Truth)
    ∷ (chars (codes "not"), takes 1 1 type.Truth)
    ∷ (chars (codes "true"), takes 0 0 type.Truth)
    ∷ (chars (codes "false"), takes 0 0 type.Truth)
    ∷ (chars (codes "lang"), takes 1 1 type.Truth) ∷ []

-- XPath 1.0, section 4.4
abbrev pub number_functions : List (List ℕ × Signature)
number_functions =
    (chars (codes "number"), takes 0 1 type.Number)
    ∷ (chars (codes "sum"), takes_nodes 1 1 type.Number)
    ∷ (chars (codes "floor"), takes 1 1 type.Number)
    ∷ (chars (codes "ceiling"), takes 1 1 type.Number)
    ∷ (chars (codes "round"), takes 1 1 type.Number) ∷ []

-- the core functions
abbrev pub functions : List (List ℕ × Signature)
functions = node_set_functions ++ (string_functions ++ (finding_functions ++ (boolean_functions ++ number_functions)))

-- what a function takes and answers; none where it is not known
abbrev pub signature_of : List ℕ → Option Signature
signature_of f = find_named functions f

abbrev pub answer_of : Option Signature → ValueType
answer_of None = type.Any
answer_of (Some s) = s.answer

-- the type of an expression; a variable and a call of a function that is not known pass as any
abbrev pub type_of : Tree → ValueType
type_of (or a b) = type.Truth
type_of (and a b) = type.Truth
type_of (compare how a b) = type.Truth
type_of (arithmetic op a b) = type.Number
type_of (negate a) = type.Number
type_of (union a b) = type.Nodes
type_of (path absolute w) = type.Nodes
type_of (from e w) = type.Nodes
type_of (filter e ps) = type.Nodes
type_of (literal t) = type.Text
type_of (number t) = type.Number
type_of (variable n) = type.Any
type_of (call f es) = answer_of (signature_of f)

abbrev pub is_nodes : ValueType → Bool
is_nodes type.Nodes = true
is_nodes type.Any = true
is_nodes _ = false

-- whether an expression may be where nodes are needed
abbrev pub gives_nodes : Tree → Bool
gives_nodes t = is_nodes (type_of t)

abbrev pub count : Trees → ℕ
count none = 0
count (more e es) = suc (count es)

abbrev pub is_within : Option ℕ → ℕ → Bool
is_within None n = true
is_within (Some most) n = nat_le n most

-- the number of arguments fits
abbrev pub fits : Signature → Trees → Bool
fits s es = nat_le s.least (count es) && is_within s.most (count es)
