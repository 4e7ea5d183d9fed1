-- The core functions: XPath 1.0, section 4.
use Rattle.std.specs.Prelude.{ℕ, pos, Bool, true, false, not, ◌*◌, List, [], ◌∷◌, ◌++◌, length, codes, bytes_eq}
use Rattle.std.specs.Prelude.{Option, Some, None, unwrap_or, Ok, find}
use Rattle.std.specs.List.{flat_map, slice_get}
use Rattle.std.specs.Str.{chars}
use Rattle.xml_model.specs.Items.{Tag}
use Rattle.xml_model.specs.Chars.{local_of}
use Rattle.xml_model.specs.Names.{Expanded, expanded, scope, first_of}
use Rattle.xml_model.specs.Tree.{Thing, Entry}
use Rattle.xpath_tokens.specs.Tokens.{find_named}
use Rattle.xpath_values.specs.declared.Number.{Number}
use Rattle.xpath_values.specs.Answers.{Answer, and_then, with}
use Rattle.xpath_values.specs.Numbers.{counted, in_range, one, floor, ceiling, round}
use Rattle.xpath_values.specs.Texts.{starts_with, contains, substring_before, substring_after, substring}
use Rattle.xpath_values.specs.Texts.{normalize_space, translate, is_language}
use Rattle.xpath_values.specs.Values.{Meant, nodes, truth, number, text, string_of, number_of, truth_of, sum_of_nodes}
use Rattle.xpath_meaning.specs.declared.function.Function.{Function}
use Rattle.xpath_meaning.specs.declared.function.Function.TheVariants as f
use Rattle.xpath_meaning.specs.Context.{Context, nodes_in}

-- XPath 1.0, section 4.1; id is left out
abbrev pub node_functions : List (List ℕ × Function)
node_functions =
    (chars (codes "last"), f.Last) ∷ (chars (codes "position"), f.Position) ∷ (chars (codes "count"), f.Count)
    ∷ (chars (codes "local-name"), f.LocalName) ∷ (chars (codes "namespace-uri"), f.NamespaceUri)
    ∷ (chars (codes "name"), f.Name) ∷ []

-- XPath 1.0, section 4.2, where no text is sought in another
abbrev pub text_functions : List (List ℕ × Function)
text_functions =
    (chars (codes "string"), f.AsString) ∷ (chars (codes "concat"), f.Concat)
    ∷ (chars (codes "substring"), f.Substring) ∷ (chars (codes "string-length"), f.StringLength)
    ∷ (chars (codes "normalize-space"), f.NormalizeSpace) ∷ (chars (codes "translate"), f.Translate) ∷ []

-- XPath 1.0, section 4.2, where a text is sought in another
abbrev pub seeking_functions : List (List ℕ × Function)
seeking_functions =
    (chars (codes "starts-with"), f.StartsWith) ∷ (chars (codes "contains"), f.Contains)
    ∷ (chars (codes "substring-before"), f.SubstringBefore)
    ∷ (chars (codes "substring-after"), f.SubstringAfter) ∷ []

-- XPath 1.0, section 4.3
abbrev pub truth_functions : List (List ℕ × Function)
truth_functions =
    (chars (codes "boolean"), f.AsBoolean) ∷ (chars (codes "not"), f.Not) ∷ (chars (codes "true"), f.IsTrue)
    ∷ (chars (codes "false"), f.IsFalse) ∷ (chars (codes "lang"), f.Lang) ∷ []

-- XPath 1.0, section 4.4
abbrev pub number_functions : List (List ℕ × Function)
number_functions =
    (chars (codes "number"), f.AsNumber) ∷ (chars (codes "sum"), f.Sum) ∷ (chars (codes "floor"), f.Floor)
    ∷ (chars (codes "ceiling"), f.Ceiling) ∷ (chars (codes "round"), f.Round) ∷ []

-- the functions by their names
abbrev pub functions : List (List ℕ × Function)
functions = node_functions ++ (text_functions ++ (seeking_functions ++ (truth_functions ++ number_functions)))

abbrev pub function_named : List ℕ → Option Function
function_named name = find_named functions name

-- Arguments.

-- the argument with an index, from 0 on
abbrev pub argument : ℕ → List Meant → Meant
argument i vs = unwrap_or (slice_get vs i) (text [])

-- the first argument; where there is none, the context node
abbrev pub own : Context → List Meant → Meant
own c vs = unwrap_or (slice_get vs 0) (nodes (c.node ∷ []))

-- Names of nodes: XPath 1.0, sections 4.1 and 5.

-- the name as it is written
abbrev pub written_name : Thing → List ℕ
written_name (Thing.element t inside) = t.name
written_name (Thing.attribute a) = a.name
written_name (Thing.instruction i) = i.target
written_name _ = []

-- the local part of the name; that of an instruction is its target
abbrev pub local_part : Thing → List ℕ
local_part (Thing.element t inside) = local_of t.name
local_part (Thing.attribute a) = local_of a.name
local_part (Thing.instruction i) = i.target
local_part _ = []

-- the URI of an expanded name, if there is one
abbrev pub uri_in : Option Expanded → Option (List ℕ)
uri_in None = None
uri_in (Some x) = x.uri

abbrev pub local_name : Entry → List ℕ
local_name e = local_part e.what

abbrev pub whole_name : Entry → List ℕ
whole_name e = written_name e.what

abbrev pub uri_text : Entry → List ℕ
uri_text e = unwrap_or (uri_in (expanded e)) []

-- what the first node has; nothing where there is none
abbrev pub of_first : (Entry → List ℕ) → List Entry → List ℕ
of_first has [] = []
of_first has (e ∷ es) = has e

-- Languages: XPath 1.0, section 4.3.

-- the language of the nearest tag that has one: XML 1.0, section 2.12
abbrev pub language : List Tag → Option (List ℕ)
language [] = None
language (t ∷ tags) = first_of (find (λ a. bytes_eq a.name (codes "xml:lang")) t.attributes) (language tags)

-- whether a language, if there is one, is the one asked for, or a kind of it
abbrev pub is_some_language : List ℕ → Option (List ℕ) → Bool
is_some_language asked None = false
is_some_language asked (Some l) = is_language l asked

-- of two arguments, or three, whose numbers are converted from left to right
abbrev pub substring_of : List ℕ → Number → Option Meant → Answer (List ℕ)
substring_of t from None = Ok (substring t from None)
substring_of t from (Some v) = with (number_of v) (λ count. substring t from (Some count))

-- the answer of a function
abbrev pub called : Function → Context → List Meant → Answer Meant
called f.Last c vs = Ok (number (counted c.size))
called f.Position c vs = Ok (number (counted c.position))
called f.Count c vs = Ok (number (counted (length (nodes_in (argument 0 vs)))))
called f.LocalName c vs = Ok (text (of_first local_name (nodes_in (own c vs))))
called f.NamespaceUri c vs = Ok (text (of_first uri_text (nodes_in (own c vs))))
called f.Name c vs = Ok (text (of_first whole_name (nodes_in (own c vs))))
called f.AsString c vs = Ok (text (string_of (own c vs)))
called f.Concat c vs = Ok (text (flat_map string_of vs))
called f.StartsWith c vs = Ok (truth (starts_with (string_of (argument 0 vs)) (string_of (argument 1 vs))))
called f.Contains c vs = Ok (truth (contains (string_of (argument 0 vs)) (string_of (argument 1 vs))))
called f.SubstringBefore c vs = Ok (text (substring_before (string_of (argument 0 vs)) (string_of (argument 1 vs))))
called f.SubstringAfter c vs = Ok (text (substring_after (string_of (argument 0 vs)) (string_of (argument 1 vs))))
called f.Substring c vs =
    and_then (number_of (argument 1 vs))
    (λ from. with (substring_of (string_of (argument 0 vs)) from (slice_get vs 2)) text)
called f.StringLength c vs = with (in_range (pos (one * length (string_of (own c vs))))) number
called f.NormalizeSpace c vs = Ok (text (normalize_space (string_of (own c vs))))
called f.Translate c vs =
    Ok (text (translate (string_of (argument 0 vs)) (string_of (argument 1 vs)) (string_of (argument 2 vs))))
called f.AsBoolean c vs = Ok (truth (truth_of (argument 0 vs)))
called f.Not c vs = Ok (truth (not (truth_of (argument 0 vs))))
called f.IsTrue c vs = Ok (truth true)
called f.IsFalse c vs = Ok (truth false)
called f.Lang c vs = Ok (truth (is_some_language (string_of (argument 0 vs)) (language (scope c.node))))
called f.AsNumber c vs = with (number_of (own c vs)) number
called f.Sum c vs = with (sum_of_nodes (nodes_in (argument 0 vs))) number
called f.Floor c vs = with (number_of (argument 0 vs)) (λ x. number (floor x))
called f.Ceiling c vs = with (number_of (argument 0 vs)) (λ x. number (ceiling x))
called f.Round c vs = with (number_of (argument 0 vs)) (λ x. number (round x))
