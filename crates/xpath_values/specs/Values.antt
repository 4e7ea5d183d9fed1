-- Values, conversions and comparisons: XPath 1.0, sections 3.2, 3.4, 4.2, 4.3 and 4.4. A node is an entry of the tree.
use Rattle.std.specs.Prelude.{◌≡◌, ℕ, Bool, true, false, cond, not, ◌||◌, List, [], ◌∷◌, map, codes, bytes_eq}
use Rattle.std.specs.Prelude.{Ok}
use Rattle.std.specs.List.{list_any, AllByRecursion, Contains}
use Rattle.xml_model.specs.Content.{content}
use Rattle.xml_model.specs.Tree.{Entry}
use Rattle.vtd_words.specs.Lists.{Lists}
use Rattle.vtd_words.specs.Table.{ForEachNest, IsNodeOf, node_of, nodes_of}
use Rattle.xpath_tokens.specs.declared.Comparison.{Comparison}
use Rattle.xpath_tokens.specs.declared.Comparison.TheVariants.{Equal, Unequal}
use Rattle.xpath_values.specs.declared.Number.{Number}
use Rattle.xpath_values.specs.declared.Value.{Value}
use Rattle.xpath_values.specs.declared.Value.TheVariants as held
use Rattle.xpath_values.specs.Answers.{Answer, and_then, with, each}
use Rattle.xpath_values.specs.Numbers.{counted, number_of_text, text_of_number, truth_of_number, compare_numbers}
use Rattle.xpath_values.specs.Numbers.{sum_of}

-- a node-set, in document order; a boolean; a number; a string
pub data Meant : Type 0 where
  nodes : List Entry → Meant
  truth : Bool → Meant
  number : Number → Meant
  text : List ℕ → Meant

-- the value that a program holds for it
abbrev pub held_as : Meant → Value
held_as (nodes es) = held.Nodes (map node_of es)
held_as (truth b) = held.Truth b
held_as (number x) = held.Number x
held_as (text t) = held.Text t

-- the nodes of a node-set are among these
abbrev pub AreAmong : List Entry → Meant → Type 0
AreAmong es (nodes xs) = AllByRecursion (λ x. Contains es x) xs
AreAmong es _ = Unit {0}

-- a program holds this for what is meant, where the document has these nodes
pub record IsHeld (es : List Entry) (x : Value) (v : Meant) : Type 0 where
  pub same : x ≡ held_as v
  pub among : AreAmong es v

-- of everything that is meant by what a program holds, in every nest of a table
abbrev pub ForEachMeant : List ℕ → Lists → Value → (Meant → Type 0) → Type 0
ForEachMeant bytes lists x P =
    ForEachNest bytes lists (λ nest. (v : Meant) → IsHeld (nodes_of bytes nest) x v → P v)

-- the nodes of a value are nodes of a table
abbrev pub HasNodesOf : List ℕ → Lists → Value → Type 0
HasNodesOf bytes lists (held.Nodes xs) = AllByRecursion (λ x. IsNodeOf bytes lists x) xs
HasNodesOf bytes lists _ = Unit {0}

-- Conversions.

-- the string-value of a node: XPath 1.0, section 5
abbrev pub string_value : Entry → List ℕ
string_value e = content e.what

-- the string-value of the first
abbrev pub first_string : List Entry → List ℕ
first_string [] = []
first_string (e ∷ es) = string_value e

abbrev pub truth_text : Bool → List ℕ
truth_text true = codes "true"
truth_text false = codes "false"

abbrev pub is_some_list : {X : Type 0} → List X → Bool
is_some_list [] = false
is_some_list (x ∷ xs) = true

-- to a string: XPath 1.0, section 4.2
abbrev pub string_of : Meant → List ℕ
string_of (nodes es) = first_string es
string_of (truth b) = truth_text b
string_of (number x) = text_of_number x
string_of (text t) = t

abbrev pub number_of_truth : Bool → Number
number_of_truth true = counted 1
number_of_truth false = counted 0

-- to a number: XPath 1.0, section 4.4
abbrev pub number_of : Meant → Answer Number
number_of (nodes es) = number_of_text (first_string es)
number_of (truth b) = Ok (number_of_truth b)
number_of (number x) = Ok x
number_of (text t) = number_of_text t

-- to a boolean: XPath 1.0, section 4.3
abbrev pub truth_of : Meant → Bool
truth_of (nodes es) = is_some_list es
truth_of (truth b) = b
truth_of (number x) = truth_of_number x
truth_of (text t) = is_some_list t

-- the numbers of all nodes of a node-set, in document order
abbrev pub numbers_of_nodes : List Entry → Answer (List Number)
numbers_of_nodes es = each (λ e. number_of_text (string_value e)) es

-- the sum of a node-set: all its nodes are converted before any is added: XPath 1.0, section 4.4
abbrev pub sum_of_nodes : List Entry → Answer Number
sum_of_nodes es = and_then (numbers_of_nodes es) sum_of

-- Comparisons: XPath 1.0, section 3.4.

abbrev pub is_truth : Meant → Bool
is_truth (truth b) = true
is_truth _ = false

abbrev pub is_number : Meant → Bool
is_number (number x) = true
is_number _ = false

-- a node-set beside a boolean is compared as a boolean
abbrev pub beside : Meant → Meant → Meant
beside (truth b) (nodes es) = truth (is_some_list es)
beside _ v = v

-- the strings to compare: those of all nodes of a node-set, or the one of another value
abbrev pub strings : Meant → List (List ℕ)
strings (nodes es) = map string_value es
strings v = string_of v ∷ []

-- the numbers to compare, in document order
abbrev pub numbers : Meant → Answer (List Number)
numbers (nodes es) = numbers_of_nodes es
numbers v = with (number_of v) (λ x. x ∷ [])

-- whether some pair passes
abbrev pub some_pair : {X : Type 0} → (X → X → Bool) → List X → List X → Bool
some_pair test xs ys = list_any (λ x. list_any (test x) ys) xs

-- what is true of two that are equal or not, for = and for !=
abbrev pub by_equality : Comparison → Bool → Bool
by_equality Unequal b = not b
by_equality _ b = b

abbrev pub is_equality : Comparison → Bool
is_equality Equal = true
is_equality Unequal = true
is_equality _ = false

abbrev pub same_truth : Bool → Bool → Bool
same_truth true b = b
same_truth false b = not b

-- as numbers: all of the left are converted, then all of the right, before any pair is compared
abbrev pub by_numbers : Comparison → Meant → Meant → Answer Bool
by_numbers how v w = and_then (numbers v) (λ xs. with (numbers w) (λ ys. some_pair (compare_numbers how) xs ys))

-- = and !=: as booleans if one is a boolean, else as numbers if one is a number, else as strings
abbrev pub by_kind : Comparison → Meant → Meant → Answer Bool
by_kind how v w =
    cond (is_truth v || is_truth w) (Ok (by_equality how (same_truth (truth_of v) (truth_of w))))
    (cond (is_number v || is_number w) (by_numbers how v w)
    (Ok (some_pair (λ s t. by_equality how (bytes_eq s t)) (strings v) (strings w))))

abbrev pub compared : Comparison → Meant → Meant → Answer Bool
compared how v w = cond (is_equality how) (by_kind how v w) (by_numbers how v w)

-- whether two values compare so
abbrev pub compare : Comparison → Meant → Meant → Answer Bool
compare how v w = compared how (beside w v) (beside v w)
