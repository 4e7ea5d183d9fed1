-- Values as look-ups see them: what is held, beside the string-values of its nodes.
use Rattle.std.specs.Prelude.{◌≡◌, ⊤, ℕ, Bool, List, [], ◌∷◌, Ok}
use Rattle.xml_model.specs.declared.Node.{Node}
use Rattle.xml_model.specs.Nest.{Forest}
use Rattle.xml_model.specs.Tree.{Entry, Identifies}
use Rattle.vtd_words.specs.Lists.{Lists}
use Rattle.vtd_words.specs.Table.{IsNestOf, nodes_of}
use Rattle.xpath_values.specs.declared.Value.{Value}
use Rattle.xpath_values.specs.declared.Value.TheVariants as held
use Rattle.xpath_values.specs.declared.Number.{Number}
use Rattle.xpath_values.specs.Answers.{Answer}
use Rattle.xpath_values.specs.Numbers.{number_of_text, text_of_number, truth_of_number}
use Rattle.xpath_values.specs.Values.{is_some_list, string_value, number_of_truth, truth_text}

-- the string-value of a node of a table, in some nest of the table
pub record HasString (bytes : List ℕ) (lists : Lists) (node : Node) (t : List ℕ) : Type 0 where
  pub nest : Forest
  pub shown : IsNestOf bytes lists nest
  pub entry : Entry
  pub holds : Identifies node.kind node.at entry (nodes_of bytes nest)
  pub same : string_value entry ≡ t

-- the string-values of nodes, one after another
abbrev pub HaveStrings : List ℕ → Lists → List Node → List (List ℕ) → Type 0
HaveStrings bytes lists [] [] = ⊤
HaveStrings bytes lists [] (t ∷ ts) = ⊥
HaveStrings bytes lists (x ∷ xs) [] = ⊥
HaveStrings bytes lists (x ∷ xs) (t ∷ ts) = HasString bytes lists x t × HaveStrings bytes lists xs ts

-- the string-values of a value's nodes
abbrev pub IsSeen : List ℕ → Lists → Value → List (List ℕ) → Type 0
IsSeen bytes lists (held.Nodes xs) ts = HaveStrings bytes lists xs ts
IsSeen bytes lists _ ts = ⊤

-- the first text, or none
abbrev pub first_text : List (List ℕ) → List ℕ
first_text [] = []
first_text (t ∷ ts) = t

-- a value as a string, beside the string-values of its nodes
abbrev pub string_seen : Value → List (List ℕ) → List ℕ
string_seen (held.Nodes xs) ts = first_text ts
string_seen (held.Truth b) ts = truth_text b
string_seen (held.Number x) ts = text_of_number x
string_seen (held.Text t) ts = t

-- the same as a number
abbrev pub number_seen : Value → List (List ℕ) → Answer Number
number_seen (held.Nodes xs) ts = number_of_text (first_text ts)
number_seen (held.Truth b) ts = Ok (number_of_truth b)
number_seen (held.Number x) ts = Ok x
number_seen (held.Text t) ts = number_of_text t

-- the same as a boolean
abbrev pub truth_seen : Value → Bool
truth_seen (held.Nodes xs) = is_some_list xs
truth_seen (held.Truth b) = b
truth_seen (held.Number x) = truth_of_number x
truth_seen (held.Text t) = is_some_list t

-- what is left of nodes in a loop, and what holds of their string-values
pub record IsLeft (bytes : List ℕ) (lists : Lists) (left : List Node) (P : List (List ℕ) → Type 0) : Type 0 where
  pub texts : List (List ℕ)
  pub shown : HaveStrings bytes lists left texts
  pub holds : P texts
