-- What an operation on some nodes of a document answers (this project's own).
use Rattle.std.specs.Prelude.{◌≡◌, ℕ, ◌<◌, Bool, true, cond, List, [], ◌∷◌, ◌++◌}
use Rattle.std.specs.Prelude.{length, Option, Some, None, Result, Ok, Err}
use Rattle.std.specs.Prelude.{slice_index_or}
use Rattle.std.specs.Str.{chars}
use Rattle.xml_model.specs.Chars.{is_qname}
use Rattle.xml_model.specs.declared.Node.{Node}
use Rattle.xml_model.specs.Tree.{Entry, Identifies}
use Rattle.vtd_words.specs.Lists.{Lists}
use Rattle.vtd_words.specs.Table.{ForEachNest, IsNodeOf, nodes_of}
use Rattle.vtd_edits.specs.declared.splice.Splice.{Splice}
use Rattle.vtd_modifier.specs.declared.operation.EditFault.{EditFault}
use Rattle.vtd_modifier.specs.declared.operation.EditFault.TheVariants as faults
use Rattle.vtd_modifier.specs.declared.operation.Operation.{Operation}
use Rattle.vtd_modifier.specs.declared.operation.Operation.TheVariants as operations
use Rattle.vtd_modifier.specs.Rows.{row}
use Rattle.vtd_modifier.specs.Parts.{part_of}

-- splices before those of others
abbrev pub ahead : List Splice → Result (List Splice) EditFault → Result (List Splice) EditFault
ahead mine (Ok others) = Ok (mine ++ others)
ahead mine (Err fault) = Err fault

-- the splices of a node's row before those of the nodes after it; without a row the node is refused, where it begins
abbrev pub with_row : ℕ → Option (List Splice) → Result (List Splice) EditFault → Result (List Splice) EditFault
with_row start (Some mine) others = ahead mine others
with_row start None others = Err (faults.Kind start)

-- the splices of the rows of each node, in order, or the refusal of the first node without a row
abbrev pub rows : List ℕ → Operation → List Entry → Result (List Splice) EditFault
rows bytes operation [] = Ok []
rows bytes operation (e ∷ es) = with_row e.start (row bytes operation (part_of bytes e)) (rows bytes operation es)

-- the new name of an operation is a QName, if it has one (Namespaces in XML 1.0, production 7)
abbrev pub has_name : Operation → Bool
has_name (operations.Rename name) = is_qname (chars name.now)
has_name _ = true

-- what an operation on nodes answers: a name that is none comes first
abbrev pub outcome : List ℕ → Operation → List Entry → Result (List Splice) EditFault
outcome bytes operation es = cond (has_name operation) (rows bytes operation es) (Err faults.Name)

-- an answer is refused for this fault; memory may run out whatever the answer is
abbrev pub IsRefused : Result (List Splice) EditFault → EditFault → Type 0
IsRefused answer faults.NoMemory = Unit {0}
IsRefused answer fault = answer ≡ Err fault

-- the nodes of a list are those of a table
abbrev pub AreNodesOf : List ℕ → Lists → List Node → Type 0
AreNodesOf bytes lists nodes = (k : ℕ) (d : Node) → k < length nodes → IsNodeOf bytes lists (slice_index_or nodes k d)

-- the entries that nodes denote, in the order of the nodes
abbrev pub Denote : List Entry → List Node → List Entry → Type 0
Denote all [] [] = Unit {0}
Denote all (node ∷ nodes) (e ∷ es) = Identifies node.kind node.at e all × Denote all nodes es
Denote all _ _ = ⊥

-- of every nest of a table, and of the entries that nodes denote in it
abbrev pub ForEachEntries : List ℕ → Lists → List Node → (List Entry → Type 0) → Type 0
ForEachEntries bytes lists nodes P =
    ForEachNest bytes lists (λ nest. (es : List Entry) → Denote (nodes_of bytes nest) nodes es → P es)

-- What private functions promise.

-- the splices of a row are put after others
pub record TakesRow (found : Option (List Splice)) (old new : List Splice) : Type 0 where
  pub mine : List Splice
  pub is : found ≡ Some mine
  pub added : new ≡ old ++ mine

-- why the splices of a row are not put after others
abbrev pub IsRowRefused : Option (List Splice) → ℕ → EditFault → Type 0
IsRowRefused found start faults.NoMemory = Unit {0}
IsRowRefused found start faults.Name = ⊥
IsRowRefused found start (faults.Kind at) = (found ≡ None) × (at ≡ start)
