-- Nodes that are found by a walk along the records (this project's own): what private functions promise.
use Rattle.std.specs.Prelude.{◌≡◌, ℕ, suc, ◌<◌, ◌≤◌, Bool, true, List, length, Option, Some, None, Contains}
use Rattle.xml_model.specs.declared.Node.{Node}
use Rattle.xml_model.specs.Records.{Record}
use Rattle.xml_model.specs.Tree.{Thing, Entry}
use Rattle.xml_model.specs.Scan.{Passes}
use Rattle.vtd_words.specs.Found.{IsNodeAt}
use Rattle.vtd_words.specs.Table.{node_of}

-- a node that so many elements hold and that passes a test
pub record IsWanted (want : Thing → Bool) (level : ℕ) (x : Entry) : Type 0 where
  pub held : length x.holders ≡ level
  pub wanted : want x.what ≡ true

-- the wanted node of a level that begins at an index, whose record is of the level found
abbrev pub NodeOfLevel : (Thing → Bool) → ℕ → ℕ → List Entry → ℕ → Option Node → Type 0
NodeOfLevel want level found es at None = (x : Entry) → Contains es x → IsWanted want level x → x.index ≡ at → ⊥
NodeOfLevel want level found es at (Some node) = (found ≡ level) × IsNodeAt want es at node

-- of the wanted nodes from an index on, the first, and records that pass are before it
pub record IsFirstFrom (pass : Record → Bool) (want : Thing → Bool) (level : ℕ) (rs : List Record) (es : List Entry)
    (from : ℕ) (node : Node) : Type 0 where
  pub entry : Entry
  pub there : Contains es entry
  pub shown : node ≡ node_of entry
  pub is : IsWanted want level entry
  pub after : from ≤ entry.index
  pub passes : Passes pass rs from entry.index
  pub least : (x : Entry) → Contains es x → IsWanted want level x → from ≤ x.index → entry.index ≤ x.index

-- the first wanted node from an index on, where records that pass are before it
abbrev pub FirstFrom : (Record → Bool) → (Thing → Bool) → ℕ → List Record → List Entry → ℕ → Option Node → Type 0
FirstFrom pass want level rs es from None =
    (x : Entry) → Contains es x → IsWanted want level x → from ≤ x.index → Passes pass rs from x.index → ⊥
FirstFrom pass want level rs es from (Some node) = IsFirstFrom pass want level rs es from node

-- of the wanted nodes before an index, the last, and records that pass are after its first
pub record IsLastBefore (pass : Record → Bool) (want : Thing → Bool) (level : ℕ) (rs : List Record) (es : List Entry)
    (end : ℕ) (node : Node) : Type 0 where
  pub entry : Entry
  pub there : Contains es entry
  pub shown : node ≡ node_of entry
  pub is : IsWanted want level entry
  pub before : entry.index < end
  pub passes : Passes pass rs (suc entry.index) end
  pub greatest : (x : Entry) → Contains es x → IsWanted want level x → x.index < end → x.index ≤ entry.index

-- the last wanted node before an index, where records that pass are after its first
abbrev pub LastBefore : (Record → Bool) → (Thing → Bool) → ℕ → List Record → List Entry → ℕ → Option Node → Type 0
LastBefore pass want level rs es end None =
    (x : Entry) → Contains es x → IsWanted want level x → x.index < end → Passes pass rs (suc x.index) end → ⊥
LastBefore pass want level rs es end (Some node) = IsLastBefore pass want level rs es end node
