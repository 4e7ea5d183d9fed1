-- The node that begins at a record, where it passes a test: what look-ups of the crates above promise (this project's
-- own).
use Rattle.std.specs.Prelude.{◌≡◌, ℕ, Bool, true, List, Option, Some, None, Contains}
use Rattle.xml_model.specs.declared.Node.{Node}
use Rattle.xml_model.specs.Tree.{Thing, Entry}
use Rattle.vtd_words.specs.Table.{node_of}

-- of a node that begins at an index and passes a test
pub record IsNodeAt (want : Thing → Bool) (es : List Entry) (at : ℕ) (node : Node) : Type 0 where
  pub entry : Entry
  pub there : Contains es entry
  pub shown : node ≡ node_of entry
  pub index : entry.index ≡ at
  pub wanted : want entry.what ≡ true

-- the node that begins at an index, where it passes a test
abbrev pub NodeAt : (Thing → Bool) → List Entry → ℕ → Option Node → Type 0
NodeAt want es at None = (x : Entry) → Contains es x → want x.what ≡ true → x.index ≡ at → ⊥
NodeAt want es at (Some node) = IsNodeAt want es at node
