-- The first of nodes (this project's own).
use Rattle.std.specs.Prelude.{◌≡◌, List, ◌∷◌}
use Rattle.xml_model.specs.declared.Node.{Node}
use Rattle.xml_model.specs.Tree.{Entry, Identifies}

-- a node, as kind and index, is the first of these
pub record IsFirst (document : List Entry) (n : Node) (es : List Entry) : Type 0 where
  pub entry : Entry
  pub others : List Entry
  pub parts : es ≡ entry ∷ others
  pub stands : Identifies n.kind n.at entry document
