-- Where moves go (this project's own; the axes are XPath 1.0's, section 2.2).
use Rattle.std.specs.Prelude.{◌≡◌, ℕ, ◌≤◌, Bool, List, [], ◌∷◌, reverse, Option, Some, None, is_some, unwrap_or}
use Rattle.std.specs.List.{AllByRecursion}
use Rattle.xml_model.specs.declared.Kind.TheVariants as kinds
use Rattle.xml_model.specs.declared.Node.{Node}
use Rattle.xml_model.specs.Tree.{Entry}
use Rattle.vtd_words.specs.Lists.{Lists}
use Rattle.vtd_words.specs.Table.{IsNodeOf, node_of}

-- the first node of a list
abbrev pub first_of : List Entry → Option Node
first_of [] = None
first_of (e ∷ es) = Some (node_of e)

-- the last node of a list
abbrev pub last_of : List Entry → Option Node
last_of es = first_of (reverse es)

-- the root
abbrev pub root_node : Node
root_node = record { kind = kinds.Root; at = 0 }

-- what a cursor is: the document's bytes and what its words are read from, the node where it is, and the nodes that
-- were saved, the last of them at the end
pub record CursorOf (W : Type 0) : Type 0 where
  pub bytes : List ℕ
  pub words : W
  pub node : Node
  pub saved : List Node

-- where a cursor is and the saved nodes are nodes of the document, and there is room for 16 of them
pub record IsCursor (bytes : List ℕ) (lists : Lists) (node : Node) (saved : List Node) (room : ℕ) : Type 0 where
  pub holds : IsNodeOf bytes lists node
  pub kept : AllByRecursion (IsNodeOf bytes lists) saved
  pub inline : 16 ≤ room

-- a move to a node that may be there or not: it says whether it is, and where it is not all stays
pub record Goes {W : Type 0} (target : Option Node) (old : CursorOf W) (moved : Bool) (new : CursorOf W) : Type 0 where
  pub known : moved ≡ is_some target
  pub place : new ≡ record old { node = unwrap_or target old.node }
