-- What private functions promise: an element of a table, and an element round it.
use Rattle.std.specs.Prelude.{◌≡◌, ℕ, Bool, ◌&&◌, List, ◌∷◌, ◌++◌, length, encode_utf8_all}
use Rattle.xml_model.specs.declared.Node.{Node}
use Rattle.xml_model.specs.Nest.{Forest}
use Rattle.xml_model.specs.Tree.{Entry, Holder, Identifies}
use Rattle.vtd_words.specs.Lists.{Lists}
use Rattle.vtd_words.specs.Table.{IsNestOf, nodes_of}
use Rattle.std.specs.List.{flat_map}
use Rattle.xml_model.specs.Items.{Attribute, written_attribute}
use Rattle.xml_model.specs.Accepted.{Accepted}
use Rattle.xml_fragments.specs.Cut.{spaced}
use Rattle.xml_fragments.specs.Fragment.{binds, is_written, reaching, subtree}

-- whether the name of a node is bound by the declaration of a prefix of an element
abbrev pub is_hit : List ℕ → Holder → Entry → Bool
is_hit prefix h x = binds prefix h (reaching x) && is_written prefix x.what

-- the element of a node of an accepted document, and the element round it that has this level
pub record AtLevel (bytes : List ℕ) (lists : Lists) (node : Node) (level : ℕ) : Type 0 where
  pub nest : Forest
  pub accepted : Accepted 8 bytes nest
  pub shown : IsNestOf bytes lists nest
  pub entry : Entry
  pub holds : Identifies node.kind node.at entry (nodes_of bytes nest)
  pub near : List Holder
  pub far : List Holder
  pub holder : Holder
  pub split : entry.holders ≡ near ++ holder ∷ far
  pub many : length far ≡ level

-- an element with its attributes and all in it
abbrev pub nodes_in : Forest → Entry → List ℕ → List Entry
nodes_in nest e bytes = subtree e.path (nodes_of bytes nest)

-- the bytes of attributes, each after a space
abbrev pub inserted : List Attribute → List ℕ
inserted ds = encode_utf8_all (flat_map (λ a. written_attribute (spaced a)) ds)
