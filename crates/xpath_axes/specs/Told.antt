-- Walks over child elements that the levels tell (this project's own).
use Rattle.std.specs.Prelude.{◌≡◌, ℕ, true, false, List, map, filter, Option, Some, None}
use Rattle.xml_model.specs.declared.Axis.TheVariants as axes
use Rattle.xml_model.specs.declared.Node.{Node}
use Rattle.xml_model.specs.Items.{first_place}
use Rattle.xml_model.specs.Levels.{is_element}
use Rattle.xml_model.specs.Names.{Test, passes}
use Rattle.xml_model.specs.Records.{Record, records}
use Rattle.xml_model.specs.Tree.{Entry}
use Rattle.vtd_words.specs.Lists.{Lists}
use Rattle.vtd_words.specs.Table.{ForEachEntry, ForEachNest, nodes_of}
use Rattle.vtd_location.specs.Children.{left_in, Remaining}
use Rattle.xpath_axes.specs.declared.rest.Rest.{Rest}
use Rattle.xpath_axes.specs.declared.rest.Rest.TheVariants as rests
use Rattle.xpath_axes.specs.declared.walk.Walk.{Walk}
use Rattle.xpath_axes.specs.Walks.{left_of, Covers}

-- the elements that are left of a walk
abbrev pub elements_left : Walk → List Record → List Entry → List Entry
elements_left w rs es = filter (λ e. is_element e.what) (left_of w Test.node rs es)

-- elements alone pass a test, where it is not of attributes
abbrev pub PassesElements : Test → Type 0
PassesElements t = (e : Entry) → passes t false e ≡ true → is_element e.what ≡ true

-- what is told are the elements that are left of a walk over children, for a test that elements alone pass
pub record Tells (bytes : List ℕ) (lists : Lists) (t : Test) (w : Walk) (told : Remaining) : Type 0 where
  pub children : w.attributes ≡ false
  pub named : PassesElements t
  pub elements : ForEachNest bytes lists (λ nest. left_in lists told
      ≡ map (λ e. e.index) (elements_left w (records nest (first_place bytes)) (nodes_of bytes nest)))

-- where something tells elements, they are those that are left of a walk forward
abbrev pub IsTold : List ℕ → Lists → Test → Rest → Option Remaining → Type 0
IsTold bytes lists t rest None = Unit {0}
IsTold bytes lists t (rests.Forward w) (Some told) = Tells bytes lists t w told
IsTold bytes lists t _ (Some told) = ⊥

-- what is left is a walk forward over the children of a node
abbrev pub IsChildWalk : List ℕ → Lists → Node → Rest → Type 0
IsChildWalk bytes lists node (rests.Forward w) = (w.attributes ≡ false) × ForEachEntry bytes lists node (λ nest e.
    Covers axes.Child w (records nest (first_place bytes)) (nodes_of bytes nest) e)
IsChildWalk bytes lists node _ = ⊥
