-- An element cut out of a document is a document.
use Rattle.std.specs.Prelude.{◌≡◌, ℕ, ◌≤◌, List, [], ◌∷◌, map, length}
use Rattle.xml_model.specs.Items.{first_place}
use Rattle.xml_model.specs.Nest.{Forest}
use Rattle.xml_model.specs.Tree.{Entry, Step, all}
use Rattle.xml_model.specs.Accepted.{Accepted}
use Rattle.xml_fragments.specs.Cut.{shown}
use Rattle.xml_fragments.specs.Fragment.{subtree}

-- these bytes are an accepted document of at most the old length, and the tree of its root element has the same kinds,
-- expanded names and contents as an element's of the old document, in the same order
pub record IsDocumentWith (bytes : List ℕ) (nest : Forest) (e : Entry) (out : List ℕ) : Type 0 where
  pub new : Forest
  pub accepted : Accepted 8 out new
  pub no_longer : length out ≤ length bytes
  pub same :
      map shown (subtree e.path (all nest (first_place bytes)))
      ≡ map shown (subtree (Step.child 0 ∷ []) (all new (first_place out)))
