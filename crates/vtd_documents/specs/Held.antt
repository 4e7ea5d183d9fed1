-- What contracts say of a document by its bytes alone (this project's own).
use Rattle.std.specs.Prelude.{◌≡◌, ℕ, List}
use Rattle.xml_model.specs.Nest.{Forest}
use Rattle.xml_model.specs.Tree.{Entry}
use Rattle.xml_model.specs.Accepted.{Accepted}
use Rattle.vtd_listing.specs.Nodes.{node_listing}
use Rattle.vtd_listing.specs.Escapes.{value_line}
use Rattle.xpath_values.specs.Values.{Meant, string_of}

-- The bytes are accepted whole, and this holds of their nest.
abbrev pub OfNest : List ℕ → (Forest → Type 0) → Type 0
OfNest bytes P = (nest : Forest) × Accepted 8 bytes nest × P nest

-- the lines of nodes
abbrev pub AreLines : List ℕ → List Entry → Type 0
AreLines lines es = lines ≡ node_listing es

-- the line of the string of a value (XPath 1.0, section 4.2)
abbrev pub IsLine : List ℕ → Meant → Type 0
IsLine line v = line ≡ value_line (string_of v)
