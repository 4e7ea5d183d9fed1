-- The faults of a document's names, node by node.
use Rattle.std.specs.Prelude.{◌≡◌, ℕ, ◌+◌, List, [], ◌∷◌, Option, Some, None}
use Rattle.xml_model.specs.Items.{Tag}
use Rattle.xml_model.specs.Tree.{Thing, Entry}
use Rattle.xml_model.specs.Names.{tags_of}
use Rattle.xml_model.specs.Accepted.{Faults, offences}
use Rattle.std.specs.List.{AllByRecursion}

-- the first of some places
abbrev pub first_of : List ℕ → Option ℕ
first_of [] = None
first_of (at ∷ others) = Some at

-- the places of what is sought in a thing that begins at a place, under tags
abbrev pub thing_faults : Faults → ℕ → List Tag → Thing → List ℕ
thing_faults w at tags (Thing.element t inside) = w.tag at tags t
thing_faults w at tags (Thing.instruction i) = w.instruction (at + 2) i
thing_faults w at tags _ = []

-- the places of what is sought at a node
abbrev pub node_faults : Faults → Entry → List ℕ
node_faults w e = thing_faults w e.start (tags_of e) e.what

-- the first offence of the nodes whose first record has an index, of which there is one at most
abbrev pub OffenceAt : ℕ → Option ℕ → List Entry → Type 0
OffenceAt at r es = AllByRecursion (λ e. e.index ≡ at → r ≡ first_of (node_faults offences e)) es
