use Rattle.std.proofs.Common.{◌≡◌, ◌+◌, ◌≤◌, true, false, ◌∷◌, List, length, take, is_some}
use Rattle.std.specs.List.{list_any}
use Rattle.xml_model.specs.Chars.{prefix_of}
use Rattle.xml_model.specs.Items.{Attribute}
use Rattle.xml_model.specs.Nest.{Forest}
use Rattle.xml_model.specs.Tree.{Holder}
use Rattle.xml_model.specs.Names.{attribute_uri}
use Rattle.vtd_words.specs.Table.{nodes_of}
use Rattle.vtd_namespaces.specs.Scope.{tags_in, IsNearest}
use Rattle.vtd_namespaces.specs.Reach.{IsScope}
use Rattle.vtd_namespaces.specs.Offences.{is_twin, IsWritten, AreNearest}
use Rattle.vtd_namespaces.proofs.offences.has_twin.Given as goal

abbrev pub invariant-loop-number : goal.invariant-loop-number
invariant-loop-number g l =
    (nest : Forest) (x : Holder) (xs : List Holder) → IsScope l.scope.table.now.bytes (g.W.Words.lists l.scope.table.now.words) l.scope.open_tags.now l.scope.depth nest (x ∷ xs) → l.first ≡ x.index + 1 → l.count ≤ length x.tag.attributes → AreNearest l.scope.table.now.bytes nest (x ∷ xs) x.tag.attributes l.count l.noted →
    (a : Attribute) → IsWritten l.name l.prefix_len a → is_some (attribute_uri (prefix_of a.name) (tags_in (x ∷ xs))) ≡ true →
    IsNearest (nodes_of l.scope.table.now.bytes nest) (x ∷ xs) (prefix_of a.name) l.declaration → list_any (is_twin (tags_in (x ∷ xs)) a) (take l.number x.tag.attributes) ≡ false
