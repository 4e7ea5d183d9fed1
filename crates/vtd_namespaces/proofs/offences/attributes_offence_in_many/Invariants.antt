use Rattle.std.proofs.Common.{◌≡◌, ℕ, ◌+◌, ◌-◌, ◌*◌, ◌<◌, ◌≤◌, ◌^◌, List, [], ◌∷◌, length, take}
use Rattle.xml_model.specs.Items.{first_place}
use Rattle.xml_model.specs.Nest.{Forest}
use Rattle.xml_model.specs.Records.{records}
use Rattle.xml_model.specs.Tree.{Holder}
use Rattle.std.specs.List.{AllByRecursion}
use Rattle.xml_model.specs.Accepted.{repeated}
use Rattle.vtd_namespaces.specs.NameRecords.{AreAttributeRecords}
use Rattle.vtd_namespaces.specs.Scope.{tags_in}
use Rattle.vtd_namespaces.specs.Reach.{IsScope}
use Rattle.vtd_namespaces.specs.Offences.{IsNoted}
use Rattle.vtd_namespaces.specs.Offences.{AreNearest, AreNotes}
use Rattle.vtd_namespaces.specs.Windows.{IsWindow}
use Rattle.vtd_namespaces.proofs.InspectLemmas.{Inspected}
use Rattle.vtd_namespaces.proofs.offences.attributes_offence_in_many.Given as goal

abbrev pub invariant-loop-parts : goal.invariant-loop-parts
invariant-loop-parts g l = record {
  window : IsWindow l.scope.table.now.bytes (g.W.Words.lists l.scope.table.now.words) l.scope.open_tags.now l.scope.depth l.first l.window.start l.window.end l.window.found;
  from : l.window.start ≤ l.number;
  room : l.first + 2 * l.number ≤ length (g.W.Words.lists l.scope.table.now.words).records;
  bound : l.first + 2 * l.number < 2 ^ 32;
  inspected : (nest : Forest) (x : Holder) (xs : List Holder) → IsScope l.scope.table.now.bytes (g.W.Words.lists l.scope.table.now.words) l.scope.open_tags.now l.scope.depth nest (x ∷ xs) → l.first ≡ x.index + 1 →
      (at : ℕ) → AreAttributeRecords l.scope.table.now.bytes (records nest (first_place l.scope.table.now.bytes)) l.first at x.tag.attributes → repeated at [] x.tag.attributes ≡ [] →
      Inspected l.scope.table.now.bytes (records nest (first_place l.scope.table.now.bytes)) l.first l.number at (tags_in (x ∷ xs)) x.tag.attributes;
  noted : (nest : Forest) (x : Holder) (xs : List Holder) → IsScope l.scope.table.now.bytes (g.W.Words.lists l.scope.table.now.words) l.scope.open_tags.now l.scope.depth nest (x ∷ xs) → l.first ≡ x.index + 1 →
      (at : ℕ) → AreAttributeRecords l.scope.table.now.bytes (records nest (first_place l.scope.table.now.bytes)) l.first at x.tag.attributes → repeated at [] x.tag.attributes ≡ [] →
      AllByRecursion (IsNoted (tags_in (x ∷ xs)) l.filter) (take l.number x.tag.attributes);
  nearest : (nest : Forest) (x : Holder) (xs : List Holder) → IsScope l.scope.table.now.bytes (g.W.Words.lists l.scope.table.now.words) l.scope.open_tags.now l.scope.depth nest (x ∷ xs) → l.first ≡ x.index + 1 →
      (at : ℕ) → AreAttributeRecords l.scope.table.now.bytes (records nest (first_place l.scope.table.now.bytes)) l.first at x.tag.attributes → repeated at [] x.tag.attributes ≡ [] →
      AreNearest l.scope.table.now.bytes nest (x ∷ xs) x.tag.attributes l.number l.noted;
  noted_are : AreNotes l.scope.table.now.bytes (g.W.Words.lists l.scope.table.now.words) l.noted;
}

abbrev pub decreases-loop-parts : goal.decreases-loop-parts
decreases-loop-parts g l = 2 ^ 32 - l.number
