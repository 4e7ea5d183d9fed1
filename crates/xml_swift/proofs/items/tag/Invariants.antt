use Rattle.std.proofs.Common.{◌≡◌, ◌+◌, ◌-◌, ◌≤◌, length}
use Rattle.xml_swift.specs.Fronts.{HasAttributes}
use Rattle.xml_swift.proofs.items.tag.Given as goal

abbrev pub invariant-attributes : goal.invariant-attributes
invariant-attributes l = record {
  at : l.parts.at ≡ l.at;
  name : l.parts.name ≡ l.name;
  so_far : HasAttributes l.bytes l.name l.parts.place l.parts.attributes;
  within : l.parts.place ≤ length l.bytes;
  few : l.parts.attributes + l.name ≤ l.parts.place;
}

abbrev pub decreases-attributes : goal.decreases-attributes
decreases-attributes l = length l.bytes - l.parts.place
