use Rattle.std.proofs.Common.{◌≡◌, ◌+◌, ◌-◌, ◌*◌, ◌<◌, ◌≤◌, ◌^◌, length}
use Rattle.xml_model.specs.Items.{first_place}
use Rattle.xml_model.specs.Records.{records}
use Rattle.xml_model.specs.declared.Kind.TheVariants as kinds
use Rattle.xml_model.specs.declared.Node.{Node}
use Rattle.vtd_fragment.specs.Prefixes.{AreFound}
use Rattle.vtd_fragment.specs.Round.{AtLevel, nodes_in}
use Rattle.vtd_fragment.proofs.PushLemmas.{Pushed}
use Rattle.vtd_fragment.proofs.needed.push_needed.Given as goal

abbrev pub invariant-loop-name : goal.invariant-loop-name
invariant-loop-name g l = record {
  room : l.first + 2 * l.number ≤ length (g.W.Words.lists l.words).records;
  bound : l.first + 2 * l.number < 2 ^ 32;
  pushed : (node : Node) → node.kind ≡ kinds.Element → (r : AtLevel l.table.bytes (g.W.Words.lists l.table.words) node l.level) → AreFound l.prefixes l.table.bytes r.nest r.entry → l.first ≡ r.holder.index + 1 →
      Pushed l.table.bytes (records r.nest (first_place l.table.bytes)) (nodes_in r.nest r.entry l.table.bytes) r.holder l.number l.initial.out.items l.out.items;
}

abbrev pub decreases-loop-name : goal.decreases-loop-name
decreases-loop-name g l = 2 ^ 32 - l.number
