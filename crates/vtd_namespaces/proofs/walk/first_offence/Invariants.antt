use Rattle.std.proofs.Common.{◌≡◌, List, []}
use Rattle.xml_model.specs.Items.{first_place}
use Rattle.xml_model.specs.Nest.{Forest}
use Rattle.xml_model.specs.Records.{Record}
use Rattle.xml_model.specs.Accepted.{offences, over_names, repeats}
use Rattle.vtd_words.specs.Table.{IsNestOf, Shows, nodes_of}
use Rattle.vtd_namespaces.specs.Memos.{IsMemoOf}
use Rattle.vtd_namespaces.specs.OpenTags.{open_before}
use Rattle.vtd_namespaces.proofs.FaultLemmas.{NoneBefore}
use Rattle.vtd_namespaces.proofs.walk.first_offence.Given as goal

abbrev pub invariant-loop-at : goal.invariant-loop-at
invariant-loop-at g l = record {
  known : IsMemoOf l.table.bytes (g.W.Words.lists l.table.words).records l.memo;
  opened : (rs : List Record) → Shows (g.W.Words.lists l.table.words).records rs → l.open_tags ≡ open_before l.at rs;
  before : (nest : Forest) → IsNestOf l.table.bytes (g.W.Words.lists l.table.words) nest →
      over_names repeats [] (first_place l.table.bytes) nest ≡ [] → NoneBefore offences l.at (nodes_of l.table.bytes nest);
}
