use Rattle.std.proofs.Common.{ℕ, ◌+◌, ◌-◌, ◌*◌, ◌<◌, ◌≤◌, ◌^◌, List, length, Some}
use Rattle.xml_model.specs.Items.{Tag}
use Rattle.xml_model.specs.Records.{Record}
use Rattle.vtd_words.specs.Table.{Shows}
use Rattle.vtd_namespaces.specs.NameRecords.{AreAttributeRecords}
use Rattle.vtd_fragment.specs.Prefixes.{fresh}
use Rattle.vtd_fragment.proofs.PrefixLemmas.{Along}
use Rattle.vtd_fragment.proofs.prefixes.note.Given as goal

abbrev pub invariant-loop-parts : goal.invariant-loop-parts
invariant-loop-parts g l = record {
  room : l.first + 2 * l.number ≤ length (g.W.Words.lists l.words).records;
  bound : l.first + 2 * l.number < 2 ^ 32;
  along : (rs : List Record) → Shows (g.W.Words.lists l.words).records rs → (at : ℕ) (t : Tag) → AreAttributeRecords l.bytes rs l.first at t.attributes →
      Along (λ o. Some (fresh l.level)) l.initial.prefixes l.prefixes l.bytes rs l.first l.number t;
}

abbrev pub decreases-loop-parts : goal.decreases-loop-parts
decreases-loop-parts g l = 2 ^ 32 - l.number
