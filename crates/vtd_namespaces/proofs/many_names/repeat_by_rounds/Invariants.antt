use Rattle.std.proofs.Common.{length, ◌-◌, ◌≡◌, ℕ, ◌+◌, ◌*◌, ◌<◌, ◌≤◌, ◌^◌, List}
use Rattle.xml_model.specs.Items.{Attribute}
use Rattle.xml_model.specs.Records.{Record}
use Rattle.vtd_words.specs.Table.{Shows}
use Rattle.vtd_namespaces.specs.NameRecords.{AreAttributeRecords}
use Rattle.vtd_namespaces.proofs.RepeatLemmas.{Passed}
use Rattle.vtd_namespaces.proofs.many_names.repeat_by_rounds.Given as goal

abbrev pub invariant-loop-first : goal.invariant-loop-first
invariant-loop-first g l = record {
  len : length l.round ≡ length l.initial.round;
  room : l.first + 2 * l.start ≤ length (g.W.Words.lists l.words).records;
  bound : l.first + 2 * l.start < 2 ^ 32;
  passed : (rs : List Record) → Shows (g.W.Words.lists l.words).records rs → (at : ℕ) (others : List Attribute) → AreAttributeRecords l.bytes rs l.first at others → Passed l.bytes rs l.first l.start at others;
}

abbrev pub decreases-loop-first : goal.decreases-loop-first
decreases-loop-first g l = 2 ^ 32 - l.start
