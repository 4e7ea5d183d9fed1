use Rattle.std.proofs.Common.{length, ◌-◌, ◌≡◌, ℕ, ◌+◌, ◌*◌, ◌<◌, ◌≤◌, ◌^◌, List, None}
use Rattle.std.specs.List.{slice_index_or}
use Rattle.xml_model.specs.Items.{Tag}
use Rattle.xml_model.specs.Records.{Record}
use Rattle.xml_model.specs.Scan.{record_at}
use Rattle.vtd_words.specs.Table.{Shows}
use Rattle.vtd_namespaces.specs.NameRecords.{AreAttributeRecords}
use Rattle.vtd_namespaces.specs.Windows.{AreFound, HasPrefix, KeepsFound}
use Rattle.vtd_namespaces.proofs.WindowLemmas.{IsFoundTo}
use Rattle.vtd_namespaces.proofs.windows.seek_in_tag.Given as goal

abbrev pub invariant-loop-round : goal.invariant-loop-round
invariant-loop-round g l = record {
  round_len : length l.round ≡ length l.fn.round;
  len : length l.found ≡ length l.fn.found;
  room : l.tag + 1 + 2 * l.start ≤ length (g.W.Words.lists l.words).records;
  bound : l.tag + 1 + 2 * l.start < 2 ^ 32;
  known : AreFound (g.W.Words.lists l.words).records l.found;
  kept : KeepsFound l.fn.found l.found;
  found : (rs : List Record) → Shows (g.W.Words.lists l.words).records rs → (place : ℕ) (t : Tag) → AreAttributeRecords l.bytes rs (l.tag + 1) place t.attributes → (k : ℕ) (p : List ℕ) → k < length l.fn.found → HasPrefix l.bytes (record_at (l.at + 2 * k) rs) p →
      IsFoundTo l.bytes rs (l.tag + 1) l.start t p (slice_index_or l.fn.found k None) (slice_index_or l.found k None);
}

abbrev pub decreases-loop-round : goal.decreases-loop-round
decreases-loop-round g l = 2 ^ 32 - l.start
