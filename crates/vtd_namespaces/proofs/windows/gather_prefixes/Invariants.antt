use Rattle.std.proofs.Common.{length, ◌-◌, ◌≡◌, ℕ, ◌+◌, ◌*◌, ◌<◌, ◌≤◌, ◌^◌, true, List}
use Rattle.xml_model.specs.Records.{Record}
use Rattle.xml_model.specs.Scan.{record_at}
use Rattle.vtd_words.specs.Table.{Shows}
use Rattle.vtd_text.specs.NameRecords.{is_attribute_name}
use Rattle.vtd_namespaces.specs.Windows.{ArePrefixes}
use Rattle.vtd_namespaces.proofs.windows.gather_prefixes.Given as goal

abbrev pub invariant-loop-count : goal.invariant-loop-count
invariant-loop-count g l = record {
  len : length l.round ≡ length l.initial.round;
  within : l.count ≤ length l.round;
  more : l.start ≤ l.end;
  on : 0 < l.count → l.start < l.end;
  room : l.first + 2 * l.end ≤ length (g.W.Words.lists l.words).records;
  bound : l.first + 2 * l.end < 2 ^ 32;
  prefixes : (rs : List Record) → Shows (g.W.Words.lists l.words).records rs → ArePrefixes l.bytes rs l.first l.start l.end l.count l.round;
  kind : (rs : List Record) → Shows (g.W.Words.lists l.words).records rs → (n : ℕ) → l.start ≤ n → n < l.end → is_attribute_name (record_at (l.first + 2 * n) rs).token ≡ true;
}

abbrev pub decreases-loop-count : goal.decreases-loop-count
decreases-loop-count g l = 2 ^ 32 - l.end
