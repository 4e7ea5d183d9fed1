use Rattle.std.proofs.Common.{length, ◌≡◌, ℕ, ◌+◌, ◌*◌, ◌<◌, ◌≤◌, ◌⊎◌, List, None, IfSome}
use Rattle.std.specs.Prelude.{encode_utf8_all}
use Rattle.std.specs.List.{slice_index_or}
use Rattle.xml_model.specs.Records.{Record}
use Rattle.xml_model.specs.Scan.{record_at}
use Rattle.vtd_words.specs.Table.{Shows}
use Rattle.vtd_namespaces.specs.Rounds.{IsNamed}
use Rattle.vtd_namespaces.specs.Windows.{HasPrefix, KeepsFound, KeepsOrFinds}
use Rattle.vtd_namespaces.proofs.windows.seek.Given as goal

abbrev pub invariant-loop-number : goal.invariant-loop-number
invariant-loop-number g l = record {
  len : length l.found ≡ length l.fn.found;
  found : (rs : List Record) → Shows (g.W.Words.lists l.words).records rs → (k : ℕ) (p : List ℕ) → k < l.number → HasPrefix l.bytes (record_at (l.at + 2 * k) rs) p →
      KeepsOrFinds l.fn.round (encode_utf8_all p) (slice_index_or l.fn.found k None) (slice_index_or l.found k None);
  left : (k : ℕ) → l.number ≤ k → slice_index_or l.found k None ≡ slice_index_or l.fn.found k None;
  there : (m : ℕ) → IfSome (slice_index_or l.found m None) (λ n. (slice_index_or l.fn.found m None ≡ slice_index_or l.found m None) ⊎ ((prefix : List ℕ) × IsNamed l.fn.round prefix n));
  kept : KeepsFound l.fn.found l.found;
}
