use Rattle.std.proofs.Common.{◌≡◌, ℕ, ◌≤◌, List}
use Rattle.xml_model.specs.Records.{Record}
use Rattle.xml_model.specs.Scan.{record_at}
use Rattle.vtd_words.specs.Table.{Shows}
use Rattle.vtd_cursor.proofs.pieces.nearest_tag.Given as goal

abbrev pub invariant-loop-before : goal.invariant-loop-before
invariant-loop-before g l = (rs : List Record) → Shows (g.W.Words.lists l.words).records rs → (k : ℕ) → l.before ≤ k → k ≤ l.at → (record_at k rs).token ≡ 0 → ⊥
