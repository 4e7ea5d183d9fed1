use Rattle.std.proofs.Common.{◌≡◌, ℕ, ◌+◌, ◌-◌, ◌<◌, ◌≤◌, ◌^◌, true, List}
use Rattle.xml_model.specs.Records.{Record}
use Rattle.xml_model.specs.Scan.{is_within}
use Rattle.xml_model.specs.Wholes.{wholes_from}
use Rattle.vtd_words.specs.Packed.{record_of}
use Rattle.vtd_words.specs.Table.{Shows}
use Rattle.vtd_text.specs.Joined.{row}
use Rattle.vtd_text.proofs.row.whole_from.Given as goal

abbrev pub invariant-loop-at : goal.invariant-loop-at
invariant-loop-at g l = record {
  low : l.next ≤ l.at;
  high : l.at ≤ l.past;
  narrow : l.parts.offset + l.parts.length < 2 ^ 31;
  whole : (rs : List Record) → Shows (g.W.Words.lists l.words).records rs → (least : ℕ) → is_within least (record_of l.fn.first) ≡ true →
      (is_within least (record_of l.parts) ≡ true)
      × (wholes_from (record_of l.fn.first) (row l.next (record { past = l.past; least = least }) rs) ≡ wholes_from (record_of l.parts) (row l.at (record { past = l.past; least = least }) rs));
}

abbrev pub decreases-loop-at : goal.decreases-loop-at
decreases-loop-at g l = l.past - l.at
