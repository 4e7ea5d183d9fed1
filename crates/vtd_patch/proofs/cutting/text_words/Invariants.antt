use Rattle.std.proofs.Common.{◌≡◌, ◌+◌, ◌<◌, ◌++◌, map}
use Rattle.xml_model.specs.Records.{cut_records, word}
use Rattle.vtd_patch.proofs.cutting.text_words.Given as goal

abbrev pub invariant-cuts : goal.invariant-cuts
invariant-cuts l = record {
  made : l.words.items ++ map word (cut_records 5 l.depth l.at l.left) ≡ map word (cut_records 5 l.depth l.start l.len);
  ends : l.at + l.left ≡ l.start + l.len;
  some : 0 < l.left;
}

abbrev pub decreases-cuts : goal.decreases-cuts
decreases-cuts l = l.left
