use Rattle.std.proofs.Common.{ℕ, ◌+◌, ◌-◌, ◌*◌, ◌<◌, ◌≤◌, ◌^◌, List, length}
use Rattle.xml_model.specs.Items.{Tag}
use Rattle.xml_model.specs.Records.{Record}
use Rattle.vtd_words.specs.Table.{Shows}
use Rattle.vtd_namespaces.specs.NameRecords.{AreAttributeRecords}
use Rattle.vtd_fragment.proofs.PrefixLemmas.{Plain}
use Rattle.vtd_fragment.proofs.prefixes.declares_some.Given as goal

abbrev pub invariant-loop-parts : goal.invariant-loop-parts
invariant-loop-parts g l = record {
  room : l.first + 2 * l.number ≤ length (g.W.Words.lists l.words).records;
  bound : l.first + 2 * l.number < 2 ^ 32;
  plain : (rs : List Record) → Shows (g.W.Words.lists l.words).records rs → (bytes : List ℕ) (at : ℕ) (t : Tag) → AreAttributeRecords bytes rs l.first at t.attributes → Plain bytes rs l.first l.number t;
}

abbrev pub decreases-loop-parts : goal.decreases-loop-parts
decreases-loop-parts g l = 2 ^ 32 - l.number
