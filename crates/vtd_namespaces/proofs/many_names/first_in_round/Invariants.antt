use Rattle.std.proofs.Common.{◌≤◌, List}
use Rattle.xml_model.specs.Records.{Record}
use Rattle.vtd_words.specs.Table.{Shows}
use Rattle.vtd_namespaces.proofs.RoundLemmas.{IsLeast}
use Rattle.vtd_namespaces.proofs.many_names.first_in_round.Given as goal

abbrev pub invariant-loop-number : goal.invariant-loop-number
invariant-loop-number g l = record {
  below : l.least ≤ l.end;
  least : (rs : List Record) → Shows (g.W.Words.lists l.words).records rs → IsLeast l.bytes rs l.first l.start l.end l.number l.least;
}
