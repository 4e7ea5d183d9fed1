use Rattle.std.proofs.Common.{◌≡◌, false, List, bytes_eq}
use Rattle.std.specs.List.{list_any}
use Rattle.xml_model.specs.Records.{Record}
use Rattle.vtd_words.specs.Table.{Shows}
use Rattle.vtd_namespaces.specs.Repeats.{names_before}
use Rattle.vtd_namespaces.proofs.repeats.is_among.Given as goal

abbrev pub invariant-loop-number : goal.invariant-loop-number
invariant-loop-number g l = (rs : List Record) → Shows (g.W.Words.lists l.words).records rs → list_any (bytes_eq l.name) (names_before l.bytes rs l.first l.number) ≡ false
