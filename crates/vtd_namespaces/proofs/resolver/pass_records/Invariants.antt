use Rattle.std.proofs.Common.{◌≡◌, List}
use Rattle.xml_model.specs.Records.{Record}
use Rattle.vtd_words.specs.Table.{Shows}
use Rattle.vtd_namespaces.specs.OpenTags.{open_before}
use Rattle.vtd_namespaces.proofs.resolver.pass_records.Given as goal

abbrev pub invariant-loop-at : goal.invariant-loop-at
invariant-loop-at g l = (rs : List Record) → Shows (g.W.Words.lists l.words).records rs → l.open_tags ≡ open_before l.at rs
