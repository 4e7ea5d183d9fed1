use Rattle.std.proofs.Common.{◌≡◌, List}
use Rattle.xml_model.specs.Records.{Record}
use Rattle.vtd_words.specs.Table.{Shows}
use Rattle.vtd_namespaces.specs.OpenTags.{open_before}
use Rattle.vtd_fragment.proofs.names.open_before.Given as goal

abbrev pub invariant-loop-index : goal.invariant-loop-index
invariant-loop-index g l = (rs : List Record) → Shows (g.W.Words.lists l.words).records rs → l.open_tags ≡ open_before l.index rs
