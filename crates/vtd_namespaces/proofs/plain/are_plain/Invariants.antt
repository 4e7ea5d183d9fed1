use Rattle.std.proofs.Common.{ℕ, ◌<◌, List}
use Rattle.xml_model.specs.Records.{Record}
use Rattle.xml_model.specs.Scan.{record_at}
use Rattle.vtd_words.specs.Table.{Shows}
use Rattle.vtd_namespaces.specs.Plain.{IsPlain}
use Rattle.vtd_namespaces.proofs.plain.are_plain.Given as goal

abbrev pub invariant-loop-at : goal.invariant-loop-at
invariant-loop-at g l = (rs : List Record) → Shows (g.W.Words.lists l.words).records rs → (n : ℕ) → n < l.at → IsPlain l.bytes (record_at n rs)
