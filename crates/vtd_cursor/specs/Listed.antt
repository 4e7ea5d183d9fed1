-- Where the nodes of a list are (this project's own).
use Rattle.std.specs.Prelude.{◌≡◌, ℕ, List}
use Rattle.xml_model.specs.declared.Node.{Node}
use Rattle.xml_model.specs.declared.Span.{Span}
use Rattle.vtd_words.specs.Lists.{Lists}
use Rattle.vtd_words.specs.Table.{ForEachEntry}

-- the bytes of a node, from its start to its stop
pub record IsSpanOf (bytes : List ℕ) (lists : Lists) (node : Node) (span : Span) : Type 0 where
  pub start : ForEachEntry bytes lists node (λ nest e. span.start ≡ e.start)
  pub end : ForEachEntry bytes lists node (λ nest e. span.end ≡ e.stop)
