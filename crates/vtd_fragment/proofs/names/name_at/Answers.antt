use Rattle.std.proofs.Common.{◌∙◌, sym}
use Rattle.vtd_words.proofs.Found.{none_at, wanted_at, unwanted_at}
use Rattle.vtd_fragment.specs.Named.{is_named}
use Rattle.vtd_fragment.proofs.NamedLemmas.{kind_named, kind_unnamed}
use Rattle.vtd_fragment.proofs.names.name_at.Goals as goal

pub returns-in_default-clause-at : goal.returns-in_default-clause-at
returns-in_default-clause-at g c = λ nest s. none_at is_named _ c.args.at (sym c.in_default.is ∙ c.node_from.ensures.node nest s)

pub returns-then-is_named_kind-clause-at : goal.returns-then-is_named_kind-clause-at
returns-then-is_named_kind-clause-at g c = λ nest s.
    wanted_at is_named _ c.args.at c.in-Some.node (sym c.in-Some.is ∙ c.node_from.ensures.node nest s)
    (kind_named c.in-Some.node.kind (sym c.is_named_kind.ensures ∙ c.if-is_named_kind.true))

pub returns-else-is_named_kind-clause-at : goal.returns-else-is_named_kind-clause-at
returns-else-is_named_kind-clause-at g c = λ nest s.
    unwanted_at _ nest is_named c.args.at c.in-Some.node (sym c.in-Some.is ∙ c.node_from.ensures.node nest s)
    (kind_unnamed c.in-Some.node.kind (sym c.is_named_kind.ensures ∙ c.if-is_named_kind.false))
