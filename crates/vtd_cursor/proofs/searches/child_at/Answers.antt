use Rattle.std.proofs.Common.{◌∙◌, sym}
use Rattle.xml_model.specs.Laws.{is_child_thing}
use Rattle.vtd_cursor.proofs.SearchLemmas.{child_wanted, child_unwanted}
use Rattle.vtd_words.proofs.Found.{none_at, wanted_at, unwanted_at}
use Rattle.vtd_cursor.proofs.searches.child_at.Goals as goal

pub returns-in_default-clause-at : goal.returns-in_default-clause-at
returns-in_default-clause-at g c = λ nest s. none_at is_child_thing _ c.args.at (sym c.in_default.is ∙ c.node_from.ensures.node nest s)

pub returns-then-is_child-clause-at : goal.returns-then-is_child-clause-at
returns-then-is_child-clause-at g c = λ nest s.
    wanted_at is_child_thing _ c.args.at c.in-Some.node (sym c.in-Some.is ∙ c.node_from.ensures.node nest s)
    (child_wanted c.in-Some.node.kind (sym c.is_child.ensures ∙ c.if-is_child.true))

pub returns-else-is_child-clause-at : goal.returns-else-is_child-clause-at
returns-else-is_child-clause-at g c = λ nest s.
    unwanted_at _ nest is_child_thing c.args.at c.in-Some.node (sym c.in-Some.is ∙ c.node_from.ensures.node nest s)
    (child_unwanted c.in-Some.node.kind (sym c.is_child.ensures ∙ c.if-is_child.false))
