use Rattle.std.proofs.Common.{◌∙◌, sym}
use Rattle.xml_model.specs.Laws.{is_attribute_thing}
use Rattle.vtd_cursor.proofs.SearchLemmas.{attribute_wanted, attribute_unwanted}
use Rattle.vtd_words.proofs.Found.{none_at, wanted_at, unwanted_at}
use Rattle.vtd_cursor.proofs.searches.attribute_at.Goals as goal

pub returns-in_default-clause-at : goal.returns-in_default-clause-at
returns-in_default-clause-at g c = λ nest s. none_at is_attribute_thing _ c.args.at (sym c.in_default.is ∙ c.node_from.ensures.node nest s)

pub returns-in-Attribute-clause-at : goal.returns-in-Attribute-clause-at
returns-in-Attribute-clause-at g c = λ nest s.
    wanted_at is_attribute_thing _ c.args.at c.in-Some.node (sym c.in-Some.is ∙ c.node_from.ensures.node nest s)
    (attribute_wanted c.in-Some.node.kind c.in-Attribute.is)

pub returns-in_default-kind : goal.returns-in_default-kind
returns-in_default-kind g c = record {
  at = λ nest s. unwanted_at _ nest is_attribute_thing c.args.at c.in-Some.node (sym c.in-Some.is ∙ c.node_from.ensures.node nest s)
      (attribute_unwanted c.in-Some.node.kind c.in_default-kind.not-Attribute);
  node = tt;
}
