use Rattle.std.proofs.Common.{◌∙◌, ◌+◌, refl, sym}
use Rattle.xpath_steps.proofs.ParentLemmas.{at_element, at_other, at_root, no_node}
use Rattle.xpath_steps.proofs.parents.holder_at.Goals as goal

pub returns-in_default-clause-none : goal.returns-in_default-clause-none
returns-in_default-clause-none g c = λ nest s.
    no_node c.args.table.now.bytes nest c.args.at (sym c.in_default.is ∙ c.node_at.ensures.node nest s)

pub returns-in-Root-clause-holder : goal.returns-in-Root-clause-holder
returns-in-Root-clause-holder g c = λ nest s.
    at_root c.args.table.now.bytes nest c.args.at c.in-Some.node (sym c.in-Some.is ∙ c.node_at.ensures.node nest s) c.in-Root.is

pub returns-in-Element-clause-holder : goal.returns-in-Element-clause-holder
returns-in-Element-clause-holder g c = λ nest s.
    at_element c.args.table.now.bytes nest c.args.at c.in-Some.node (sym c.in-Some.is ∙ c.node_at.ensures.node nest s) c.in-Element.is
    c.level_at.result (c.level_at.result + 1) refl (c.level_at.ensures.level nest s)

pub returns-in_default-kind : goal.returns-in_default-kind
returns-in_default-kind g c = record {
  holder = λ nest s. tt;
  none = λ nest s.
      at_other c.args.table.now.bytes nest c.args.at c.in-Some.node (sym c.in-Some.is ∙ c.node_at.ensures.node nest s) s.accepted.document.nests
      c.in_default-kind.not-Root c.in_default-kind.not-Element;
  node = tt;
  level = tt;
}
