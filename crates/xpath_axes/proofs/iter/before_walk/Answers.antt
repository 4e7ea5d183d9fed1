use Rattle.std.proofs.Common.{◌∙◌, ap}
use Rattle.xpath_axes.specs.Iters.{comes_first}
use Rattle.xpath_axes.proofs.FirstLemmas.{self_of, owner_first, nothing_first}
use Rattle.xpath_axes.proofs.iter.before_walk.Goals as goal

pub returns-in-Parent-clause-first : goal.returns-in-Parent-clause-first
returns-in-Parent-clause-first g c = λ nest s e w.
    owner_first nest _ s.accepted.document.nests e w.0 c.args.axis c.in-Parent.is c.owner_of.result (λ r. w.1 ∙ c.owner_of.ensures.root.0 r)
    (c.owner_of.ensures.parent nest s e w)

pub returns-in-Itself-clause-first : goal.returns-in-Itself-clause-first
returns-in-Itself-clause-first g c = λ nest s e w.
    self_of nest _ s.accepted.document.nests e w.0 c.args.node w c.args.axis (ap (λ a. comes_first a e) c.in-Itself.is)

pub returns-in-DescendantOrSelf-clause-first : goal.returns-in-DescendantOrSelf-clause-first
returns-in-DescendantOrSelf-clause-first g c = λ nest s e w.
    self_of nest _ s.accepted.document.nests e w.0 c.args.node w c.args.axis (ap (λ a. comes_first a e) c.in-DescendantOrSelf.is)

pub returns-in-AncestorOrSelf-clause-first : goal.returns-in-AncestorOrSelf-clause-first
returns-in-AncestorOrSelf-clause-first g c = λ nest s e w.
    self_of nest _ s.accepted.document.nests e w.0 c.args.node w c.args.axis (ap (λ a. comes_first a e) c.in-AncestorOrSelf.is)

pub returns-in_default : goal.returns-in_default
returns-in_default g c = record {
  first = λ nest s e w.
      nothing_first nest _ s.accepted.document.nests e w.0 c.args.axis c.in_default.not-Itself c.in_default.not-Parent
      c.in_default.not-DescendantOrSelf c.in_default.not-AncestorOrSelf;
  node = tt;
}
