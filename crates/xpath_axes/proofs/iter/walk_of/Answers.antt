use Rattle.std.proofs.Common.{◌∙◌, ap, sym, false}
use Rattle.xml_model.proofs.Things.{thing_child}
use Rattle.vtd_words.specs.Table.{nodes_of}
use Rattle.xpath_axes.specs.Iters.{nodes_after_first}
use Rattle.xpath_axes.proofs.ClimbLemmas.{ancestors}
use Rattle.xpath_axes.proofs.FirstLemmas.{no_siblings}
use Rattle.xpath_axes.proofs.iter.walk_of.Goals as goal

pub returns-in-Ancestor-clause-walk : goal.returns-in-Ancestor-clause-walk
returns-in-Ancestor-clause-walk g c = λ nest s e w test.
    ancestors nest _ s.accepted.document.nests e w.0 c.args.node.at w.2 test
    ∙ sym (ap (λ a. nodes_after_first a test e (nodes_of c.args.table.now.bytes nest)) c.in-Ancestor.is)

pub returns-in-AncestorOrSelf-clause-walk : goal.returns-in-AncestorOrSelf-clause-walk
returns-in-AncestorOrSelf-clause-walk g c = λ nest s e w test.
    ancestors nest _ s.accepted.document.nests e w.0 c.args.node.at w.2 test
    ∙ sym (ap (λ a. nodes_after_first a test e (nodes_of c.args.table.now.bytes nest)) c.in-AncestorOrSelf.is)

pub returns-else-is_child-clause-walk : goal.returns-else-is_child-clause-walk
returns-else-is_child-clause-walk g c = λ nest s e w test.
    sym (ap (λ a. nodes_after_first a test e (nodes_of c.args.table.now.bytes nest)) c.in-PrecedingSibling.is
    ∙ no_siblings nest _ s.accepted.document.nests e w.0 (thing_child c.args.node.kind false e.what w.1 (sym c.is_child.ensures ∙ c.if-is_child.false)) test)
