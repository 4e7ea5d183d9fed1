use Rattle.std.proofs.Common.{◌&&◌, sym, subst}
use Rattle.std.specs.List.{AllByRecursion as Each}
use Rattle.vtd_words.specs.Table.{nodes_of, IsNodeOf}
use Rattle.xml_model.specs.Laws.{is_child_kind}
use Rattle.xpath_steps.specs.Forward.{IsHere}
use Rattle.xpath_steps.specs.Waits.{flagged}
use Rattle.xpath_steps.proofs.AboveLemmas.{each_append}
use Rattle.xpath_steps.proofs.EarlierLemmas.{each_if, earlier_passed, none_earlier}
use Rattle.xpath_steps.proofs.earlier.pass_back.Goals as goal

pub returns-in_default-clause-gathered : goal.returns-in_default-clause-gathered
returns-in_default-clause-gathered g c = λ nest s ds h.
    none_earlier nest _ s.accepted.document.nests ds c.args.at _ _ h ((rw c.in_default.is at c.node_here.ensures.none) nest s)

pub returns-clause-nodes : goal.returns-clause-nodes
returns-clause-nodes g c = subst (Each (IsNodeOf _ _)) (sym c.in_ok-append_flagged.ensures)
    (each_append _ _ _ c.requires.nodes
    (each_if _ (is_child_kind c.in-Some.here.node.kind && flagged c.args.waiting.now c.in-Some.here.level) _ c.in-Some.ensures.node))

pub returns-clause-gathered : goal.returns-clause-gathered
returns-clause-gathered g c = λ nest s ds h.
    let z : IsHere (nodes_of c.args.table.now.bytes nest) c.args.at c.in-Some.here.node c.in-Some.here.level = c.in-Some.ensures.here nest s in
    earlier_passed nest _ s.accepted.document.nests ds c.args.at _ _ h c.in-Some.here.node c.in-Some.here.level z _ c.flag_inside.ensures _
    c.in_ok-append_flagged.ensures
