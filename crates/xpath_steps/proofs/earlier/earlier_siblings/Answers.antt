use Rattle.std.proofs.Common.{◌∙◌, sym, subst, arith, drop}
use Rattle.std.specs.List.{AllByRecursion as Each}
use Rattle.xml_model.specs.declared.Kind.TheVariants as kinds
use Rattle.xml_model.specs.declared.Node.{Node}
use Rattle.vtd_words.specs.Table.{IsNodeOf, nodes_of}
use Rattle.xpath_steps.specs.Earlier.{children_among, Earlier}
use Rattle.xpath_steps.specs.Waits.{flagged}
use Rattle.xpath_steps.proofs.AboveLemmas.{each_index, each_reverse}
use Rattle.xpath_steps.proofs.EarlierLemmas.{all_earlier, no_siblings}
use Rattle.xpath_steps.proofs.StepLemmas.{At, at_index, as_many, context_is}
use Rattle.xpath_steps.proofs.earlier.earlier_siblings.Goals as goal

pub returns-clause-nodes : goal.returns-clause-nodes
returns-clause-nodes g c =
    each_index (IsNodeOf _ _) _ (subst (Each (IsNodeOf _ _)) (sym c.reverse.ensures.items) (each_reverse _ _ c.in_ok-_stop.ensures.nodes))

pub returns-clause-siblings : goal.returns-clause-siblings
returns-clause-siblings g c = λ nest s cs e k.
    let es = nodes_of c.args.table.now.bytes nest in
    let a : At cs 0 = at_index cs 0 (omega (arith, as_many cs _ e, c.if-count-eq0.false)) in
    let d : Node = record { kind = kinds.Root; at = 0 } in
    let in_it = context_is es cs k c.args.contexts.now e 0 a d in
    let all = c.in_ok-_stop.ensures.gathered nest s a.entry in_it (drop 1 cs) (omega arith) (c.in_ok-pass_to_first.ensures.gathered nest s cs e k) in
    c.reverse.ensures.items
    ∙ all_earlier nest _ s.accepted.document.nests cs k c.lowest-floor.result c.in_ok-_stop._stop (c.lowest-floor.ensures nest s cs e k) _ _
    (subst (λ ds. Earlier es (children_among ds) c.in_ok-_stop._stop (flagged c.pass_context.new.waiting) c.pass_context.new.held.items) (sym a.split) all)
    (λ m l p. c.in_ok-_stop.ensures.stop nest s m l p)

pub returns-then-count-eq0-clause-siblings : goal.returns-then-count-eq0-clause-siblings
returns-then-count-eq0-clause-siblings g c = λ nest s cs e k.
    c.new-held.ensures.items ∙ sym (no_siblings cs (nodes_of c.args.table.now.bytes nest) (omega (arith, as_many cs _ e, c.if-count-eq0.true)))
