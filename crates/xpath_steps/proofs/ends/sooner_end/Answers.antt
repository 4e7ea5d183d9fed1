use Rattle.std.proofs.Common.{◌<◌, ◌∙◌, ap, arith, min}
use Rattle.xml_model.proofs.TreeOrder.{in_order}
use Rattle.xpath_steps.proofs.ends.sooner_end.Goals as goal

pub returns-then-node-end : goal.returns-then-node-end
returns-then-node-end g c = λ nest s e w. c.min.ensures ∙ ap (λ m. min c.args.end m) (c.end_of.ensures nest s e w)

pub returns-else-node-end : goal.returns-else-node-end
returns-else-node-end g c = λ nest s e w.
    let some : e.index < e.past = (in_order nest _ s.accepted.document.nests).some e w.0 in
    omega (arith, some, w.2, c.if-node-end.false)
