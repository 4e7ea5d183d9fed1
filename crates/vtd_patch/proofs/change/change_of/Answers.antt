use Rattle.std.proofs.Common.{refl}
use Rattle.vtd_modifier.specs.declared.operation.EditFault.TheVariants as faults
use Rattle.vtd_patch.proofs.ChangeOf.{never_refused, says_name, says_kind, one_made, found_is, found_some, found_in}
use Rattle.vtd_patch.proofs.change.change_of.Goals as goal

pub unreachable-requires : goal.unreachable-requires
unreachable-requires g c =
    let d = c.in-Err-Name in
    never_refused c.args.nav.now.bytes c.args.text.now (g.W.Words.lists c.args.nav.now.words) c.args.node c.in_ok-nodes.nodes _ d.field-0
    faults.Name c.in_ok-nodes.ensures c.requires.node c.requires.kind d.field-0-is says_name d.ensures.refused (λ e. refl)

pub unreachable-requires-in-Err-Kind : goal.unreachable-requires-in-Err-Kind
unreachable-requires-in-Err-Kind g c =
    let d = c.in-Err-Kind in
    never_refused c.args.nav.now.bytes c.args.text.now (g.W.Words.lists c.args.nav.now.words) c.args.node c.in_ok-nodes.nodes _ d.field-0
    (faults.Kind d.field-0-0) c.in_ok-nodes.ensures c.requires.node c.requires.kind d.field-0-is (says_kind d.field-0-0) d.ensures.refused
    (λ e. refl)

pub unreachable-requires-in_default : goal.unreachable-requires-in_default
unreachable-requires-in_default g c =
    let n = c.requires.node in
    let made = one_made c.args.nav.now.bytes c.args.text.now (g.W.Words.lists c.args.nav.now.words) c.args.node c.in_ok-nodes.nodes _
    c.in-Ok.splices c.in_ok-nodes.ensures c.requires.kind c.in-Ok.ensures.made (λ e. refl) in
    found_some c.args.nav.now.bytes c.args.text.now n.entry c.in-Ok.splices c.change_in.result c.change_in.ensures c.in_default.is
    (made n.nest n.shown n.entry n.holds)

pub returns-clause-made : goal.returns-clause-made
returns-clause-made g c = λ nest s e i.
    let made = one_made c.args.nav.now.bytes c.args.text.now (g.W.Words.lists c.args.nav.now.words) c.args.node c.in_ok-nodes.nodes _
    c.in-Ok.splices c.in_ok-nodes.ensures c.requires.kind c.in-Ok.ensures.made (λ x. refl) in
    found_is c.args.nav.now.bytes c.args.text.now e c.in-Ok.splices c.change_in.result c.in-Some.change c.change_in.ensures c.in-Some.is
    (made nest s e i)

pub returns-clause-within : goal.returns-clause-within
returns-clause-within g c =
    let n = c.requires.node in
    let made = one_made c.args.nav.now.bytes c.args.text.now (g.W.Words.lists c.args.nav.now.words) c.args.node c.in_ok-nodes.nodes _
    c.in-Ok.splices c.in_ok-nodes.ensures c.requires.kind c.in-Ok.ensures.made (λ x. refl) in
    let here = made n.nest n.shown n.entry n.holds in
    found_in c.args.nav.now.bytes c.args.text.now n.entry c.in-Ok.splices c.in-Some.change
    (found_is c.args.nav.now.bytes c.args.text.now n.entry c.in-Ok.splices c.change_in.result c.in-Some.change c.change_in.ensures c.in-Some.is here)
    here c.in-Ok.ensures.within
