use Rattle.std.proofs.Common.{ap, arith}
use Rattle.vtd_edits.specs.Splices.{Staged}
use Rattle.vtd_edits.proofs.Turning.{held_turns, key_below, key_splice}
use Rattle.vtd_edits.proofs.edits.Edits.splice.Goals as goal

pub index-requires : goal.index-requires
index-requires c =
    let x = c.self.inside in
    let e = held_turns x.len x.staged.items c.args.self.now.splices x.order.items x.text x.taken c.self.invariant
    (ap (λ (s : Staged). s.splices) c.self.view_is) in
    omega (arith, c.requires, x.order.ok, e)

pub index-requires-2 : goal.index-requires-2
index-requires-2 c =
    let x = c.self.inside in
    let e = key_below x.len x.staged.items c.args.self.now.splices x.order.items x.text x.taken c.args.i c.index.result.now c.self.invariant
    (ap (λ (s : Staged). s.splices) c.self.view_is) c.requires c.index.ensures in
    omega (arith, x.staged.ok, e)

pub returns : goal.returns
returns c =
    let x = c.self.inside in
    key_splice x.len x.staged.items c.args.self.now.splices x.order.items x.text x.taken c.args.i c.index.result.now c.index-2.result.now c.self.invariant
    (ap (λ (s : Staged). s.splices) c.self.view_is) c.requires c.index.ensures c.index-2.ensures
