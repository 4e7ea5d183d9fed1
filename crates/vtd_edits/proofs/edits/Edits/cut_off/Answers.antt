use Rattle.std.proofs.Common.{◌-◌, ◌∙◌, ap, arith, ℕ}
use Rattle.vtd_edits.specs.Splices.{text_size}
use Rattle.vtd_edits.specs.Order.{taken_size}
use Rattle.vtd_edits.proofs.Held.{cut_of, held_cut}
use Rattle.vtd_edits.proofs.edits.Edits.cut_off.Goals as goal

pub text_by-requires : goal.text_by-requires
text_by-requires c =
    let x = c.self.inside in
    (cut_of x.len x.staged.items x.order.items x.text x.taken (c.len.result - c.args.count) _ c.self.invariant
    (c.as_slice.ensures.value ∙ c.in-Ok.ensures.tail)).short

pub overflow_sub-self : goal.overflow_sub-self
overflow_sub-self c =
    let x = c.self.inside in
    let cut = cut_of x.len x.staged.items x.order.items x.text x.taken (c.len.result - c.args.count) c.as_slice.result.now c.self.invariant
    (c.as_slice.ensures.value ∙ c.in-Ok.ensures.tail) in
    let low = cut.texts in
    omega (arith, low, c.text_by.ensures)

pub taken_by-requires : goal.taken_by-requires
taken_by-requires c =
    let x = c.self.inside in
    (cut_of x.len x.staged.items x.order.items x.text x.taken (c.len.result - c.args.count) _ c.self.invariant
    (c.as_slice-2.ensures.value ∙ c.in-Ok.ensures.tail)).few

pub overflow_sub-self-2 : goal.overflow_sub-self-2
overflow_sub-self-2 c =
    let x = c.self.inside in
    let cut = cut_of x.len x.staged.items x.order.items x.text x.taken (c.len.result - c.args.count) c.as_slice-2.result.now c.self.invariant
    (c.as_slice-2.ensures.value ∙ c.in-Ok.ensures.tail) in
    let low = cut.takes in
    omega (arith, low, c.taken_by.ensures)

pub invariant_of-self-2 : goal.invariant_of-self-2
invariant_of-self-2 c =
    let x = c.self.inside in
    held_cut x.len x.staged.items _ x.order.items _ x.text x.taken (c.len.result - c.args.count) _ _ c.self.invariant
    (omega (arith, x.staged.ok, c.len.ensures))
    c.in-Ok.ensures.items c.keep_below.ensures
    (ap (λ (n : ℕ). x.text - n) (c.text_by.ensures ∙ ap text_size (c.as_slice.ensures.value ∙ c.in-Ok.ensures.tail)))
    (ap (λ (n : ℕ). x.taken - n) (c.taken_by.ensures ∙ ap taken_size (c.as_slice-2.ensures.value ∙ c.in-Ok.ensures.tail)))
