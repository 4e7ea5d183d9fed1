use Rattle.std.proofs.Common.{◌≡◌, ℕ, ◌++◌, List, refl, sym, ap, ap₂, subst, ◌∙◌, rules}
use Rattle.vtd_edits.specs.declared.splice.Splice.{Splice}
use Rattle.vtd_edits.specs.Splices.{Staged}
use Rattle.vtd_edits.specs.Plans.{IsPlan}
use Rattle.vtd_edits.proofs.Held.{held_plan, held_seen}
use Rattle.vtd_edits.proofs.edits.Edits.carry_out.Goals as goal

pub invariant_of-self : goal.invariant_of-self
invariant_of-self c =
    let x = c.self.inside in
    let stays : c.append.new.self.items ≡ c.self.inside.staged.items = search rules in
    held_seen x.len x.staged.items c.append.new.self.items x.order.items x.order.items x.text x.taken c.self.invariant stays refl

pub invariant_of-self-2 : goal.invariant_of-self-2
invariant_of-self-2 c =
    let x = c.self.inside in
    let added : c.append.new.self.items ≡ c.self.inside.staged.items ++ c.list.inside.held.items = search rules in
    let all : c.append.new.self.items ≡ c.args.self.now.splices ++ c.args.list =
    added ∙ ap₂ (λ (xs ys : List Splice). xs ++ ys) (ap (λ (s : Staged). s.splices) c.self.view_is) c.list.view_is in
    held_plan x.len c.append.new.self.items (c.args.self.now.splices ++ c.args.list) c.args.plan c.self.invariant.small
    (subst (λ (n : ℕ). IsPlan n (c.args.self.now.splices ++ c.args.list) c.args.plan) (sym (ap (λ (s : Staged). s.len) c.self.view_is)) c.requires) all
