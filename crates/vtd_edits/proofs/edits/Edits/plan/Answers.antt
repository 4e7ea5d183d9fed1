use Rattle.std.proofs.Common.{◌≡◌, ℕ, ◌+◌, ◌++◌, List, refl, sym, ap, subst, ◌∙◌, arith}
use Rattle.std.specs.List.{All}
use Rattle.std.proofs.lemmas.List.Elements.{All-append}
use Rattle.vtd_edits.specs.declared.splice.Splice.{Splice}
use Rattle.vtd_edits.specs.Splices.{IsWithin, Refuses, Staged}
use Rattle.vtd_edits.specs.declared.splice.StageFault.TheVariants.{TextLong}
use Rattle.vtd_edits.specs.declared.staging.Plan.{Plan}
use Rattle.vtd_edits.specs.Order.{order_of}
use Rattle.vtd_edits.specs.Plans.{IsPlan}
use Rattle.vtd_edits.proofs.Held.{held_seen, low_starts, plan_of, taken_fits, too_long, whole_apart}
use Rattle.vtd_edits.proofs.edits.Edits.plan.Goals as goal

pub order_with-requires : goal.order_with-requires
order_with-requires c =
    let x = c.self.inside in
    let held = held_seen x.len x.staged.items c.as_slice-staged.result.now x.order.items c.as_slice.result.now x.text x.taken c.self.invariant
    c.as_slice-staged.ensures.value c.as_slice.ensures.value in
    let within : All (IsWithin x.len) c.args.list.now = subst (λ (n : ℕ). All (IsWithin n) c.args.list.now) (sym (ap (λ (s : Staged). s.len) c.self.view_is))
    c.requires in
    record { sorted = held.sorted; few = held.few; low = low_starts x.len c.args.list.now held.small within }

pub first_overlap-requires : goal.first_overlap-requires
first_overlap-requires c =
    let x = c.self.inside in
    let held = held_seen x.len x.staged.items c.as_slice-staged.result.now x.order.items x.order.items x.text x.taken c.self.invariant
    c.as_slice-staged.ensures.value refl in
    let within : All (IsWithin x.len) c.args.list.now = subst (λ (n : ℕ). All (IsWithin n) c.args.list.now) (sym (ap (λ (s : Staged). s.len) c.self.view_is))
    c.requires in
    record {
      sorted = c.as_slice-keys.ensures.value ∙ c.in-Some.ensures.order;
      few = c.in-Some.ensures.few;
      within = (x.len, All-append (IsWithin x.len) c.as_slice-staged.result.now c.args.list.now held.edits.within within);
      apart = held.edits.apart;
      overlaps = sym c.are_apart.ensures ∙ c.if-not-are_apart.true;
    }

pub text_with-requires : goal.text_with-requires
text_with-requires c =
    let x = c.self.inside in
    let short = c.self.invariant.edits.short in
    let texts = c.self.invariant.texts in
    omega (arith, short, texts)

pub taken_by-requires : goal.taken_by-requires
taken_by-requires c =
    let x = c.self.inside in
    let held = held_seen x.len x.staged.items c.as_slice-staged.result.now x.order.items x.order.items x.text x.taken c.self.invariant
    c.as_slice-staged.ensures.value refl in
    let within : All (IsWithin x.len) c.args.list.now = subst (λ (n : ℕ). All (IsWithin n) c.args.list.now) (sym (ap (λ (s : Staged). s.len) c.self.view_is))
    c.requires in
    let sorted : c.as_slice-keys.result.now ≡ order_of (c.as_slice-staged.result.now ++ c.args.list.now) = c.as_slice-keys.ensures.value
    ∙ c.in-Some.ensures.order in
    let apart = whole_apart x.len c.as_slice-staged.result.now c.args.list.now c.as_slice-keys.result.now sorted c.in-Some.ensures.few held.edits.within within
    (sym c.are_apart.ensures ∙ c.if-not-are_apart.false) in
    let fits = taken_fits x.len c.as_slice-staged.result.now c.args.list.now x.order.items x.text x.taken c.in-Some-text_with.text held within
    c.in-Some.ensures.few apart
    c.in-Some-text_with.ensures.0 c.in-Some-text_with.ensures.1 in
    omega (arith, fits)

pub overflow_add-taken : goal.overflow_add-taken
overflow_add-taken c =
    let x = c.self.inside in
    let held = held_seen x.len x.staged.items c.as_slice-staged.result.now x.order.items x.order.items x.text x.taken c.self.invariant
    c.as_slice-staged.ensures.value refl in
    let within : All (IsWithin x.len) c.args.list.now = subst (λ (n : ℕ). All (IsWithin n) c.args.list.now) (sym (ap (λ (s : Staged). s.len) c.self.view_is))
    c.requires in
    let sorted : c.as_slice-keys.result.now ≡ order_of (c.as_slice-staged.result.now ++ c.args.list.now) = c.as_slice-keys.ensures.value
    ∙ c.in-Some.ensures.order in
    let apart = whole_apart x.len c.as_slice-staged.result.now c.args.list.now c.as_slice-keys.result.now sorted c.in-Some.ensures.few held.edits.within within
    (sym c.are_apart.ensures ∙ c.if-not-are_apart.false) in
    let fits = taken_fits x.len c.as_slice-staged.result.now c.args.list.now x.order.items x.text x.taken c.in-Some-text_with.text held within
    c.in-Some.ensures.few apart
    c.in-Some-text_with.ensures.0 c.in-Some-text_with.ensures.1 in
    omega (arith, fits, c.taken_by.ensures)

pub returns-then-not-are_apart-clause-refused : goal.returns-then-not-are_apart-clause-refused
returns-then-not-are_apart-clause-refused c =
    subst (λ (xs : List Splice). Refuses (xs ++ c.args.list.now) c.first_overlap.result)
    (c.as_slice-staged.ensures.value ∙ ap (λ (s : Staged). s.splices) c.self.view_is) c.first_overlap.ensures

pub returns-in_default-text_with-clause-refused : goal.returns-in_default-text_with-clause-refused
returns-in_default-text_with-clause-refused c =
    let x = c.self.inside in
    let held = held_seen x.len x.staged.items c.as_slice-staged.result.now x.order.items x.order.items x.text x.taken c.self.invariant
    c.as_slice-staged.ensures.value refl in
    let within : All (IsWithin x.len) c.args.list.now = subst (λ (n : ℕ). All (IsWithin n) c.args.list.now) (sym (ap (λ (s : Staged). s.len) c.self.view_is))
    c.requires in
    let sorted : c.as_slice-keys.result.now ≡ order_of (c.as_slice-staged.result.now ++ c.args.list.now) = c.as_slice-keys.ensures.value
    ∙ c.in-Some.ensures.order in
    let apart = whole_apart x.len c.as_slice-staged.result.now c.args.list.now c.as_slice-keys.result.now sorted c.in-Some.ensures.few held.edits.within within
    (sym c.are_apart.ensures ∙ c.if-not-are_apart.false) in
    subst (λ (xs : List Splice). Refuses (xs ++ c.args.list.now) TextLong)
    (c.as_slice-staged.ensures.value ∙ ap (λ (s : Staged). s.splices) c.self.view_is)
    (apart, too_long x.len c.as_slice-staged.result.now c.args.list.now x.order.items x.text x.taken held c.in_default-text_with.ensures)

pub returns-clause-plan : goal.returns-clause-plan
returns-clause-plan c =
    let x = c.self.inside in
    let held = held_seen x.len x.staged.items c.as_slice-staged.result.now x.order.items x.order.items x.text x.taken c.self.invariant
    c.as_slice-staged.ensures.value refl in
    let within : All (IsWithin x.len) c.args.list.now = subst (λ (n : ℕ). All (IsWithin n) c.args.list.now) (sym (ap (λ (s : Staged). s.len) c.self.view_is))
    c.requires in
    let sorted : c.as_slice-keys.result.now ≡ order_of (c.as_slice-staged.result.now ++ c.args.list.now) = c.as_slice-keys.ensures.value
    ∙ c.in-Some.ensures.order in
    let apart = whole_apart x.len c.as_slice-staged.result.now c.args.list.now c.as_slice-keys.result.now sorted c.in-Some.ensures.few held.edits.within within
    (sym c.are_apart.ensures ∙ c.if-not-are_apart.false) in
    let plan : Plan = record { order = c.in-Some.order; text = c.in-Some-text_with.text; taken = x.taken + c.taken_by.result } in
    let is = plan_of x.len c.as_slice-staged.result.now c.args.list.now plan x.order.items x.text x.taken held within c.in-Some.ensures.few
    c.in-Some.ensures.order apart
    c.in-Some-text_with.ensures.0 c.in-Some-text_with.ensures.1 (ap (λ (n : ℕ). x.taken + n) c.taken_by.ensures) in
    subst (λ (n : ℕ). IsPlan n (c.args.self.now.splices ++ c.args.list.now) plan) (ap (λ (s : Staged). s.len) c.self.view_is)
    (subst (λ (xs : List Splice). IsPlan x.len (xs ++ c.args.list.now) plan) (c.as_slice-staged.ensures.value ∙ ap (λ (s : Staged). s.splices) c.self.view_is)
    is)
