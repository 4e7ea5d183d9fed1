use Rattle.std.proofs.Common.{sym, ap, ◌∙◌, List, ℕ, ◌∷◌}
use Rattle.std.specs.Str.{chars}
use Rattle.vtd_text.proofs.TextsLemmas.{ends_both, slices_differ, slices_fewer, slices_go_on}
use Rattle.vtd_text.proofs.texts.equals.Goals as goal

pub returns-in_default-take_first : goal.returns-in_default-take_first
returns-in_default-take_first g c =
    ends_both (chars c.slices.left.now) (chars c.slices.right.now) (chars c.in-Some.after.now) (chars c.in-Some.rest.now) c.slices.one c.slices.other c.take_first-in_default-take_first.new.left c.take_first-in_default-take_first.result c.is_none.result c.in-Some.ensures c.in_default-take_first.ensures
    c.take_first-in_default-take_first.ensures c.is_none.ensures
    ∙ sym c.slices.invariant.same

pub returns-then-c-d : goal.returns-then-c-d
returns-then-c-d g c =
    sym (c.slices.invariant.same ∙ slices_differ (chars c.slices.left.now) (chars c.slices.right.now) (chars c.in-Some.after.now) (chars c.in-Some.rest.now) c.slices.one c.slices.other _ _
    c.in-Some-take_first.c c.in-Some-take_first-2.d c.in-Some.ensures c.in-Some-take_first.ensures c.in-Some-take_first-2.ensures c.if-c-d.true)

pub slices-preserved : goal.slices-preserved
slices-preserved g c =
    let p = c.in-Some-take_first in
    let q = c.in-Some-take_first-2 in
    record {
      same = c.slices.invariant.same ∙ slices_go_on (chars c.slices.left.now) (chars c.slices.right.now) (chars c.in-Some.after.now) (chars c.in-Some.rest.now) c.slices.one c.slices.other _ _ p.c q.d c.in-Some.ensures
          (p.ensures ∙ ap (λ (l : List ℕ). p.c ∷ l) c.refill-left.ensures) (q.ensures ∙ ap (λ (l : List ℕ). q.d ∷ l) c.refill-right.ensures) c.if-c-d.false;
      left_text = c.refill-left.utf8;
      right_text = c.refill-right.utf8;
    }

pub slices-smaller : goal.slices-smaller
slices-smaller g c =
    let p = c.in-Some-take_first in
    slices_fewer (chars c.slices.left.now) (chars c.slices.right.now) (chars c.in-Some.after.now) (chars c.in-Some.rest.now) c.slices.one _ p.c c.in-Some.ensures (p.ensures ∙ ap (λ (l : List ℕ). p.c ∷ l) c.refill-left.ensures)
