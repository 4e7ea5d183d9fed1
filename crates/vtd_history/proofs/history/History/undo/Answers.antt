use Rattle.std.proofs.Common.{refl, ◌≡◌, Some, arith, slice_get, subst, sym, ◌∙◌, ap, length, ◌≤◌}
use Rattle.circular_buffer.specs.Buffer.{Buffer}
use Rattle.vtd_history.specs.Versions.{version_at}
use Rattle.vtd_history.specs.Kept.{HasDepth}
use Rattle.vtd_history.specs.Chains.{Steps, BeginsMoved}
use Rattle.vtd_history.specs.declared.steps.Step.{Step}
use Rattle.vtd_history.proofs.Rings.{undone_in, put_back, begins_moved, seen}
use Rattle.vtd_history.proofs.history.History.undo.Goals as goal

pub returns-in-Ok-clause-undone : goal.returns-in-Ok-clause-undone
returns-in-Ok-clause-undone c =
    let taken : slice_get c.self.inside.done.items 0 ≡ Some c.in-Some.step = cc in
    undone_in c.args.self.now c.self.inside.done c.self.inside.undone c.pop_front.new.self c.push_front.new.self c.in-Some.step
    c.in-Ok.inverse
    (version_at c.args.document.now c.args.edits.now) (version_at c.turn.new.document c.turn.new.edits) c.self.view_is
    (record {
      few = c.self.invariant.2;
      depth = c.self.invariant.1;
      taken = taken;
      popped = c.pop_front.ensures.items;
      pushed = c.push_front.ensures.items;
      turned = c.in-Ok.ensures.turned;
    })
    c.requires

pub invariant_of-self-in-Err : goal.invariant_of-self-in-Err
invariant_of-self-in-Err c =
    let taken : slice_get c.self.inside.done.items 0 ≡ Some c.in-Some.step = cc in
    let few : length c.self.inside.done.items ≤ c.self.inside.done.capacity = omega arith in
    let same : c.push_front-in-Err.new.self ≡ c.self.inside.done = put_back c.self.inside.done c.pop_front.new.self
    c.push_front-in-Err.new.self c.in-Some.step c.in-Err.step few taken c.pop_front.ensures.items c.in-Err.ensures.given_back
    c.push_front-in-Err.ensures.items in
    subst (λ (d : Buffer Step). HasDepth d c.self.inside.undone) (sym same) c.self.invariant

pub returns-in-Err-clause-stays : goal.returns-in-Err-clause-stays
returns-in-Err-clause-stays c =
    let taken : slice_get c.self.inside.done.items 0 ≡ Some c.in-Some.step = cc in
    let few : length c.self.inside.done.items ≤ c.self.inside.done.capacity = omega arith in
    let same : c.push_front-in-Err.new.self ≡ c.self.inside.done = put_back c.self.inside.done c.pop_front.new.self
    c.push_front-in-Err.new.self c.in-Some.step c.in-Err.step few taken c.pop_front.ensures.items c.in-Err.ensures.given_back
    c.push_front-in-Err.ensures.items in
    ap (λ (d : Buffer Step). seen d c.self.inside.undone) same ∙ c.self.view_is

pub returns-in-Err-clause-moved : goal.returns-in-Err-clause-moved
returns-in-Err-clause-moved c moved fault =
    let taken : slice_get c.self.inside.done.items 0 ≡ Some c.in-Some.step = cc in
    c.in-Err.ensures.moved (begins_moved c.self.inside.done.items c.in-Some.step taken
    (subst (λ (s : Steps). BeginsMoved s.done) (sym c.self.view_is) moved)) refl
