use Rattle.std.proofs.Common.{ℕ, ◌≤◌, sym, subst, ◌∙◌, arith}
use Rattle.std.proofs.lemmas.Result.{err_from_is_err_and}
use Rattle.std.specs.Str.{IsCharBoundary}
use Rattle.xml_model.specs.Nest.{Forest}
use Rattle.xml_model.specs.Accepted.{Accepted}
use Rattle.vtd_builder.proofs.Going.{first_boundary, ahead_first, stopped_first, Head, head_of, ahead_more, stopped_more, ahead_end, level_low, past_boundary}
use Rattle.vtd_builder.proofs.emission.offer_records.Given as given
use Rattle.vtd_builder.proofs.emission.offer_records.Goals as goal
use Rattle.vtd_builder.proofs.emission.offer_records.Goals.{In-loop-at}

head : (g : given.Over) (c : In-loop-at g) (nest : Forest) → Accepted 6 c.args.bytes.now nest
    → Head c.args.bytes.now nest (g.R.RecordSink.refuses c.args.into.now) (g.R.RecordSink.taken c.args.into.now) c.loop-at.at c.loop-at.level (g.R.RecordSink.refuses c.loop-at.into) (g.R.RecordSink.taken c.loop-at.into) c.loop-at.count
head g c nest a = head_of c.args.bytes.now nest _ _ c.loop-at.at c.loop-at.level _ _ c.loop-at.count (c.loop-at.invariant.0.each nest a) c.loop-at-test.true

pub returns-in_err-count-clause-outcome : goal.returns-in_err-count-clause-outcome
returns-in_err-count-clause-outcome g c = λ nest a.
    let p = err_from_is_err_and c.from_residual.result c.from_residual.ensures.1 in
    rw (p.1, p.2) (stopped_first c.args.bytes.now nest _ _ _ _ c.requires.size a c.in_err-count.ensures.outcome)

pub loop-at-init : goal.loop-at-init
loop-at-init g c = (
  rw c.first_place-at.ensures record {
    boundary = first_boundary c.args.bytes.now c.requires.accepted.1.utf8;
    low = omega arith;
    each = λ nest a. ahead_first c.args.bytes.now nest _ _ _ _ _ c.requires.size a c.in_ok-count.ensures.outcome c.offer.ensures.test;
  },
  c.offer.ensures.rest,
)

pub offer_item-requires-clause-item : goal.offer_item-requires-clause-item
offer_item-requires-clause-item g c =
    let h = head g (goal.at.offer_item-requires-clause-item g c).In-loop-at c.requires.accepted.0 c.requires.accepted.1 in
    (h.item, h.begins, h.can)

pub returns-in_err-passed-clause-outcome : goal.returns-in_err-passed-clause-outcome
returns-in_err-passed-clause-outcome g c = λ nest a.
    let p = err_from_is_err_and c.from_residual-in_err-passed.result c.from_residual-in_err-passed.ensures.1 in
    let h = head g (goal.at.returns-in_err-passed-clause-outcome g c).In-loop-at nest a in
    rw (p.1, p.2) (stopped_more c.args.bytes.now nest _ _ c.loop-at.at c.loop-at.level _ _ _ c.loop-at.count _ h c.in_err-passed.ensures.outcome)

pub loop-at-smaller : goal.loop-at-smaller
loop-at-smaller g c =
    let h = head g (goal.at.loop-at-smaller g c).In-loop-at c.requires.accepted.0 c.requires.accepted.1 in
    let p = c.in_ok-passed.ensures.passed h.item h.begins h.can in
    omega (arith, p.place, h.longer, h.within)

pub loop-at-preserved : goal.loop-at-preserved
loop-at-preserved g c =
    let here = (goal.at.loop-at-preserved g c).In-loop-at in
    let h = head g here c.requires.accepted.0 c.requires.accepted.1 in
    let p = c.in_ok-passed.ensures.passed h.item h.begins h.can in (
      record {
        boundary = subst (λ (m : ℕ). IsCharBoundary c.args.bytes.now m) (sym p.place) (past_boundary c.args.bytes.now c.loop-at.at h.item c.requires.accepted.1.utf8 c.loop-at.invariant.0.boundary h.begins);
        low = subst (λ (m : ℕ). m ≤ 256) (sym p.inside) (level_low h.item c.loop-at.level c.loop-at.at c.loop-at.count h.can c.loop-at.invariant.0.low);
        each = λ nest a.
            let k = head g here nest a in
            let q = c.in_ok-passed.ensures.passed k.item k.begins k.can in
            ahead_more c.args.bytes.now nest _ _ c.loop-at.at c.loop-at.level _ _ _ _ c.loop-at.count c.in_ok-passed.passed.count c.in_ok-passed.passed.at c.in_ok-passed.passed.level k c.in_ok-passed.ensures.outcome c.offer_item.ensures.test q.place q.inside;
      },
      c.offer_item.ensures.rest ∙ c.loop-at.invariant.1,
    )

pub returns-clause-outcome : goal.returns-clause-outcome
returns-clause-outcome g c = λ nest a. ahead_end c.args.bytes.now nest _ _ c.loop-at.at c.loop-at.level _ _ _ (c.loop-at.invariant.0.each nest a) (omega (arith, c.loop-at-test.false, c.loop-at.invariant.0.boundary.0))
