use Rattle.std.proofs.Common.{◌≡◌, ◌+◌, ◌-◌, ◌<◌, ◌≤◌, ◌∙◌, refl, arith}
use Rattle.std.proofs.lemmas.Result.{err_from_is_err_and}
use Rattle.vtd_words.specs.Packed.{record_of}
use Rattle.vtd_builder.proofs.InParts.{offers_none}
use Rattle.vtd_builder.proofs.LongTexts.{can_cut, can_last, cuts_more, cuts_stopped, cuts_last}
use Rattle.vtd_builder.proofs.offers.offer_cuts.Goals as goal

pub cuts-init : goal.cuts-init
cuts-init g c = (c.requires.span, offers_none _ _ c.args.count _ c.requires.room, refl)

pub offer-requires-clause-fits : goal.offer-requires-clause-fits
offer-requires-clause-fits g c =
    let i = c.cuts.invariant in
    (can_cut c.cuts.count c.args.token c.args.depth c.cuts.at c.args.span.end (record_of c.plain_parts-cut.result) i.1.can c.cuts-test.true c.plain_parts-cut.ensures).fit.0

pub offer-requires-clause-counted : goal.offer-requires-clause-counted
offer-requires-clause-counted g c =
    let i = c.cuts.invariant in
    (can_cut c.cuts.count c.args.token c.args.depth c.cuts.at c.args.span.end (record_of c.plain_parts-cut.result) i.1.can c.cuts-test.true c.plain_parts-cut.ensures).counted

pub cuts-preserved : goal.cuts-preserved
cuts-preserved g c =
    let i = c.cuts.invariant in
    let o = c.in_ok-count.ensures in (
      omega (arith, c.cuts-test.true),
      cuts_more _ _ c.args.count _ _ _ c.cuts.count c.args.token c.args.depth c.cuts.at c.args.span.end (record_of c.plain_parts-cut.result) _ _ c.in_ok-count.count i.1 c.cuts-test.true c.plain_parts-cut.ensures o.outcome o.test,
      o.rest ∙ i.2,
    )

pub returns-in_err-count-clause-outcome : goal.returns-in_err-count-clause-outcome
returns-in_err-count-clause-outcome g c =
    let p = err_from_is_err_and c.from_residual.result c.from_residual.ensures.1 in
    let i = c.cuts.invariant in
    rw (p.1, p.2)
    (cuts_stopped _ _ c.args.count _ _ _ c.cuts.count c.args.token c.args.depth c.cuts.at c.args.span.end (record_of c.plain_parts-cut.result) _ _ i.1 c.cuts-test.true c.plain_parts-cut.ensures c.in_err-count.ensures.outcome)

pub offer-requires-2-clause-fits : goal.offer-requires-2-clause-fits
offer-requires-2-clause-fits g c =
    (can_last c.cuts.count c.args.token c.args.depth c.cuts.at c.args.span.end (record_of c.plain_parts-last.result) c.cuts.invariant.1.can c.cuts-test.false c.plain_parts-last.ensures).fit.0

pub offer-requires-2-clause-counted : goal.offer-requires-2-clause-counted
offer-requires-2-clause-counted g c =
    (can_last c.cuts.count c.args.token c.args.depth c.cuts.at c.args.span.end (record_of c.plain_parts-last.result) c.cuts.invariant.1.can c.cuts-test.false c.plain_parts-last.ensures).counted

pub returns-clause-outcome : goal.returns-clause-outcome
returns-clause-outcome g c =
    cuts_last _ _ c.args.count _ _ _ c.cuts.count c.args.token c.args.depth c.cuts.at c.args.span.end (record_of c.plain_parts-last.result) _ c.cuts.invariant.1 c.cuts-test.false c.plain_parts-last.ensures c.offer-2.ensures.outcome
