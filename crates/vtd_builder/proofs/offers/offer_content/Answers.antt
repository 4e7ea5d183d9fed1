use Rattle.std.proofs.Common.{◌≡◌}
use Rattle.vtd_words.specs.Packed.{record_of}
use Rattle.vtd_builder.proofs.InParts.{offers_none}
use Rattle.vtd_builder.proofs.LongTexts.{can_last, cuts_last}
use Rattle.vtd_builder.proofs.offers.offer_content.Goals as goal

pub offer-requires-clause-fits : goal.offer-requires-clause-fits
offer-requires-clause-fits g c =
    (can_last c.args.count c.args.token c.args.depth c.args.span.start c.args.span.end (record_of c.plain_parts.result) c.requires.room c.if-span-gt-CUT_LIMIT.false c.plain_parts.ensures).fit.0

pub offer-requires-clause-counted : goal.offer-requires-clause-counted
offer-requires-clause-counted g c =
    (can_last c.args.count c.args.token c.args.depth c.args.span.start c.args.span.end (record_of c.plain_parts.result) c.requires.room c.if-span-gt-CUT_LIMIT.false c.plain_parts.ensures).counted

pub returns-clause-outcome : goal.returns-clause-outcome
returns-clause-outcome g c =
    cuts_last _ _ c.args.count _ _ _ c.args.count c.args.token c.args.depth c.args.span.start c.args.span.end (record_of c.plain_parts.result) _ (offers_none _ _ c.args.count _ c.requires.room) c.if-span-gt-CUT_LIMIT.false c.plain_parts.ensures c.offer.ensures.outcome
