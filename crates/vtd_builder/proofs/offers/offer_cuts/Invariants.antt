use Rattle.std.proofs.Common.{◌≡◌, ◌≤◌, ◌-◌}
use Rattle.xml_model.specs.Records.{cut_records}
use Rattle.vtd_builder.specs.Found.{cuts_of}
use Rattle.vtd_builder.proofs.InParts.{Offers}
use Rattle.vtd_builder.proofs.offers.offer_cuts.Given as goal

abbrev pub invariant-cuts : goal.invariant-cuts
invariant-cuts g l =
    (l.at ≤ l.span.end)
    × Offers (g.R.RecordSink.refuses l.fn.into) (g.R.RecordSink.taken l.fn.into) l.fn.count (cuts_of l.token l.depth l.span)
    (g.R.RecordSink.refuses l.into) (g.R.RecordSink.taken l.into) l.count (cut_records l.token l.depth l.at (l.span.end - l.at))
    × (g.R.RecordSink.rest l.into ≡ g.R.RecordSink.rest l.fn.into)

abbrev pub decreases-cuts : goal.decreases-cuts
decreases-cuts g l = l.span.end - l.at
