use Rattle.std.proofs.Common.{◌≡◌, ◌-◌, length}
use Rattle.vtd_builder.proofs.Tagging.{Attributing}
use Rattle.vtd_builder.proofs.offers.offer_attributes.Given as goal

abbrev pub invariant-loop-cut : goal.invariant-loop-cut
invariant-loop-cut g l =
    Attributing l.bytes l.at l.depth (g.R.RecordSink.refuses l.fn.into) (g.R.RecordSink.taken l.fn.into) l.fn.count l.name (g.R.RecordSink.refuses l.into) (g.R.RecordSink.taken l.into) l.count
    × (g.R.RecordSink.rest l.into ≡ g.R.RecordSink.rest l.fn.into)
    × (g.R.RecordSink.refuses l.into ≡ g.R.RecordSink.refuses l.fn.into)

abbrev pub decreases-loop-cut : goal.decreases-loop-cut
decreases-loop-cut g l = length l.bytes - l.name
