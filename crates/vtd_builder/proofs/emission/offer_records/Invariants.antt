use Rattle.std.proofs.Common.{◌≡◌, ◌-◌, length}
use Rattle.vtd_builder.proofs.Going.{Passing}
use Rattle.vtd_builder.proofs.emission.offer_records.Given as goal

abbrev pub invariant-loop-at : goal.invariant-loop-at
invariant-loop-at g l =
    Passing l.bytes (g.R.RecordSink.refuses l.fn.into) (g.R.RecordSink.taken l.fn.into) l.at l.level (g.R.RecordSink.refuses l.into) (g.R.RecordSink.taken l.into) l.count
    × (g.R.RecordSink.rest l.into ≡ g.R.RecordSink.rest l.fn.into)

abbrev pub decreases-loop-at : goal.decreases-loop-at
decreases-loop-at g l = length l.bytes - l.at
