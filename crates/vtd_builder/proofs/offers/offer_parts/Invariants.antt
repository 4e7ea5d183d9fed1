use Rattle.std.proofs.Common.{◌≡◌}
use Rattle.std.specs.List.{AllByRecursion}
use Rattle.xml_items.specs.AttributeList.{attributes_left}
use Rattle.vtd_builder.specs.Found.{parts_found, AreOrdered}
use Rattle.vtd_builder.proofs.InParts.{Offers}
use Rattle.vtd_builder.proofs.offers.offer_parts.Given as goal

abbrev pub invariant-loop-part : goal.invariant-loop-part
invariant-loop-part g l =
    let left = attributes_left l.part-iterator in
    AllByRecursion AreOrdered left
    × Offers (g.R.RecordSink.refuses l.fn.into) (g.R.RecordSink.taken l.fn.into) l.fn.count (parts_found l.depth (attributes_left l.fn.parts))
    (g.R.RecordSink.refuses l.into) (g.R.RecordSink.taken l.into) l.count (parts_found l.depth left)
    × (g.R.RecordSink.rest l.into ≡ g.R.RecordSink.rest l.fn.into)
