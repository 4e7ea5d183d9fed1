use Rattle.xml_items.proofs.PlaceLaws.{counted_item}
use Rattle.xml_items.proofs.next_item.Goals as goal

pub returns-in-Ok-Some-clause-item : goal.returns-in-Ok-Some-clause-item
returns-in-Ok-Some-clause-item c = counted_item c.args.bytes.now c.args.at c.in-Ok-Some.counted (rw c.in-Ok-Some.field-0-is at c.in-Ok-Some.ensures.item)
