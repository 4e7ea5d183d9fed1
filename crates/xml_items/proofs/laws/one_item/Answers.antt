use Rattle.xml_items.proofs.OneItem.{one_item}
use Rattle.xml_items.proofs.laws.one_item.Goals as goal

pub returns : goal.returns
returns c = one_item
