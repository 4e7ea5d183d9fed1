-- What callers read: an item with the number of its attributes.
use Rattle.std.specs.Prelude.{◌≡◌, ℕ, true, List, length}
use Rattle.xml_model.specs.Items.{Item, begins_at}
use Rattle.xml_items.specs.Shown.{item_shown}
use Rattle.xml_items.specs.AttributeList.{item_attributes}
use Rattle.xml_items.specs.declared.Counted.{Counted}

-- the item that begins at the place, and how many attributes or parts it has
pub record IsCountedAt (bytes : List ℕ) (at : ℕ) (found : Counted) : Type 0 where
  pub item : Item
  pub begins : begins_at bytes at item ≡ true
  pub shown : found.item ≡ item_shown at item
  pub counted : found.attributes ≡ length (item_attributes item)
