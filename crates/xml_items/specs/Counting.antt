-- What private functions promise: what they count while they read, and an item as they make it.
use Rattle.std.specs.Prelude.{ℕ, ◌+◌, List, length}
use Rattle.xml_model.specs.Chars.{is_space}
use Rattle.xml_model.specs.Items.{Attribute, Item}
use Rattle.xml_chars.specs.Readers.{after_run}
use Rattle.xml_items.specs.Shown.{item_shown}
use Rattle.xml_items.specs.AttributeList.{item_attributes}
use Rattle.xml_items.specs.declared.Item.{Item as ItemShown}
use Rattle.xml_items.specs.declared.Counted.{Counted}

-- attributes that were read, after some others, and what is left after the white space that follows
abbrev pub counted_from : ℕ → List Attribute × List ℕ → ℕ × List ℕ
counted_from n p = (n + length p.0, after_run is_space p.1)

abbrev pub counted : List Attribute × List ℕ → ℕ × List ℕ
counted p = (length p.0, after_run is_space p.1)

abbrev pub with_count : ℕ → ItemShown → Counted
with_count n i = record { item = i; attributes = n }

-- an item that begins at the place at, as code hands it out with the number of its attributes or parts
abbrev pub counted_shown : ℕ → Item → Counted
counted_shown at i = with_count (length (item_attributes i)) (item_shown at i)
