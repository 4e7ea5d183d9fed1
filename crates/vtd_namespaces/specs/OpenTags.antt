-- The tags that are open where a record is, by depth (this project's own).
use Rattle.std.specs.Prelude.{ℕ, List, take, replicate}
use Rattle.xml_model.specs.Records.{Record}
use Rattle.xml_model.specs.Slots.{slots_after}

-- no tag of any depth
unfoldable pub no_tags : List ℕ
no_tags = replicate 256 0

-- by depth, the index of the last starting tag before the record with an index; 0, the document's, where there is none.
-- Before a node's first record the first of them, as many as elements hold the node, are these elements, the outermost
-- first: the law `holders_by_slots` of xml_model
abbrev pub open_before : ℕ → List Record → List ℕ
open_before n rs = slots_after 0 no_tags (take n rs)
