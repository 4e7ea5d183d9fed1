-- The tags of an element (XML 1.0, productions 40, 42 and 44).
use Rattle.std.specs.Prelude.{◌≡◌, ℕ, ◌+◌, Bool, true, false, List}
use Rattle.xml_model.specs.declared.Node.{Node}
use Rattle.xml_model.specs.Items.{Tag, begins_at, empty_tag}
use Rattle.xml_model.specs.Nest.{Forest}
use Rattle.xml_model.specs.Records.{past_forest, past_start}
use Rattle.xml_model.specs.Tree.{Entry, Identifies, Thing}
use Rattle.xml_chars.specs.Places.{span_from}
use Rattle.vtd_words.specs.Lists.{Lists}
use Rattle.vtd_words.specs.Table.{IsNestOf, nodes_of}
use Rattle.vtd_cursor.specs.declared.spans.Tags.{Tags}

-- the places of an element's tags, by whether it is one empty tag: its name, after its first tag, and at the < of its
-- end tag; of an empty tag both places are where it ends
abbrev pub tags_by : Bool → Tag → Forest → ℕ → ℕ → Tags
tags_by true t inside start stop = record {
  name = span_from (start + 1) t.name;
  head_end = stop;
  tail_start = stop;
  empty = true;
}
tags_by false t inside start stop = record {
  name = span_from (start + 1) t.name;
  head_end = past_start start t;
  tail_start = past_forest (past_start start t) inside;
  empty = false;
}

-- What private functions promise.

-- a node is an element that is not one empty tag
pub record HasEndTag (bytes : List ℕ) (lists : Lists) (node : Node) : Type 0 where
  pub nest : Forest
  pub shown : IsNestOf bytes lists nest
  pub entry : Entry
  pub holds : Identifies node.kind node.at entry (nodes_of bytes nest)
  pub tag : Tag
  pub inside : Forest
  pub is : entry.what ≡ Thing.element tag inside
  pub open_tag : begins_at bytes entry.start (empty_tag tag) ≡ false
