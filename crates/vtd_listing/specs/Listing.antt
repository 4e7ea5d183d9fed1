-- What the command `elements` prints (this project's own): the number of elements, and of each its start and its
-- length, in document order.
use Rattle.std.specs.Prelude.{ℕ, ◌-◌, List, [], ◌∷◌, ◌++◌, length, filter, codes}
use Rattle.std.specs.List.{flat_map}
use Rattle.std.specs.Fmt.{decimal}
use Rattle.xml_model.specs.Nest.{Forest}
use Rattle.xml_model.specs.Tree.{Entry, all}
use Rattle.xml_model.specs.Levels.{is_element}
use Rattle.xml_model.specs.declared.Span.{Span}
use Rattle.vtd_listing.specs.Spans.{spans_of}

-- the elements of a tree
unfoldable pub elements : Forest → ℕ → List Entry
elements nest first = filter (λ e. is_element e.what) (all nest first)

abbrev pub line_feed : List ℕ
line_feed = 10 ∷ []

abbrev pub element_line : Span → List ℕ
element_line s = codes "element " ++ decimal s.start ++ codes " " ++ decimal (s.end - s.start) ++ line_feed

unfoldable pub listing : List Span → List ℕ
listing spans = codes "nodes " ++ decimal (length spans) ++ line_feed ++ flat_map element_line spans

-- what the command prints of a nest whose first item is at a place
abbrev pub listed : Forest → ℕ → List ℕ
listed nest first = listing (spans_of (elements nest first))
