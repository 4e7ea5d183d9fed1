-- What is printed of a list of nodes (this project's own): how many there are, and of each its kind, its start and its
-- length in bytes.
use Rattle.std.specs.Prelude.{ℕ, ◌-◌, List, [], ◌∷◌, ◌++◌, length, codes}
use Rattle.std.specs.List.{flat_map}
use Rattle.std.specs.Fmt.{decimal}
use Rattle.xml_model.specs.declared.Kind.{Kind}
use Rattle.xml_model.specs.declared.Kind.TheVariants as kinds
use Rattle.xml_model.specs.declared.Node.{Node}
use Rattle.xml_model.specs.declared.Span.{Span}
use Rattle.xml_model.specs.Tree.{Entry, kind_of}
use Rattle.vtd_listing.specs.Listing.{line_feed}
use Rattle.vtd_listing.specs.Spans.{span_of}

-- the word for a kind of node
abbrev pub kind_word : Kind → List ℕ
kind_word kinds.Root = codes "root"
kind_word kinds.Element = codes "element"
kind_word kinds.Attribute = codes "attribute"
kind_word kinds.Text = codes "text"
kind_word kinds.Comment = codes "comment"
kind_word kinds.Instruction = codes "instruction"

-- the line of a node, by its kind and its span
abbrev pub span_line : Kind → Span → List ℕ
span_line kind s =
    kind_word kind ++ codes " " ++ decimal s.start ++ codes " " ++ decimal (s.end - s.start) ++ line_feed

abbrev pub node_line : Entry → List ℕ
node_line e = span_line (kind_of e.what) (span_of e)

-- the lines of a list of nodes
unfoldable pub node_listing : List Entry → List ℕ
node_listing es = codes "nodes " ++ decimal (length es) ++ line_feed ++ flat_map node_line es

-- What private functions promise.

-- the lines of nodes and their spans, taken together
abbrev pub paired_lines : List Node → List Span → List ℕ
paired_lines (node ∷ nodes) (span ∷ spans) = span_line node.kind span ++ paired_lines nodes spans
paired_lines _ _ = []
