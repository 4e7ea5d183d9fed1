-- The elements of a tree (XPath 1.0, section 5.2), as nodes and as spans.
use Rattle.std.specs.Prelude.{ℕ, cond, List, filter, Option, Some, None, option_map}
use Rattle.xml_model.specs.declared.Node.{Node}
use Rattle.xml_model.specs.declared.Span.{Span}
use Rattle.xml_model.specs.Levels.{is_element}
use Rattle.xml_model.specs.Tree.{Entry, at_index}
use Rattle.vtd_words.specs.Table.{node_of}

-- from the start of a node to its stop
abbrev pub span_of : Entry → Span
span_of e = record { start = e.start; end = e.stop }

-- the elements among nodes
abbrev pub elements_in : List Entry → List Entry
elements_in es = filter (λ e. is_element e.what) es

-- What private functions promise.

-- a node, if it is an element
abbrev pub if_element : Option Entry → Option Entry
if_element None = None
if_element (Some e) = cond (is_element e.what) (Some e) None

-- the element whose first record has an index, among nodes; None where none does
abbrev pub element_node_at : ℕ → List Entry → Option Node
element_node_at n es = option_map node_of (if_element (at_index n es))
