-- Contexts, and the steps of location paths: XPath 1.0, sections 1, 2 and 3.7.
use Rattle.std.specs.Prelude.{ℕ, Bool, true, false, List, [], ◌∷◌, filter, unwrap_or}
use Rattle.std.specs.List.{list_any}
use Rattle.xml_model.specs.declared.Axis.{Axis}
use Rattle.xml_model.specs.declared.Axis.TheVariants as axes
use Rattle.xml_model.specs.Tree.{Entry, steps, is_self, axis_list}
use Rattle.xml_model.specs.Laws.{is_root_thing}
use Rattle.xml_model.specs.Names.{Test, NameTest, passes}
use Rattle.xpath_tokens.specs.declared.StepAxis.{StepAxis}
use Rattle.xpath_tokens.specs.declared.StepAxis.TheVariants.{Known, Namespace}
use Rattle.xpath_grammar.specs.declared.expr.StepTest.{StepTest}
use Rattle.xpath_grammar.specs.declared.expr.StepTest.TheVariants as written
use Rattle.xpath_grammar.specs.Bindings.{uri_in}
use Rattle.xpath_values.specs.Values.{Meant, nodes, number, truth_of}
use Rattle.xpath_values.specs.Numbers.{is_position}

-- what an expression is evaluated in: the nodes of the document in document order, the prefixes that are bound with
-- their URIs, the context node, its position from 1 on, and the context size (XPath 1.0, section 1)
pub record Context : Type 0 where
  pub document : List Entry
  pub bindings : List (List ℕ × List ℕ)
  pub node : Entry
  pub position : ℕ
  pub size : ℕ

-- the same with another node, at a position among so many
abbrev pub at : Context → Entry → ℕ → ℕ → Context
at c e position size = record c { node = e; position = position; size = size }

-- whether a node is one of a list
abbrev pub is_in : List Entry → Entry → Bool
is_in xs e = list_any (λ x. is_self (steps x.path e.path)) xs

-- those of the document's nodes that are in a list: in document order, each once
unfoldable pub in_order : List Entry → List Entry → List Entry
in_order document xs = filter (is_in xs) document

abbrev pub is_root : Entry → Bool
is_root e = is_root_thing e.what

-- the nodes from which a path starts: the root where it is absolute, else the context node (XPath 1.0, section 2)
abbrev pub start : Bool → Context → List Entry
start true c = filter is_root c.document
start false c = c.node ∷ []

-- the URI of a name test's prefix; without a prefix there is none (XPath 1.0, section 2.3)
abbrev pub uri_of : List (List ℕ × List ℕ) → List ℕ → List ℕ
uri_of bindings [] = []
uri_of bindings (c ∷ prefix) = unwrap_or (uri_in bindings (c ∷ prefix)) []

-- the node test that is written
abbrev pub test_of : List (List ℕ × List ℕ) → StepTest → Test
test_of bindings written.Node = Test.node
test_of bindings written.Text = Test.text
test_of bindings written.Comment = Test.comment
test_of bindings written.Instruction = Test.instruction
test_of bindings (written.Target name) = Test.target name
test_of bindings written.Any = Test.name NameTest.any
test_of bindings (written.AnyIn prefix) = Test.name (NameTest.any_in (unwrap_or (uri_in bindings prefix) []))
test_of bindings (written.Named prefix local) = Test.name (NameTest.named (uri_of bindings prefix) local)

-- the axis of attributes, on which name tests pass attributes: XPath 1.0, section 2.3
abbrev pub is_attribute_axis : Axis → Bool
is_attribute_axis axes.Attribute = true
is_attribute_axis _ = false

-- the nodes on an axis of a node that pass a test, in axis order: XPath 1.0, sections 2.2 to 2.4
abbrev pub on_axis : Axis → Test → Entry → List Entry → List Entry
on_axis axis test e es = filter (passes test (is_attribute_axis axis)) (axis_list axis e.path es)

-- the nodes on an axis of a node that pass the test that is written, in axis order: XPath 1.0, sections 2.1 to 2.4
unfoldable pub stepped : StepAxis → StepTest → Context → Entry → List Entry
stepped (Known axis) t c e = on_axis axis (test_of c.bindings t) e c.document
stepped Namespace t c e = []

-- whether a predicate with this value passes a position: XPath 1.0, section 2.4
abbrev pub is_passed : Meant → ℕ → Bool
is_passed (number x) p = is_position x p
is_passed v p = truth_of v

-- the nodes of a node-set
abbrev pub nodes_in : Meant → List Entry
nodes_in (nodes es) = es
nodes_in _ = []
