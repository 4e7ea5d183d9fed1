-- Node tests by kinds and by the types of records, and the nodes on an axis that pass one (XPath 1.0, sections 2.2 to
-- 2.4).
use Rattle.std.specs.Prelude.{ℕ, Bool, true, false, cond, not, ◌==◌, List, map, filter}
use Rattle.std.specs.Str.{chars}
use Rattle.xml_model.specs.declared.Axis.{Axis}
use Rattle.xml_model.specs.declared.Axis.TheVariants as axes
use Rattle.xml_model.specs.declared.Kind.{Kind}
use Rattle.xml_model.specs.declared.Kind.TheVariants as kinds
use Rattle.xml_model.specs.declared.Node.{Node}
use Rattle.xml_model.specs.declared.NodeTest.{NodeTest as Tested}
use Rattle.xml_model.specs.declared.NodeTest.TheVariants as tested
use Rattle.xml_model.specs.declared.TokenKind.TheVariants as token
use Rattle.xml_model.specs.Names.{Test, passes}
use Rattle.xml_model.specs.Records.{kind_number}
use Rattle.xml_model.specs.Scan.{is_text_token}
use Rattle.xml_model.specs.Tree.{Entry, axis_list}
use Rattle.vtd_words.specs.Table.{node_of}
use Rattle.vtd_namespaces.specs.NodeNames.{test_of}

-- a node test, by its texts
abbrev pub node_test : Tested → Test
node_test tested.Node = Test.node
node_test tested.Text = Test.text
node_test tested.Comment = Test.comment
node_test tested.Instruction = Test.instruction
node_test (tested.Target target) = Test.target (chars target.now)
node_test (tested.Name name) = Test.name (test_of name)

-- the axis of attributes, on which name tests pass attributes: XPath 1.0, section 2.3
abbrev pub is_attribute_axis : Axis → Bool
is_attribute_axis axes.Attribute = true
is_attribute_axis _ = false

-- the nodes on an axis of a node that pass a test, in axis order: XPath 1.0, sections 2.2 to 2.4
abbrev pub passing : Axis → Test → Entry → List Entry → List Entry
passing axis test e es = filter (passes test (is_attribute_axis axis)) (axis_list axis e.path es)

-- the same, by their kinds and indexes
abbrev pub nodes_on : Axis → Test → Entry → List Entry → List Node
nodes_on axis test e es = map node_of (passing axis test e es)

-- What private functions promise.

abbrev pub is_text_kind : Kind → Bool
is_text_kind kinds.Text = true
is_text_kind _ = false

abbrev pub is_comment_kind : Kind → Bool
is_comment_kind kinds.Comment = true
is_comment_kind _ = false

abbrev pub is_instruction_kind : Kind → Bool
is_instruction_kind kinds.Instruction = true
is_instruction_kind _ = false

abbrev pub is_attribute_kind : Kind → Bool
is_attribute_kind kinds.Attribute = true
is_attribute_kind _ = false

-- the kind of nodes that name tests pass, on the attribute axis or another
abbrev pub is_principal_kind : Bool → Kind → Bool
is_principal_kind b kinds.Attribute = b
is_principal_kind b kinds.Element = not b
is_principal_kind b _ = false

-- whether a record of a type may begin a node that passes a test, on the attribute axis or another
abbrev pub may_pass : Test → Bool → ℕ → Bool
may_pass Test.node b n = true
may_pass Test.text b n = is_text_token n
may_pass Test.comment b n = n == kind_number token.Comment
may_pass Test.instruction b n = n == kind_number token.Target
may_pass (Test.target cs) b n = n == kind_number token.Target
may_pass (Test.name test) b n =
    cond b (n == kind_number token.AttributeName) (n == kind_number token.StartTag)
