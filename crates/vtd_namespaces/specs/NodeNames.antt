-- The names of nodes: Namespaces in XML 1.0, sections 2.1 and 6, and XPath 1.0, sections 2.3 and 5.
use Rattle.std.specs.Prelude.{ℕ, List, [], Option, Some, None}
use Rattle.std.specs.Str.{chars}
use Rattle.xml_model.specs.declared.Kind.{Kind}
use Rattle.xml_model.specs.declared.Kind.TheVariants as kinds
use Rattle.xml_model.specs.declared.NameTest.{NameTest as Tested}
use Rattle.xml_model.specs.declared.NameTest.TheVariants as tested
use Rattle.xml_model.specs.Chars.{prefix_of, local_of}
use Rattle.xml_model.specs.Tree.{Thing}
use Rattle.xml_model.specs.Names.{Expanded, NameTest, any, any_in, named}

-- the kinds of node that have a name
abbrev pub HasName : Kind → Type 0
HasName kinds.Element = Unit {0}
HasName kinds.Attribute = Unit {0}
HasName kinds.Instruction = Unit {0}
HasName _ = ⊥

-- the kinds of node that have an expanded name
abbrev pub HasExpandedName : Kind → Type 0
HasExpandedName kinds.Element = Unit {0}
HasExpandedName kinds.Attribute = Unit {0}
HasExpandedName _ = ⊥

-- the prefix in a node's name; that of an instruction is empty
abbrev pub node_prefix : Thing → List ℕ
node_prefix (Thing.element t inside) = prefix_of t.name
node_prefix (Thing.attribute a) = prefix_of a.name
node_prefix _ = []

-- the local part of a node's name; that of an instruction is its target
abbrev pub node_local : Thing → List ℕ
node_local (Thing.element t inside) = local_of t.name
node_local (Thing.attribute a) = local_of a.name
node_local (Thing.instruction i) = i.target
node_local _ = []

-- the URI of an expanded name, if there is one
abbrev pub uri_in : Option Expanded → Option (List ℕ)
uri_in None = None
uri_in (Some x) = x.uri

-- a name test, by its texts
abbrev pub test_of : Tested → NameTest
test_of tested.Any = any
test_of (tested.AnyIn uri) = any_in (chars uri.now)
test_of (tested.Named uri local) = named (chars uri.now) (chars local.now)
