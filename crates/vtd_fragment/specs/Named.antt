-- What private functions promise: which nodes have an expanded name.
use Rattle.std.specs.Prelude.{Bool, true, false}
use Rattle.xml_model.specs.declared.Kind.{Kind}
use Rattle.xml_model.specs.declared.Kind.TheVariants as kinds
use Rattle.xml_model.specs.Tree.{Thing, kind_of}

-- the kinds of node that have an expanded name
abbrev pub is_named_kind : Kind → Bool
is_named_kind kinds.Element = true
is_named_kind kinds.Attribute = true
is_named_kind _ = false

-- a node of such a kind
abbrev pub is_named : Thing → Bool
is_named what = is_named_kind (kind_of what)
