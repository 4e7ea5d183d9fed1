-- Where the elements of a tree are.
use Rattle.std.specs.Prelude.{List, map}
use Rattle.xml_model.specs.declared.Span.{Span}
use Rattle.xml_model.specs.Tree.{Entry}

abbrev pub span_of : Entry → Span
span_of e = record { start = e.start; end = e.stop }

abbrev pub spans_of : List Entry → List Span
spans_of entries = map span_of entries
