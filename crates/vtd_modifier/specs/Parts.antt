-- Where the parts of a node are, by what is there (XML 1.0, productions 10, 16, 40 to 42 and 44).
use Rattle.std.specs.Prelude.{◌≡◌, ℕ, ◌+◌, ◌-◌, List}
use Rattle.xml_model.specs.declared.Span.{Span}
use Rattle.xml_model.specs.Chars.{size}
use Rattle.xml_model.specs.Items.{begins_at, before_value, empty_tag, quote_char, written_pieces}
use Rattle.xml_model.specs.Tree.{Entry, Thing}
use Rattle.xml_chars.specs.Places.{span_from}
use Rattle.vtd_cursor.specs.Tags.{tags_by}
use Rattle.vtd_modifier.specs.declared.parts.Part.{Part}
use Rattle.vtd_modifier.specs.declared.parts.Part.TheVariants as parts

abbrev pub span_of : ℕ → ℕ → Span
span_of start stop = record { start = start; end = stop }

-- the parts of what is between two places of a document: of an attribute with where the white space before it begins
abbrev pub parts_of : List ℕ → Thing → ℕ → ℕ → Part
parts_of bytes (Thing.root first f) start stop = parts.Root
parts_of bytes (Thing.element t inside) start stop =
    parts.Element (span_of start stop) (tags_by (begins_at bytes start (empty_tag t)) t inside start stop)
parts_of bytes (Thing.attribute a) start stop =
    parts.Attribute (start - size a.space) (span_of start stop) (span_from start a.name)
    (span_from (start + size (before_value a)) (written_pieces a.value)) (quote_char a.quote)
parts_of bytes (Thing.text xs) start stop = parts.Text (span_of start stop)
parts_of bytes (Thing.comment cs) start stop = parts.Comment (span_of start stop)
parts_of bytes (Thing.instruction i) start stop =
    parts.Instruction (span_of start stop) (span_from (start + 2) i.target)

abbrev pub part_of : List ℕ → Entry → Part
part_of bytes e = parts_of bytes e.what e.start e.stop
