-- What private functions promise: the parts of the XML declaration.
use Rattle.std.specs.Prelude.{ℕ, Bool, ◌||◌, List, [], ◌∷◌, bytes_eq}
use Rattle.xml_model.specs.Chars.{in_ranges}
use Rattle.xml_model.specs.Items.{Attribute, written_pieces, is_letter}
use Rattle.xml_chars.specs.Readers.{Reader, kept}
use Rattle.xml_items.specs.Reading.{read_attribute}

-- an attribute of that name
abbrev pub read_named : List ℕ → Reader Attribute
read_named name = kept (λ a. bytes_eq a.name name) read_attribute

abbrev pub value_text : Attribute → List ℕ
value_text a = written_pieces a.value

-- what may be in the name of an encoding, past its first letter (XML 1.0, production 81)
abbrev pub is_encoding_char : ℕ → Bool
is_encoding_char d = is_letter d || in_ranges ((48, 57) ∷ (45, 46) ∷ (95, 95) ∷ []) d
