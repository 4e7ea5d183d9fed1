-- How the names of a document are in its bytes and its records (this project's own). A tag's record is followed by two
-- for each attribute: its name, of type 2, or 3 where it declares a namespace, and its value.
use Rattle.std.specs.Prelude.{◌≡◌, ℕ, ◌+◌, ◌<◌, true, false, List, [], ◌∷◌, length}
use Rattle.std.specs.Prelude.{encode_utf8_all}
use Rattle.std.specs.Prelude.{⊤}
use Rattle.xml_model.specs.Chars.{size, prefix_of, is_name}
use Rattle.xml_model.specs.Items.{Attribute, Tag, Instruction, written_attribute}
use Rattle.xml_model.specs.Records.{Record, name_token, attributes_place}
use Rattle.xml_model.specs.Scan.{record_at}
use Rattle.xml_model.specs.Tree.{Thing, Entry}
use Rattle.xml_model.specs.Accepted.{name_place}
use Rattle.xml_model.specs.Records.{kind_number}
use Rattle.vtd_text.specs.Joined.{slice_of}
use Rattle.vtd_text.specs.NameRecords.{is_attribute_name}
use Rattle.xml_model.specs.declared.TokenKind.TheVariants as token

-- a record is of this name
pub record IsNameRecord (bytes : List ℕ) (r : Record) (name : List ℕ) : Type 0 where
  pub slice : slice_of bytes r ≡ encode_utf8_all name
  pub prefix : r.prefix ≡ size (prefix_of name)
  pub named : is_name name ≡ true

-- the record with an index is of the name of this attribute, which begins at a place; the value's record follows it
pub record IsAttributeRecord (bytes : List ℕ) (rs : List Record) (n at : ℕ) (a : Attribute) : Type 0 where
  pub token : (record_at n rs).token ≡ name_token a.name
  pub name : IsNameRecord bytes (record_at n rs) a.name
  pub offset : (record_at n rs).offset ≡ at
  pub room : n + 1 < length rs

-- the records from an index on are those of these attributes, the white space before the first of which begins at a
-- place, and no attribute's follows them
abbrev pub AreAttributeRecords : List ℕ → List Record → ℕ → ℕ → List Attribute → Type 0
AreAttributeRecords bytes rs n at [] = is_attribute_name (record_at n rs).token ≡ false
AreAttributeRecords bytes rs n at (a ∷ others) = IsAttributeRecord bytes rs n (name_place at a) a ×
    AreAttributeRecords bytes rs (n + 2) (at + size (written_attribute a)) others

-- the record with an index is of this tag, which begins at a place
pub record IsTagRecord (bytes : List ℕ) (rs : List Record) (n at : ℕ) (t : Tag) : Type 0 where
  pub token : (record_at n rs).token ≡ kind_number token.StartTag
  pub within : n < length rs
  pub name : IsNameRecord bytes (record_at n rs) t.name
  pub offset : (record_at n rs).offset ≡ at + 1
  pub attributes : AreAttributeRecords bytes rs (n + 1) (attributes_place at t) t.attributes

-- the record with an index is of the target of this instruction, which begins at a place
pub record IsInstructionRecord (bytes : List ℕ) (rs : List Record) (n at : ℕ) (i : Instruction) : Type 0 where
  pub token : (record_at n rs).token ≡ kind_number token.Target
  pub slice : slice_of bytes (record_at n rs) ≡ encode_utf8_all i.target
  pub offset : (record_at n rs).offset ≡ at + 2

-- what is at a node that has a name, by its first record and its place
abbrev pub IsRecordOfThing : List ℕ → List Record → ℕ → ℕ → Thing → Type 0
IsRecordOfThing bytes rs n at (Thing.element t inside) = IsTagRecord bytes rs n at t
IsRecordOfThing bytes rs n at (Thing.attribute a) = IsAttributeRecord bytes rs n at a
IsRecordOfThing bytes rs n at (Thing.instruction i) = IsInstructionRecord bytes rs n at i
IsRecordOfThing bytes rs n at _ = ⊤

-- the same of a node
abbrev pub HasNameRecord : List ℕ → List Record → Entry → Type 0
HasNameRecord bytes rs e = IsRecordOfThing bytes rs e.index e.start e.what
