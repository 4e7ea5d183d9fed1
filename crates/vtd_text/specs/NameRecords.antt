-- The attribute, or the declaration of a namespace, whose name a record of a document is: XML 1.0, section 3.1, and
-- Namespaces in XML 1.0, section 3. A tag's record is followed by two for each attribute, its name and its value: this
-- project's own.
use Rattle.std.specs.Prelude.{◌≡◌, ℕ, ◌+◌, ◌*◌, Bool, ◌||◌, ◌==◌, List, slice_get, Some, Contains}
use Rattle.xml_model.specs.Items.{Attribute, Tag, first_place}
use Rattle.xml_model.specs.Nest.{Forest}
use Rattle.xml_model.specs.Records.{records}
use Rattle.xml_model.specs.Scan.{record_at}
use Rattle.xml_model.specs.Tree.{Thing, Entry}
use Rattle.vtd_words.specs.Lists.{Lists}
use Rattle.vtd_words.specs.Table.{IsNestOf, nodes_of}
use Rattle.xml_model.specs.Records.{kind_number}
use Rattle.xml_model.specs.declared.TokenKind.TheVariants as token

-- the record with the index `at` is the name of this attribute, which is in the tag of an element by some number
pub record IsNameOf (bytes : List ℕ) (nest : Forest) (at : ℕ) (attribute : Attribute) : Type 0 where
  pub entry : Entry
  pub there : Contains (nodes_of bytes nest) entry
  pub tag : Tag
  pub inside : Forest
  pub element : entry.what ≡ Thing.element tag inside
  pub number : ℕ
  pub holds : slice_get tag.attributes number ≡ Some attribute
  pub index : at ≡ entry.index + 1 + 2 * number

-- in some nest of a table the record with the index `at` is of the type 3, the name of a declaration
pub record IsDeclaration (bytes : List ℕ) (lists : Lists) (at : ℕ) : Type 0 where
  pub nest : Forest
  pub shown : IsNestOf bytes lists nest
  pub declaration : (record_at at (records nest (first_place bytes))).token ≡ kind_number token.NamespaceName

-- an attribute whose name is the record with the index `at`
pub record HasName (bytes : List ℕ) (nest : Forest) (at : ℕ) : Type 0 where
  pub attribute : Attribute
  pub name : IsNameOf bytes nest at attribute

-- whether a record of a type is the name of an attribute: 2, or of a declaration of a namespace: 3
abbrev pub is_attribute_name : ℕ → Bool
is_attribute_name n = n == kind_number token.AttributeName || n == kind_number token.NamespaceName
