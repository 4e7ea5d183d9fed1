-- The token of a record, and a row of records, with their content.
use Rattle.std.specs.Prelude.{ℕ, List}
use Rattle.std.specs.List.{AllByRecursion}
use Rattle.std.specs.Str.{chars}
use Rattle.xml_model.specs.Records.{Record}
use Rattle.xml_model.specs.Scan.{record_at}
use Rattle.xml_model.specs.Wholes.{wholes}
use Rattle.vtd_words.specs.Table.{Shows}
use Rattle.vtd_text.specs.declared.row.RowEnd.{RowEnd}
use Rattle.vtd_text.specs.declared.token.Rule.{Rule}
use Rattle.vtd_text.specs.Tokens.{HasContent}
use Rattle.vtd_text.specs.Joined.{Fine, IsText, IsLeft, Joined, row, slice_of}

-- the bytes that a record is of are a text, whose content by a rule is this
pub record IsResolved (bytes : List ℕ) (rule : Rule) (r : Record) (content : List ℕ) : Type 0 where
  pub text : IsText bytes r
  pub resolved : HasContent rule (chars (slice_of bytes r)) content

-- words that show records, of which one has a content
pub record IsRecord (bytes words : List ℕ) (rule : Rule) (at : ℕ) : Type 0 where
  pub rs : List Record
  pub shown : Shows words rs
  pub content : List ℕ
  pub resolved : IsResolved bytes rule (record_at at rs) content

-- words that show records, of which the tokens of a row have a content
pub record IsRow (bytes words : List ℕ) (at : ℕ) (end : RowEnd) : Type 0 where
  pub rs : List Record
  pub shown : Shows words rs
  pub readable : AllByRecursion (Fine bytes) (wholes (row at end rs))
  pub content : List ℕ
  pub joined : Joined bytes (wholes (row at end rs)) content

-- words that show records, of which, with the rest of a token, some content is left
pub record HasLeft (bytes words : List ℕ) (rule : Rule) (text : List ℕ) (at : ℕ) (end : RowEnd) : Type 0 where
  pub rs : List Record
  pub shown : Shows words rs
  pub content : List ℕ
  pub left : IsLeft bytes rs rule text at end content
