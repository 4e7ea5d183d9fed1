-- The content of a row of records: that of their texts and CDATA sections, joined (XPath 1.0, sections 5.1, 5.2 and
-- 5.7).
use Rattle.std.specs.Prelude.{◌≡◌, ℕ, ◌+◌, ◌-◌, ◌/◌, ◌^◌, ◌≤◌, true, cond, ◌==◌, List, [], ◌∷◌, ◌++◌, length, map}
use Rattle.std.specs.Prelude.{bit_and, take, drop, Option, Some, None}
use Rattle.std.specs.List.{AllByRecursion, flat_map}
use Rattle.std.specs.Str.{IsUtf8, chars}
use Rattle.xml_model.specs.Records.{Record}
use Rattle.xml_model.specs.Scan.{is_text_token, is_within}
use Rattle.xml_model.specs.Wholes.{wholes}
use Rattle.xml_model.specs.Accepted.{is_name_token}
use Rattle.vtd_words.specs.Table.{Shows}
use Rattle.vtd_text.specs.declared.row.RowEnd.{RowEnd}
use Rattle.vtd_text.specs.declared.token.Rule.{Rule}
use Rattle.vtd_text.specs.declared.token.Rule.TheVariants.{Text, Literal}
use Rattle.vtd_text.specs.Tokens.{HasContent, resolved}
use Rattle.xml_model.specs.Records.{kind_number}
use Rattle.xml_model.specs.declared.TokenKind.TheVariants as token

-- how the token of a record is resolved, where it is a text or a CDATA section: types 5 and 11
abbrev pub rule_of : ℕ → Option Rule
rule_of n = cond (n == kind_number token.Text) (Some Text) (cond (n == kind_number token.Cdata) (Some Literal) None)

-- the bytes that a record is of
abbrev pub slice_of : List ℕ → Record → List ℕ
slice_of bytes r = take r.len (drop r.offset bytes)

-- a content in two parts
pub record InTwo (First Rest : List ℕ → Type 0) (content : List ℕ) : Type 0 where
  pub head : List ℕ
  pub tail : List ℕ
  pub whole : content ≡ head ++ tail
  pub first : First head
  pub rest : Rest tail

-- the content of a slice by a rule; where there is none, nothing
abbrev pub Gives : Option Rule → List ℕ → List ℕ → Type 0
Gives None slice content = content ≡ []
Gives (Some rule) slice content = HasContent rule (chars slice) content

-- the content of records
abbrev pub Joined : List ℕ → List Record → List ℕ → Type 0
Joined bytes [] content = content ≡ []
Joined bytes (r ∷ rs) content = InTwo (Gives (rule_of r.token) (slice_of bytes r)) (Joined bytes rs) content

-- a slice of the bytes that is a text
abbrev pub IsText : List ℕ → Record → Type 0
IsText bytes r = (r.offset + r.len ≤ length bytes) × IsUtf8 (slice_of bytes r)

-- a record is of a text, where it is of a text or a CDATA section
abbrev pub Fine : List ℕ → Record → Type 0
Fine bytes r = is_text_token r.token ≡ true → IsText bytes r

-- the records up to the first that is below a level
abbrev pub within : ℕ → List Record → List Record
within least [] = []
within least (r ∷ rs) = cond (is_within least r) (r ∷ within least rs) []

-- the records of a row: from one on, below another, and up to the first that is below a level
abbrev pub row : ℕ → RowEnd → List Record → List Record
row at end rs = within end.least (take (end.past - at) (drop at rs))

-- words that show records, where those of a row, each token's as one, are of texts
pub record ShowsReadable (bytes words : List ℕ) (at : ℕ) (end : RowEnd) : Type 0 where
  pub rs : List Record
  pub shown : Shows words rs
  pub readable : AllByRecursion (Fine bytes) (wholes (row at end rs))

-- what is left: the rest of a token, and the tokens of a row
abbrev pub IsLeft : List ℕ → List Record → Rule → List ℕ → ℕ → RowEnd → List ℕ → Type 0
IsLeft bytes rs rule text at end content = InTwo (HasContent rule (chars text)) (Joined bytes (wholes (row at end rs)))
    content

-- a content begins with a character, and the rest of it is left
pub record LeavesTail (Left : List ℕ → Type 0) (content : List ℕ) (c : ℕ) : Type 0 where
  pub tail : List ℕ
  pub whole : content ≡ c ∷ tail
  pub left : Left tail

-- a content begins with characters, and the rest of it is left
pub record LeavesAfter (Left : List ℕ → Type 0) (content prefix : List ℕ) : Type 0 where
  pub tail : List ℕ
  pub whole : content ≡ prefix ++ tail
  pub left : Left tail

-- a token is at its end, and the content is that of a row
pub record BetweenTokens (bytes : List ℕ) (rs : List Record) (rule : Rule) (text : List ℕ) (at : ℕ) (end : RowEnd)
    (content : List ℕ) : Type 0 where
  pub ended : HasContent rule (chars text) []
  pub rest : Joined bytes (wholes (row at end rs)) content

-- a content has no character, and none is left
pub record IsAtEnd (Left : List ℕ → Type 0) (content : List ℕ) : Type 0 where
  pub none : content ≡ []
  pub left : Left []

-- The content as a function of the words.

-- the content of a slice by a rule; where there is none, nothing
abbrev pub resolved_by : Option Rule → List ℕ → List ℕ
resolved_by None slice = []
resolved_by (Some rule) slice = resolved rule (chars slice)

-- the content of a record
abbrev pub record_content : List ℕ → Record → List ℕ
record_content bytes r = resolved_by (rule_of r.token) (slice_of bytes r)

-- the lengths in a word: bits 51 to 32
abbrev pub lengths : ℕ → ℕ
lengths w = bit_and (w / 2 ^ 32) 0xF_FFFF

-- a record of a word, from its lengths
abbrev pub record_by : ℕ → ℕ → ℕ → Record
record_by w prefix len = record {
  token = w / 2 ^ 60;
  depth = bit_and (w / 2 ^ 52) 255;
  prefix = prefix;
  len = len;
  offset = bit_and w 0x3FFF_FFFF;
}

-- the record that a word packs
unfoldable pub record_of_word : ℕ → Record
record_of_word w =
    cond (is_name_token (w / 2 ^ 60)) (record_by w (lengths w / 2048) (bit_and (lengths w) 2047))
    (record_by w 0 (lengths w))

-- what is left: that of the rest of a token, and of the tokens of a row of words
unfoldable pub left_of : List ℕ → List ℕ → Rule → List ℕ → ℕ → RowEnd → List ℕ
left_of bytes words rule text at end = resolved rule (chars text)
    ++ flat_map (record_content bytes) (wholes (row at end (map record_of_word words)))
