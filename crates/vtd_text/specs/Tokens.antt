-- The content of the characters of one token: XML 1.0, sections 2.11, 3.3.3 and 4.6.
use Rattle.std.specs.Prelude.{◌≡◌, ℕ, Bool, true, false, cond, ◌||◌, ◌==◌, ◌++◌, List, [], ◌∷◌, Option, Some, None}
use Rattle.std.specs.List.{list_all}
use Rattle.xml_model.specs.Items.{Piece, literal, written_pieces, meets_piece}
use Rattle.xml_model.specs.Content.{text_content, value_content, char_in_value}
use Rattle.xml_chars.specs.Readers.{Reader, mapped, one_of, choose_by, many}
use Rattle.xml_chars.specs.Reading.{read_reference}
use Rattle.vtd_text.specs.declared.token.Rule.{Rule}
use Rattle.vtd_text.specs.declared.token.Rule.TheVariants.{Text, Literal, Value}

-- whether a piece is a character that is written as itself
abbrev pub is_plain : Piece → Bool
is_plain (literal c) = true
is_plain _ = false

-- whether a piece may be in a token: where there are no references, a character alone
abbrev pub may_begin_at : Rule → Piece → Bool
may_begin_at Literal p = is_plain p
may_begin_at _ p = meets_piece (λ c. false) p

-- the content of pieces: white space that is written as itself is a space in attribute values alone
abbrev pub content_by : Rule → List Piece → List ℕ
content_by Value ps = value_content ps
content_by _ ps = text_content ps

-- the characters are written by pieces whose content this is
pub record HasContent (rule : Rule) (cs content : List ℕ) : Type 0 where
  pub pieces : List Piece
  pub fit : list_all (may_begin_at rule) pieces ≡ true
  pub written : written_pieces pieces ≡ cs
  pub resolved : content_by rule pieces ≡ content

-- a content begins with a character, and the rest of it is that of what is left
pub record BeginsWith (rule : Rule) (content : List ℕ) (c : ℕ) (left : List ℕ) : Type 0 where
  pub tail : List ℕ
  pub whole : content ≡ c ∷ tail
  pub rest : HasContent rule left tail

-- a content has no character, and neither has that of what is left
pub record EndsHere (rule : Rule) (content left : List ℕ) : Type 0 where
  pub none : content ≡ []
  pub rest : HasContent rule left []

-- a character that is written as itself and is no carriage return
abbrev pub spaced : Rule → ℕ → ℕ
spaced Value c = char_in_value (literal c)
spaced _ c = c

-- whether a character begins a reference where it is
abbrev pub begins_reference : Rule → ℕ → Bool
begins_reference Literal c = false
begins_reference _ c = c == 38

-- whether a character, written as itself, may stand for another one, or for none, or begin a reference
abbrev pub is_special : Rule → ℕ → Bool
is_special Text c = c == 13 || c == 38
is_special Literal c = c == 13
is_special Value c = c == 9 || c == 10 || c == 13 || c == 38

-- characters at the start of what is left stand for themselves, and the rest of the content is that of what follows
-- them
pub record LeavesRest (rule : Rule) (content prefix left : List ℕ) : Type 0 where
  pub tail : List ℕ
  pub whole : content ≡ prefix ++ tail
  pub rest : HasContent rule left tail

-- what follows a line feed, where one comes first; else the whole
abbrev pub after_line_feed : List ℕ → List ℕ
after_line_feed [] = []
after_line_feed (c ∷ cs) = cond (c == 10) cs (c ∷ cs)

-- The content as a function of the characters.

-- whether characters are left
abbrev pub some_left : List ℕ → Bool
some_left [] = false
some_left (c ∷ cs) = true

-- whether they begin with a reference
abbrev pub begins_with_reference : Rule → List ℕ → Bool
begins_with_reference rule [] = false
begins_with_reference rule (c ∷ cs) = begins_reference rule c

abbrev pub read_piece_by : Bool → Reader Piece
read_piece_by true = read_reference
read_piece_by false = mapped literal (one_of (λ c. true))

-- the first piece: a reference, or a character that is written as itself
abbrev pub read_piece : Rule → Reader Piece
read_piece rule = choose_by (begins_with_reference rule) read_piece_by

abbrev pub pieces_read : Option (List Piece × List ℕ) → List Piece
pieces_read None = []
pieces_read (Some p) = p.0

-- the pieces that characters are written by; none where there are no such pieces
unfoldable pub pieces_of : Rule → List ℕ → List Piece
pieces_of rule cs = pieces_read (many some_left (read_piece rule) cs)

-- the content of the characters
unfoldable pub resolved : Rule → List ℕ → List ℕ
resolved rule cs = content_by rule (pieces_of rule cs)
