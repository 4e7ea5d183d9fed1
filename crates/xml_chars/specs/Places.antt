-- What callers read: what is at a place of some bytes.
use Rattle.std.specs.Prelude.{◌≡◌, ℕ, ◌+◌, ◌≤◌, Bool, true, false, List, [], ◌∷◌, drop, encode_utf8_all}
use Rattle.std.specs.Str.{IsCharBoundary}
use Rattle.xml_model.specs.declared.Span.{Span}
use Rattle.xml_model.specs.Chars.{begins, size, is_name, is_blank}
use Rattle.xml_model.specs.Items.{Piece, literal, entity, decimal, hexadecimal, number_of, written_piece, meets_piece}
use Rattle.xml_chars.specs.declared.Reference.{Reference}
use Rattle.xml_chars.specs.declared.Reference.TheVariants.{Char, Named}

-- these characters are at the place
abbrev pub holds : List ℕ → ℕ → List ℕ → Bool
holds bytes at cs = begins (encode_utf8_all cs) (drop at bytes)

-- the character at the place, and the place after it
pub record IsCharAt (bytes : List ℕ) (at : ℕ) (found : ℕ × ℕ) : Type 0 where
  pub there : holds bytes at (found.0 ∷ []) ≡ true
  pub end : found.1 ≡ at + size (found.0 ∷ [])

-- the end of the longest Name at the place
pub record IsLongestName (bytes : List ℕ) (at found : ℕ) : Type 0 where
  pub name : List ℕ
  pub fits : is_name name ≡ true
  pub there : holds bytes at name ≡ true
  pub end : found ≡ at + size name
  pub longest : (other : List ℕ) → is_name other ≡ true → holds bytes at other ≡ true → size other ≤ size name

abbrev pub HasNoName : List ℕ → ℕ → Type 0
HasNoName bytes at = (name : List ℕ) → is_name name ≡ true → holds bytes at name ≡ false

-- the end of the longest white space at the place, which may be empty
pub record IsLongestSpace (bytes : List ℕ) (at found : ℕ) : Type 0 where
  pub space : List ℕ
  pub fits : is_blank space ≡ true
  pub there : holds bytes at space ≡ true
  pub end : found ≡ at + size space
  pub longest : (other : List ℕ) → is_blank other ≡ true → holds bytes at other ≡ true → size other ≤ size space

-- references (XML 1.0, production 67): the pieces that are no literal characters
abbrev pub is_reference : Piece → Bool
is_reference (literal c) = false
is_reference _ = true

abbrev pub meets_reference : Piece → Bool
meets_reference p = meets_piece (λ c. false) p

abbrev pub span_from : ℕ → List ℕ → Span
span_from start cs = record { start = start; end = start + size cs }

-- what a reference that begins at the place refers to, and where it ends
abbrev pub reference_shown : ℕ → Piece → Reference
reference_shown at (entity name) = Named (span_from (at + 1) name) (at + size (written_piece (entity name)))
reference_shown at (decimal digits) = Char (number_of 10 digits) (at + size (written_piece (decimal digits)))
reference_shown at (hexadecimal digits) = Char (number_of 16 digits) (at + size (written_piece (hexadecimal digits)))
reference_shown at (literal c) = Char c (at + size (c ∷ []))

pub record IsReferenceAt (bytes : List ℕ) (at : ℕ) (found : Reference) : Type 0 where
  pub piece : Piece
  pub refers : is_reference piece ≡ true
  pub meets : meets_reference piece ≡ true
  pub there : holds bytes at (written_piece piece) ≡ true
  pub shown : found ≡ reference_shown at piece

abbrev pub HasNoReference : List ℕ → ℕ → Type 0
HasNoReference bytes at =
    (piece : Piece) → is_reference piece ≡ true → meets_reference piece ≡ true →
    holds bytes at (written_piece piece) ≡ false

-- a span of a text: both ends are between characters, and in order
pub record IsTextSpan (bytes : List ℕ) (span : Span) : Type 0 where
  pub start : IsCharBoundary bytes span.start
  pub end : IsCharBoundary bytes span.end
  pub order : span.start ≤ span.end

-- the places of a reference are between characters
abbrev pub HasTextPlaces : List ℕ → Reference → Type 0
HasTextPlaces bytes (Char value end) = IsCharBoundary bytes end
HasTextPlaces bytes (Named name end) = IsTextSpan bytes name × IsCharBoundary bytes end
