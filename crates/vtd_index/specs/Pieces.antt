-- An index file as a list of pieces (this project's own): what private functions promise.
use Rattle.std.specs.Prelude.{◌≡◌, ℕ, ◌-◌, List, [], ◌∷◌, map, length, take, replicate, codes, true, Ok}
use Rattle.std.specs.List.{concat}
use Rattle.vtd_outside.specs.declared.Failed.{Failed}
use Rattle.vtd_outside.specs.Known.{SeenFiles}
use Rattle.vtd_outside.specs.Written.{Adds}
use Rattle.vtd_words.specs.declared.word_vec.Part.{Part}
use Rattle.vtd_words.specs.declared.word_vec.Part.TheVariants.{Records, Level1, Level2, Level3, Level4, Level5}
use Rattle.vtd_words.specs.Lists.{Lists, list_of}
use Rattle.vtd_words.specs.Numbers.{number_bytes, bytes_of}
use Rattle.vtd_index.specs.declared.pieces.Piece.{Piece}
use Rattle.vtd_index.specs.declared.pieces.Piece.TheVariants as pieces
use Rattle.vtd_index.specs.Layout.{padded}

-- how many bytes a word of a part has
abbrev pub word_size : Part → ℕ
word_size Level5 = 4
word_size _ = 8

-- the bytes of a piece
abbrev pub piece_bytes : List ℕ → Lists → Piece → List ℕ
piece_bytes bytes words pieces.Magic = codes "VTDIDX02"
piece_bytes bytes words (pieces.Length value) = number_bytes 4 value
piece_bytes bytes words pieces.Spare = replicate 4 0
piece_bytes bytes words pieces.Document = bytes
piece_bytes bytes words pieces.Padding = replicate (padded (length bytes) - length bytes) 0
piece_bytes bytes words (pieces.Words part) = bytes_of (word_size part) (list_of part words)

-- the bytes of pieces one after another
abbrev pub pieces_bytes : List ℕ → Lists → List Piece → List ℕ
pieces_bytes bytes words ps = concat (map (piece_bytes bytes words) ps)

-- the pieces of an index file
unfoldable pub pieces_of : ℕ → Lists → List Piece
pieces_of document words =
    pieces.Magic
    ∷ pieces.Length document
    ∷ pieces.Length (length words.records)
    ∷ pieces.Length (length words.level1)
    ∷ pieces.Length (length words.level2)
    ∷ pieces.Length (length words.level3)
    ∷ pieces.Length (length words.level4)
    ∷ pieces.Length (length words.level5)
    ∷ pieces.Spare
    ∷ pieces.Document
    ∷ pieces.Padding
    ∷ pieces.Words Records
    ∷ pieces.Words Level1
    ∷ pieces.Words Level2
    ∷ pieces.Words Level3
    ∷ pieces.Words Level4
    ∷ pieces.Words Level5
    ∷ []

-- what the loop over pieces keeps: the first n were added
pub record Going (before now : SeenFiles) (bytes : List ℕ) (words : Lists) (ps : List Piece) (n : ℕ) : Type 0 where
  pub adds : Adds {T = Unit {0}} {E = Failed} before now (pieces_bytes bytes words (take n ps)) (Ok tt)
  pub writing : now.is_writing ≡ true
