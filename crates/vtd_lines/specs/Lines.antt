-- The lines of a script (this project's own).
use Rattle.std.specs.Prelude.{◌⊎◌, ◌≡◌, ◌+◌, ◌-◌, ◌<◌, ◌≤◌, ◌==◌, ◌&&◌, ℕ, Bool, cond, List, [], ◌∷◌}
use Rattle.std.specs.Prelude.{slice_range, slice_index, drop, length}
use Rattle.xml_model.specs.Chars.{begins}
use Rattle.vtd_lines.specs.declared.lines.Line.{Line}

-- the lines with one byte more at the start of the first
abbrev pub with_first : ℕ → List (List ℕ) → List (List ℕ)
with_first byte [] = (byte ∷ []) ∷ []
with_first byte (line ∷ lines) = (byte ∷ line) ∷ lines

-- A line feed ends a line, and a carriage return directly before it belongs to the line end. The last line may lack it.
abbrev pub with_byte : ℕ → Bool → List (List ℕ) → List (List ℕ)
with_byte byte before_line_feed rest =
    cond (byte == 13 && before_line_feed) rest (cond (byte == 10) ([] ∷ rest) (with_first byte rest))

unfoldable pub lines : List ℕ → List (List ℕ)
lines [] = []
lines (byte ∷ script) = with_byte byte (begins (10 ∷ []) script) (lines script)

-- the first line of those from a place on
pub record IsLine (script : List ℕ) (at : ℕ) (line : Line) : Type 0 where
  pub begins : line.start ≡ at
  pub first : lines (drop at script) ≡ slice_range script line.start line.end ∷ lines (drop line.next script)
  pub in_order : line.start ≤ line.end
  pub within : line.end ≤ length script
  pub goes_on : at < line.next
  pub ends : line.next ≤ length script
  pub closed : (slice_index script (line.next - 1) ≡ 10) ⊎ (line.next ≡ length script)
  pub one_line : (k : ℕ) → at ≤ k → k + 1 < line.next → slice_index script k ≡ 10 → ⊥

-- What private functions promise.

-- the bytes without a carriage return at their end
abbrev pub without_return : List ℕ → List ℕ
without_return [] = []
without_return (c ∷ []) = cond (c == 13) [] (c ∷ [])
without_return (c ∷ d ∷ t) = c ∷ without_return (d ∷ t)

-- no byte from one place to another is a line feed
abbrev pub HasNoFeedIn : List ℕ → ℕ → ℕ → Type 0
HasNoFeedIn script from end = (k : ℕ) → from ≤ k → k < end → slice_index script k ≡ 10 → ⊥

-- the line at a place is ended by the line feed at another
pub record EndsLine (script : List ℕ) (from end : ℕ) : Type 0 where
  pub low : from ≤ end
  pub high : end < length script
  pub there : slice_index script end ≡ 10
  pub first : HasNoFeedIn script from end
  pub whole : lines (drop from script) ≡ without_return (slice_range script from end) ∷ lines (drop (end + 1) script)

-- no line feed ends the line at a place
pub record IsUnended (script : List ℕ) (from : ℕ) : Type 0 where
  pub none : HasNoFeedIn script from (length script)
  pub whole : from < length script → lines (drop from script) ≡ drop from script ∷ []

-- the line that begins at a place ends before the line feed, and before a carriage return directly before that
pub record IsBeforeReturn (script : List ℕ) (from end result : ℕ) : Type 0 where
  pub low : from ≤ result
  pub high : result ≤ end
  pub same : without_return (slice_range script from end) ≡ slice_range script from result
