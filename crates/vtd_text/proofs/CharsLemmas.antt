-- What is left of a row of records, and of one record, when nothing was read yet.
use Rattle.std.proofs.Common.{◌≡◌, ℕ, List, [], ◌∷◌, ◌++◌, Option, Some, None, refl, sym, ap, subst, ◌∙◌, append-nil, arith, length}
use Rattle.std.specs.Prelude.{MatchOption}
use Rattle.std.specs.Iterator.{YieldsFirst, MakesProgress, item_count}
use Rattle.std.specs.Str.{chars}
use Rattle.xml_model.specs.Records.{Record}
use Rattle.xml_model.specs.Scan.{record_at}
use Rattle.xml_model.specs.Wholes.{wholes}
use Rattle.vtd_words.specs.Table.{Shows}
use Rattle.vtd_text.specs.declared.row.RowEnd.{RowEnd}
use Rattle.vtd_text.specs.declared.token.Rule.{Rule}
use Rattle.vtd_text.specs.declared.token.Rule.TheVariants.{Text}
use Rattle.vtd_text.specs.Tokens.{HasContent}
use Rattle.vtd_text.specs.Joined.{row, Joined, IsLeft, LeavesTail, LeavesAfter, IsAtEnd, slice_of, left_of}
use Rattle.vtd_text.specs.Resolved.{IsResolved, IsRow, HasLeft}
use Rattle.vtd_text.proofs.PieceLemmas.{nothing_left}
use Rattle.vtd_text.proofs.Function.{left_is}

whole_row : (bytes : List ℕ) (rs : List Record) (at : ℕ) (end : RowEnd) (content : List ℕ) → Joined bytes (wholes (row at end rs)) content → IsLeft bytes rs Text [] at end content
whole_row bytes rs at end content j = record { head = []; tail = content; whole = refl; first = nothing_left [] refl; rest = j }

pub row_left : (bytes words : List ℕ) (at : ℕ) (end : RowEnd) → IsRow bytes words at end → HasLeft bytes words Text [] at end
row_left bytes words at end r = record { rs = r.rs; shown = r.shown; content = r.content; left = whole_row bytes r.rs at end r.content r.joined }

pub row_view : (bytes words : List ℕ) (rs : List Record) (at : ℕ) (end : RowEnd) (content : List ℕ) → Shows words rs → Joined bytes (wholes (row at end rs)) content → left_of bytes words Text [] at end ≡ content
row_view bytes words rs at end content s j = left_is bytes words rs Text [] at end content s (whole_row bytes rs at end content j)

-- a row of no record
abbrev pub no_end : RowEnd
no_end = record { past = 0; least = 0 }

whole_record : (bytes : List ℕ) (rs : List Record) (rule : Rule) (r : Record) (text content : List ℕ) → text ≡ slice_of bytes r → IsResolved bytes rule r content → IsLeft bytes rs rule text 0 no_end content
whole_record bytes rs rule r text content e k = record {
  head = content;
  tail = [];
  whole = sym (append-nil content);
  first = subst (λ (l : List ℕ). HasContent rule (chars l) content) (sym e) k.resolved;
  rest = refl;
}

pub record_view : (bytes words : List ℕ) (rs : List Record) (rule : Rule) (at : ℕ) (r : Record) (text content : List ℕ) → Shows words rs → text ≡ slice_of bytes r → r ≡ record_at at rs → IsResolved bytes rule (record_at at rs) content →
    left_of bytes words rule text 0 no_end ≡ content
record_view bytes words rs rule at r text content s e f k =
    left_is bytes words rs rule text 0 no_end content s (whole_record bytes rs rule r text content e (subst (λ (x : Record). IsResolved bytes rule x content) (sym f) k))

-- ---- a call of next

-- what a step over a row says, where its bytes and words stay
abbrev pub Steps : (bytes words : List ℕ) (rule new : Rule) (text left : List ℕ) (at next : ℕ) (end later : RowEnd) (found : Option ℕ) → Type 0
Steps bytes words rule new text left at next end later found = (rs : List Record) → Shows words rs → (content : List ℕ) → IsLeft bytes rs rule text at end content →
    MatchOption found (IsAtEnd (IsLeft bytes rs new left next later) content) (λ c. LeavesTail (IsLeft bytes rs new left next later) content c)

step_left : (bytes words : List ℕ) (rule new : Rule) (text left : List ℕ) (at next : ℕ) (end later : RowEnd) (found : Option ℕ) → Steps bytes words rule new text left at next end later found → HasLeft bytes words rule text at end → HasLeft bytes words new left next later
step_left bytes words rule new text left at next end later None f h = let k = f h.rs h.shown h.content h.left in record { rs = h.rs; shown = h.shown; content = []; left = k.left }
step_left bytes words rule new text left at next end later (Some c) f h = let k = f h.rs h.shown h.content h.left in record { rs = h.rs; shown = h.shown; content = k.tail; left = k.left }

step_view : (bytes words : List ℕ) (rule new : Rule) (text left : List ℕ) (at next : ℕ) (end later : RowEnd) (found : Option ℕ) → Steps bytes words rule new text left at next end later found → HasLeft bytes words rule text at end →
    YieldsFirst (λ (l : List ℕ). l) (left_of bytes words rule text at end) found (left_of bytes words new left next later)
step_view bytes words rule new text left at next end later None f h =
    let k = f h.rs h.shown h.content h.left in
    (left_is bytes words h.rs rule text at end h.content h.shown h.left ∙ k.none, left_is bytes words h.rs new left next later [] h.shown k.left)
step_view bytes words rule new text left at next end later (Some c) f h =
    let k = f h.rs h.shown h.content h.left in
    left_is bytes words h.rs rule text at end h.content h.shown h.left ∙ k.whole ∙ ap (λ (l : List ℕ). c ∷ l) (sym (left_is bytes words h.rs new left next later k.tail h.shown k.left))

-- the same, where they are what they were
pub next_left : (b0 b1 ws0 ws1 : List ℕ) (rule new : Rule) (text left : List ℕ) (at next : ℕ) (end later : RowEnd) (found : Option ℕ) → b1 ≡ b0 → ws1 ≡ ws0 → Steps b0 ws0 rule new text left at next end later found →
    HasLeft b0 ws0 rule text at end → HasLeft b1 ws1 new left next later
next_left b0 b1 ws0 ws1 rule new text left at next end later found b w f h = rw (b, w) (step_left b0 ws0 rule new text left at next end later found f h)

pub next_view : (b0 b1 ws0 ws1 : List ℕ) (rule new : Rule) (text left : List ℕ) (at next : ℕ) (end later : RowEnd) (found : Option ℕ) → b1 ≡ b0 → ws1 ≡ ws0 → Steps b0 ws0 rule new text left at next end later found →
    HasLeft b0 ws0 rule text at end → YieldsFirst (λ (l : List ℕ). l) (left_of b0 ws0 rule text at end) found (left_of b1 ws1 new left next later)
next_view b0 b1 ws0 ws1 rule new text left at next end later found b w f h = rw (b, w) (step_view b0 ws0 rule new text left at next end later found f h)

-- each character that comes is one less that is left
pub goes_on : (can : List ℕ → Type 0) → ((l : List ℕ) → can l) → (old new : List ℕ) (found : Option ℕ) → YieldsFirst (λ (l : List ℕ). l) old found new → MakesProgress can (item_count (λ (l : List ℕ). l)) old found new
goes_on can always old new None h = record { on = λ f. tt; keeps = tt; rests = λ f. tt }
goes_on can always old new (Some c) h = record { on = λ f. (always new, tt, omega (arith, ap length h)); keeps = always new; rests = λ f. tt }

-- ---- characters that stand for themselves

abbrev pub Takes : (bytes : List ℕ) (rule new : Rule) (text left : List ℕ) (at : ℕ) (end : RowEnd) (prefix : List ℕ) → Type 0
Takes bytes rule new text left at end prefix = (rs : List Record) (content : List ℕ) → IsLeft bytes rs rule text at end content → LeavesAfter (IsLeft bytes rs new left at end) content prefix

taken_left : (bytes words : List ℕ) (rule new : Rule) (text left : List ℕ) (at : ℕ) (end : RowEnd) (prefix : List ℕ) → Takes bytes rule new text left at end prefix → HasLeft bytes words rule text at end → HasLeft bytes words new left at end
taken_left bytes words rule new text left at end prefix f h = let k = f h.rs h.content h.left in record { rs = h.rs; shown = h.shown; content = k.tail; left = k.left }

taken_view : (bytes words : List ℕ) (rule new : Rule) (text left : List ℕ) (at : ℕ) (end : RowEnd) (prefix : List ℕ) → Takes bytes rule new text left at end prefix → HasLeft bytes words rule text at end →
    left_of bytes words rule text at end ≡ prefix ++ left_of bytes words new left at end
taken_view bytes words rule new text left at end prefix f h =
    let k = f h.rs h.content h.left in
    left_is bytes words h.rs rule text at end h.content h.shown h.left ∙ k.whole ∙ ap (λ (l : List ℕ). prefix ++ l) (sym (left_is bytes words h.rs new left at end k.tail h.shown k.left))

pub plain_left : (b0 b1 ws0 ws1 : List ℕ) (p0 p1 : RowEnd) (a0 a1 : ℕ) (rule new : Rule) (text left prefix : List ℕ) → b1 ≡ b0 → ws1 ≡ ws0 → p1 ≡ p0 → a1 ≡ a0 → Takes b0 rule new text left a0 p0 prefix →
    HasLeft b0 ws0 rule text a0 p0 → HasLeft b1 ws1 new left a1 p1
plain_left b0 b1 ws0 ws1 p0 p1 a0 a1 rule new text left prefix b w p a f h = rw (b, w, p, a) (taken_left b0 ws0 rule new text left a0 p0 prefix f h)

pub plain_view : (b0 b1 ws0 ws1 : List ℕ) (p0 p1 : RowEnd) (a0 a1 : ℕ) (rule new : Rule) (text left prefix : List ℕ) → b1 ≡ b0 → ws1 ≡ ws0 → p1 ≡ p0 → a1 ≡ a0 → Takes b0 rule new text left a0 p0 prefix →
    HasLeft b0 ws0 rule text a0 p0 → left_of b0 ws0 rule text a0 p0 ≡ prefix ++ left_of b1 ws1 new left a1 p1
plain_view b0 b1 ws0 ws1 p0 p1 a0 a1 rule new text left prefix b w p a f h = rw (b, w, p, a) (taken_view b0 ws0 rule new text left a0 p0 prefix f h)
