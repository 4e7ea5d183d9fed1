-- The content of characters that have one is what the function of the characters gives; so it is the only one.
use Rattle.std.proofs.Common.{◌≡◌, ℕ, zero, suc, ◌/◌, ◌^◌, ◌<◌, Bool, true, false, not, ◌&&◌, ◌==◌, List, [], ◌∷◌, ◌++◌, length, map, Option, Some, None, refl, sym, ap, ap₂, ◌∙◌, arith, length-append, inl, inr}
use Rattle.std.specs.Prelude.{option_and_then}
use Rattle.std.specs.List.{AllByRecursion as Each, list_all, flat_map}
use Rattle.std.specs.Str.{chars}
use Rattle.std.proofs.lemmas.Bool.{and_parts, and_from, false≢true, cases_Bool}
use Rattle.xml_model.specs.Chars.{is_char}
use Rattle.xml_model.specs.Items.{Piece, literal, entity, decimal, hexadecimal, written_piece, written_pieces, meets_piece}
use Rattle.xml_model.specs.Records.{Record, word}
use Rattle.xml_model.specs.Wholes.{wholes}
use Rattle.xml_model.specs.Accepted.{is_name_token}
use Rattle.xml_chars.specs.Readers.{many_by}
use Rattle.xml_chars.specs.Places.{is_reference}
use Rattle.xml_chars.proofs.NameLaws.{reference_reads}
use Rattle.vtd_words.specs.Packed.{fits, record_of}
use Rattle.vtd_words.specs.Table.{Shows, parts_of_record}
use Rattle.vtd_words.proofs.Unpacked.{name_unpacked, other_unpacked}
use Rattle.vtd_text.specs.declared.row.RowEnd.{RowEnd}
use Rattle.vtd_text.specs.declared.token.Rule.{Rule}
use Rattle.vtd_text.specs.declared.token.Rule.TheVariants.{Text, Literal, Value}
use Rattle.vtd_text.specs.Tokens.{HasContent, may_begin_at, content_by, begins_reference, begins_with_reference, some_left, read_piece, read_piece_by, pieces_read, pieces_of, resolved}
use Rattle.vtd_text.specs.Joined.{rule_of, slice_of, Gives, Joined, IsLeft, row, resolved_by, record_content, record_of_word, left_of}

-- ---- one piece

no_both : (a : Bool) → (a && false && true) ≡ true → ⊥
no_both true h = false≢true h
no_both false h = false≢true h

second_not : (a b : Bool) → (a && not b && true) ≡ true → b ≡ false
second_not a true h = absurd (no_both a h)
second_not a false h = refl

literal_begins : (rule : Rule) (c : ℕ) → may_begin_at rule (literal c) ≡ true → begins_reference rule c ≡ false
literal_begins Literal c h = refl
literal_begins Text c h = second_not (is_char c && not (c == 60)) (c == 38) h
literal_begins Value c h = second_not (is_char c && not (c == 60)) (c == 38) h

reference_begins : (rule : Rule) (p : Piece) (rest : List ℕ) → is_reference p ≡ true → may_begin_at rule p ≡ true → begins_with_reference rule (written_piece p ++ rest) ≡ true
reference_begins Text (literal c) rest r h = absurd (false≢true r)
reference_begins Text (entity n) rest r h = refl
reference_begins Text (decimal n) rest r h = refl
reference_begins Text (hexadecimal n) rest r h = refl
reference_begins Value (literal c) rest r h = absurd (false≢true r)
reference_begins Value (entity n) rest r h = refl
reference_begins Value (decimal n) rest r h = refl
reference_begins Value (hexadecimal n) rest r h = refl
reference_begins Literal (literal c) rest r h = absurd (false≢true r)
reference_begins Literal (entity n) rest r h = absurd (false≢true h)
reference_begins Literal (decimal n) rest r h = absurd (false≢true h)
reference_begins Literal (hexadecimal n) rest r h = absurd (false≢true h)

meets_none : (rule : Rule) (p : Piece) → is_reference p ≡ true → may_begin_at rule p ≡ true → meets_piece (λ c. false) p ≡ true
meets_none Text p r h = h
meets_none Value p r h = h
meets_none Literal (literal c) r h = absurd (false≢true r)
meets_none Literal (entity n) r h = absurd (false≢true h)
meets_none Literal (decimal n) r h = absurd (false≢true h)
meets_none Literal (hexadecimal n) r h = absurd (false≢true h)

reference_read : (rule : Rule) (p : Piece) (rest : List ℕ) → is_reference p ≡ true → may_begin_at rule p ≡ true → read_piece rule (written_piece p ++ rest) ≡ Some (p, rest)
reference_read rule p rest r h =
    ap (λ (b : Bool). read_piece_by b (written_piece p ++ rest)) (reference_begins rule p rest r h) ∙ reference_reads.again p rest (and_from (is_reference p) (meets_piece (λ c. false) p) r (meets_none rule p r h))

piece_read : (rule : Rule) (p : Piece) (rest : List ℕ) → may_begin_at rule p ≡ true → read_piece rule (written_piece p ++ rest) ≡ Some (p, rest)
piece_read rule (literal c) rest h = ap (λ (b : Bool). read_piece_by b (c ∷ rest)) (literal_begins rule c h)
piece_read rule (entity n) rest h = reference_read rule (entity n) rest refl h
piece_read rule (decimal n) rest h = reference_read rule (decimal n) rest refl h
piece_read rule (hexadecimal n) rest h = reference_read rule (hexadecimal n) rest refl h

piece_left : (p : Piece) (rest : List ℕ) → some_left (written_piece p ++ rest) ≡ true
piece_left (literal c) rest = refl
piece_left (entity n) rest = refl
piece_left (decimal n) rest = refl
piece_left (hexadecimal n) rest = refl

-- ---- all pieces

many_read : (rule : Rule) (fuel : ℕ) (ps : List Piece) → list_all (may_begin_at rule) ps ≡ true → length ps < fuel → many_by fuel some_left (read_piece rule) (written_pieces ps) ≡ Some (ps, [])
many_read rule zero ps f l = absurd (omega arith)
many_read rule (suc fuel) [] f l = refl
many_read rule (suc fuel) (p ∷ ps) f l =
    let q = and_parts (may_begin_at rule p) (list_all (may_begin_at rule) ps) f in
    let so = many_read rule fuel ps q.1 (omega arith) in
    rw (piece_left p (written_pieces ps), piece_read rule p (written_pieces ps) q.0) (ap (option_and_then (λ (x : List Piece × List ℕ). Some (p ∷ x.0, x.1))) so)

some_size : (p : Piece) → 0 < length (written_piece p)
some_size (literal c) = omega arith
some_size (entity n) = omega arith
some_size (decimal n) = omega arith
some_size (hexadecimal n) = omega arith

enough : (ps : List Piece) → length ps < suc (length (written_pieces ps))
enough [] = omega arith
enough (p ∷ ps) = omega (arith, enough ps, some_size p, length-append (written_piece p) (written_pieces ps))

pub pieces_are : (rule : Rule) (ps : List Piece) → list_all (may_begin_at rule) ps ≡ true → pieces_of rule (written_pieces ps) ≡ ps
unfolding pieces_of
pieces_are rule ps f = ap pieces_read (many_read rule (suc (length (written_pieces ps))) ps f (enough ps))

pub content_is : (rule : Rule) (cs content : List ℕ) → HasContent rule cs content → resolved rule cs ≡ content
unfolding resolved
content_is rule cs content h = ap (λ (l : List ℕ). content_by rule (pieces_of rule l)) (sym h.written) ∙ ap (content_by rule) (pieces_are rule h.pieces h.fit) ∙ h.resolved

-- ---- a row of records

-- the record that a word packs
word_record : (r : Record) → fits (parts_of_record r) ≡ true → record_of_word (word r) ≡ r
unfolding record_of_word
word_record r f = elim (cases_Bool (is_name_token (word r / 2 ^ 60))) [
  | inl n ↦ rw n (ap record_of (name_unpacked (word r) (parts_of_record r) n f refl))
  | inr n ↦ rw n (ap record_of (other_unpacked (word r) (parts_of_record r) n f refl))
]

words_records : (rs : List Record) → Each (λ r. fits (parts_of_record r) ≡ true) rs → map record_of_word (map word rs) ≡ rs
words_records [] f = refl
words_records (r ∷ rs) f = ap₂ (λ (x : Record) (xs : List Record). x ∷ xs) (word_record r f.0) (words_records rs f.1)

content_of : (bytes : List ℕ) (r : Record) (content : List ℕ) → Gives (rule_of r.token) (slice_of bytes r) content → record_content bytes r ≡ content
content_of bytes r content = by (rule_of r.token)
  where
    by : (o : Option Rule) → Gives o (slice_of bytes r) content → resolved_by o (slice_of bytes r) ≡ content
    by None h = sym h
    by (Some rule) h = content_is rule (chars (slice_of bytes r)) content h

joined_is : (bytes : List ℕ) (rs : List Record) (content : List ℕ) → Joined bytes rs content → flat_map (record_content bytes) rs ≡ content
joined_is bytes [] content j = sym j
joined_is bytes (r ∷ rs) content j = ap₂ (λ (a b : List ℕ). a ++ b) (content_of bytes r j.head j.first) (joined_is bytes rs j.tail j.rest) ∙ sym j.whole

-- what is left, where the words show records
pub left_is : (bytes words : List ℕ) (rs : List Record) (rule : Rule) (text : List ℕ) (at : ℕ) (end : RowEnd) (content : List ℕ) → Shows words rs → IsLeft bytes rs rule text at end content → left_of bytes words rule text at end ≡ content
unfolding left_of
left_is bytes words rs rule text at end content s h =
    let same : map record_of_word words ≡ rs = ap (map record_of_word) s.are ∙ words_records rs s.fit in
    ap₂ (λ (a b : List ℕ). a ++ b) (content_is rule (chars text) h.head h.first) (ap (λ (l : List Record). flat_map (record_content bytes) (wholes (row at end l))) same ∙ joined_is bytes (wholes (row at end rs)) h.tail h.rest) ∙ sym h.whole
