-- What the calls at a place answer.
use Rattle.std.proofs.Common.{◌≡◌, ℕ, ◌+◌, ◌-◌, ◌<◌, ◌≤◌, Bool, true, List, [], ◌∷◌, ◌++◌, length, take, drop, Option, Some, None, refl, sym, ap, ◌∙◌, arith, lit<}
use Rattle.std.proofs.lemmas.Str.{encode_ascii}
use Rattle.std.specs.Prelude.{◌&&◌, option_map}
use Rattle.std.specs.Str.{IsUtf8, chars, IsCharBoundary}
use Rattle.std.specs.List.{prefix_len, list_all}
use lib.Utf8.{encodes}
use Rattle.std.proofs.lemmas.Bool.{false≢true, and_parts, and_from, false_from_ne_true}
use Rattle.std.proofs.lemmas.List.{take_at}
use Rattle.std.proofs.Math.Numerals.{one-add}
use Rattle.xml_chars.proofs.Runs.{start_is_name}
use Rattle.xml_model.specs.Chars.{begins, size, is_name, is_name_start, is_name_char, is_blank, is_space}
use Rattle.xml_model.specs.Items.{Piece, literal, entity, decimal, hexadecimal, number_of, written_piece}
use Rattle.xml_chars.specs.declared.Reference.TheVariants.{Char, Named}
use Rattle.xml_chars.specs.Readers.{mapped}
use Rattle.xml_chars.specs.Reading.{read_name, read_space, read_reference}
use Rattle.xml_chars.specs.Places.{IsLongestName, HasNoName, IsLongestSpace, is_reference, meets_reference, HasNoReference, IsReferenceAt, reference_shown}
use Rattle.xml_chars.specs.Shown.{Shown, character, name, shown}
use Rattle.xml_chars.proofs.Readers.{map_some, FitRun, run_again}
use Rattle.xml_chars.proofs.HoldLemmas.{read_to, To, prefix_holds, prefix_of_run, size-append}
use Rattle.xml_chars.proofs.NameLaws.{name_reads, name_chars, space_reads, reference_reads}

-- a prefix that passes is no longer than a longest one
longest_by : (p : ℕ → Bool) (cs n rest w v : List ℕ) → cs ≡ n ++ rest → FitRun p n rest → cs ≡ w ++ v → list_all p w ≡ true → size w ≤ size n
longest_by p cs n rest w v e fits f h =
    let m = prefix_of_run p w v h in
    let one : take (prefix_len p cs) cs ≡ w ++ m.0 = ap (λ (l : List ℕ). take (prefix_len p l) l) f ∙ m.1 in
    let two : take (prefix_len p cs) cs ≡ n = ap (λ (l : List ℕ). take (prefix_len p l) l) e ∙ ap (λ (k : ℕ). take k (n ++ rest)) (run_again p n rest fits) ∙ take_at n rest (length n) refl in
    omega (arith, ap size (sym two ∙ one), size-append w m.0)

pub name_at : (bytes text n rest : List ℕ) (at : ℕ) → at ≤ length bytes → text ≡ drop at bytes → IsUtf8 text → IsUtf8 rest → read_name (chars text) ≡ Some (n, chars rest)
    → IsLongestName bytes at (length bytes - length rest) × IsCharBoundary bytes (length bytes - length rest)
name_at bytes text n rest at within is u v e =
    let t = name_reads.takes (chars text) n (chars rest) e in
    let k = read_to bytes text rest at n within is u v t.0 in (
      record {
        name = n;
        fits = t.1.0;
        there = k.holds;
        end = k.end;
        longest = λ other h s.
            let f = prefix_holds text other u (ap (begins (encodes other)) is ∙ s) in
            longest_by is_name_char (chars text) n (chars rest) other f.0 t.0 (name_chars n t.1.0, t.1.1) f.1 (name_chars other h);
      },
      k.boundary,
    )

-- a name at the start is read, if not whole
pub start_reads : (n v : List ℕ) → is_name n ≡ true → read_name (n ++ v) ≡ None → ⊥
unfolding read_name is_name
start_reads [] v h e = false≢true h
start_reads (c ∷ n) v h e =
    let q = and_parts (is_name_start c) (list_all is_name_char n) h in
    let no : ◌≡◌ {A = Option (List ℕ × List ℕ)} (Some (c ∷ take (prefix_len is_name_char (n ++ v)) (n ++ v), drop (prefix_len is_name_char (n ++ v)) (n ++ v))) None = rw (start_is_name c q.0, one-add, q.0) at e in
    cc

pub no_name_at : (bytes text : List ℕ) (at : ℕ) → text ≡ drop at bytes → IsUtf8 text → read_name (chars text) ≡ None → HasNoName bytes at
no_name_at bytes text at is u e n h = false_from_ne_true _ (λ s.
    let f = prefix_holds text n u (ap (begins (encodes n)) is ∙ s) in
    start_reads n f.0 h (ap read_name (sym f.1) ∙ e))

pub space_at : (bytes text n rest : List ℕ) (at : ℕ) → at ≤ length bytes → text ≡ drop at bytes → IsUtf8 text → IsUtf8 rest → read_space (chars text) ≡ Some (n, chars rest)
    → IsLongestSpace bytes at (length bytes - length rest) × IsCharBoundary bytes (length bytes - length rest)
unfolding is_blank
space_at bytes text n rest at within is u v e =
    let t = space_reads.takes (chars text) n (chars rest) e in
    let k = read_to bytes text rest at n within is u v t.0 in (
      record {
        space = n;
        fits = t.1.0;
        there = k.holds;
        end = k.end;
        longest = λ other h s.
            let f = prefix_holds text other u (ap (begins (encodes other)) is ∙ s) in
            longest_by is_space (chars text) n (chars rest) other f.0 t.0 t.1 f.1 h;
      },
      k.boundary,
    )

-- ---- references

pub record Found (bytes rest : List ℕ) (at : ℕ) (sh : Shown) : Type 0 where
  pub piece : Piece
  pub shows : shown piece ≡ sh
  pub fits : (is_reference piece && meets_reference piece) ≡ true
  pub to : To bytes rest at (written_piece piece)

pub reference_found : (bytes text rest : List ℕ) (at : ℕ) (sh : Shown) → at ≤ length bytes → text ≡ drop at bytes → IsUtf8 text → IsUtf8 rest → mapped shown read_reference (chars text) ≡ Some (sh, chars rest) → Found bytes rest at sh
reference_found bytes text rest at sh within is u v e =
    let m = map_some (λ (p : Piece × List ℕ). (shown p.0, p.1)) (read_reference (chars text)) (sh, chars rest) e in
    let p = m.0 in
    let left : p.1 ≡ chars rest = ap (λ (z : Shown × List ℕ). z.1) m.2 in
    let t = reference_reads.takes (chars text) p.0 p.1 m.1 in
    record {
      piece = p.0;
      shows = ap (λ (z : Shown × List ℕ). z.0) m.2;
      fits = t.1;
      to = read_to bytes text rest at (written_piece p.0) within is u v (t.0 ∙ ap (λ (l : List ℕ). written_piece p.0 ++ l) left);
    }

none_by : (o : Option (Piece × List ℕ)) → option_map (λ (p : Piece × List ℕ). let q : Shown × List ℕ = (shown p.0, p.1) in q) o ≡ None → o ≡ None
none_by None e = refl
none_by (Some p) e = absurd (cc)

pub no_reference_at : (bytes text : List ℕ) (at : ℕ) → text ≡ drop at bytes → IsUtf8 text → mapped shown read_reference (chars text) ≡ None → HasNoReference bytes at
no_reference_at bytes text at is u e p r h = false_from_ne_true _ (λ s.
    let f = prefix_holds text (written_piece p) u (ap (begins (encodes (written_piece p))) is ∙ s) in
    let yes = reference_reads.again p f.0 (and_from (is_reference p) (meets_reference p) r h) in
    let no : read_reference (written_piece p ++ f.0) ≡ None = ap read_reference (sym f.1) ∙ none_by (read_reference (chars text)) e in
    cc)

pub char_reference : (bytes rest : List ℕ) (at value : ℕ) → Found bytes rest at (character value) → IsReferenceAt bytes at (Char value (length bytes - length rest))
char_reference bytes rest at value f = go f.piece f.shows f.fits f.to
  where
    go : (p : Piece) → shown p ≡ character value → (is_reference p && meets_reference p) ≡ true → To bytes rest at (written_piece p) → IsReferenceAt bytes at (Char value (length bytes - length rest))
    go (literal c) s h t = absurd (false≢true h)
    go (entity n) s h t = absurd (cc)
    go (decimal d) s h t =
        let same : number_of 10 d ≡ value = cc in
        let end = t.end in
        let is : Char value (length bytes - length rest) ≡ reference_shown at (decimal d) = rw (sym same, end) refl in
        record { piece = decimal d; refers = refl; meets = h; there = t.holds; shown = is }
    go (hexadecimal d) s h t =
        let same : number_of 16 d ≡ value = cc in
        let end = t.end in
        let is : Char value (length bytes - length rest) ≡ reference_shown at (hexadecimal d) = rw (sym same, end) refl in
        record { piece = hexadecimal d; refers = refl; meets = h; there = t.holds; shown = is }

pub one_byte : (c : ℕ) → c < 128 → size (c ∷ []) ≡ 1
unfolding size
one_byte c h = ap (λ (l : List ℕ). length (l ++ [])) (encode_ascii c h)

pub named_size : (n : List ℕ) → size (written_piece (entity n)) ≡ size n + 2
named_size n = omega (arith, size-append (38 ∷ n) (59 ∷ []), size-append (38 ∷ []) n, one_byte 38 (lit< tt), one_byte 59 (lit< tt))

pub named_reference : (bytes rest n : List ℕ) (at : ℕ) → Found bytes rest at (name n) → IsReferenceAt bytes at (Named record { start = at + 1; end = length bytes - length rest - 1 } (length bytes - length rest))
named_reference bytes rest n at f = go f.piece f.shows f.fits f.to
  where
    go : (p : Piece) → shown p ≡ name n → (is_reference p && meets_reference p) ≡ true → To bytes rest at (written_piece p) → IsReferenceAt bytes at (Named record { start = at + 1; end = length bytes - length rest - 1 } (length bytes - length rest))
    go (literal c) s h t = absurd (false≢true h)
    go (decimal d) s h t = absurd (cc)
    go (hexadecimal d) s h t = absurd (cc)
    go (entity m) s h t =
        let end : length bytes - length rest ≡ at + size (written_piece (entity m)) = t.end in
        let before : length bytes - length rest - 1 ≡ at + 1 + size m = omega (arith, named_size m) in
        let is : Named record { start = at + 1; end = length bytes - length rest - 1 } (length bytes - length rest) ≡ reference_shown at (entity m) = rw before (ap (λ (k : ℕ). Named record { start = at + 1; end = at + 1 + size m } k) end) in
        record { piece = entity m; refers = refl; meets = h; there = t.holds; shown = is }
