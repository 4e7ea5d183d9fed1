-- The first character of pieces, and what is left of them.
use Rattle.std.proofs.Common.{◌≡◌, ℕ, true, false, inl, inr, List, [], ◌∷◌, ◌++◌, map, Option, Some, None, Bor, refl, sym, ap, subst, ◌∙◌}
use Rattle.std.specs.Prelude.{◌==◌, ◌||◌, ◌<◌, ◌≤◌, length, not, cond, take, drop, option_map, MatchOption}
use Rattle.std.specs.List.{list_all, prefix_len}
use Rattle.std.proofs.Common.{Bool, arith, lit<, ⊎_elim}
use Rattle.std.proofs.Math.Numerals.{one-add}
use Rattle.std.proofs.lemmas.List.{take-append-drop, take-append-le, drop-append-le, length-append, append_assoc}
use Rattle.xml_chars.proofs.TextLemmas.{Split, split_stop}
use Rattle.std.proofs.lemmas.Bool.{cases_Bool, false≢true, and_parts, and_from, eqb-true, or_cases, not-false}
use Rattle.xml_model.specs.Items.{Piece, literal, entity, decimal, hexadecimal, written_piece, written_pieces, meets_piece}
use Rattle.xml_model.specs.Content.{text_content, value_content, char_of, char_in_value, with_line_ends, is_literal, begins_with}
use Rattle.xml_chars.specs.Places.{is_reference}
use Rattle.xml_chars.specs.Reading.{read_reference}
use Rattle.std.specs.Str.{chars, IsUtf8, IsCharBoundary}
use Rattle.std.proofs.lemmas.Option.{same_Some}
use Rattle.std.proofs.lemmas.Str.{chars-nil, chars-append, IsUtf8-append, IsUtf8-take, IsUtf8-drop, IsCharBoundary-from_drop}
use Rattle.xml_chars.specs.Readers.{mapped, Gives}
use Rattle.xml_chars.proofs.NameLaws.{reference_reads}
use Rattle.vtd_text.specs.declared.token.Rule.{Rule}
use Rattle.vtd_text.specs.declared.token.Rule.TheVariants.{Text, Literal, Value}
use Rattle.vtd_text.specs.Tokens.{HasContent, BeginsWith, LeavesRest, is_special, spaced, after_line_feed, may_begin_at, content_by, begins_reference}

abbrev pub shown_by : Rule → Piece → ℕ
shown_by Value p = char_in_value p
shown_by Text p = char_of p
shown_by Literal p = char_of p

content_map : (rule : Rule) (ps : List Piece) → content_by rule ps ≡ map (shown_by rule) (with_line_ends ps)
unfolding text_content value_content
content_map Text ps = refl
content_map Literal ps = refl
content_map Value ps = refl

shown_literal : (rule : Rule) (c : ℕ) → shown_by rule (literal c) ≡ spaced rule c
shown_literal Text c = refl
shown_literal Literal c = refl
shown_literal Value c = refl

shown_reference : (rule : Rule) (p : Piece) → is_reference p ≡ true → shown_by rule p ≡ char_of p
shown_reference Text p h = refl
shown_reference Literal p h = refl
shown_reference Value (literal c) h = absurd (false≢true h)
shown_reference Value (entity n) h = refl
shown_reference Value (decimal n) h = refl
shown_reference Value (hexadecimal n) h = refl

first_other : (rule : Rule) (p : Piece) (qs : List Piece) → is_literal 13 p ≡ false → content_by rule (p ∷ qs) ≡ shown_by rule p ∷ content_by rule qs
first_other rule p qs h = content_map rule (p ∷ qs) ∙ rw h (ap (λ (l : List ℕ). shown_by rule p ∷ l) (sym (content_map rule qs)))

first_return : (rule : Rule) (qs : List Piece) → begins_with 10 qs ≡ false → content_by rule (literal 13 ∷ qs) ≡ spaced rule 10 ∷ content_by rule qs
first_return rule qs h =
    content_map rule (literal 13 ∷ qs) ∙ rw h (ap (λ (l : List ℕ). shown_by rule (literal 10) ∷ l) (sym (content_map rule qs))) ∙ ap (λ (c : ℕ). c ∷ content_by rule qs) (shown_literal rule 10)

first_both : (rule : Rule) (qs : List Piece) → content_by rule (literal 13 ∷ literal 10 ∷ qs) ≡ spaced rule 10 ∷ content_by rule qs
first_both rule qs =
    content_map rule (literal 13 ∷ literal 10 ∷ qs) ∙ ap (λ (l : List ℕ). shown_by rule (literal 10) ∷ l) (sym (content_map rule qs)) ∙ ap (λ (c : ℕ). c ∷ content_by rule qs) (shown_literal rule 10)

-- a reference begins with an ampersand
record Ampersand (p : Piece) (qs : List Piece) : Type 0 where
  pub tail : List ℕ
  pub is : written_pieces (p ∷ qs) ≡ 38 ∷ tail

ampersand : (p : Piece) (qs : List Piece) → is_reference p ≡ true → Ampersand p qs
ampersand (literal c) qs h = absurd (false≢true h)
ampersand (entity n) qs h = record { tail = (n ++ 59 ∷ []) ++ written_pieces qs; is = refl }
ampersand (decimal n) qs h = record { tail = 35 ∷ (n ++ 59 ∷ []) ++ written_pieces qs; is = refl }
ampersand (hexadecimal n) qs h = record { tail = 35 ∷ 120 ∷ (n ++ 59 ∷ []) ++ written_pieces qs; is = refl }

begins_so : (rule : Rule) (p : Piece) → is_reference p ≡ true → may_begin_at rule p ≡ true → begins_reference rule 38 ≡ true
begins_so Text p h m = refl
begins_so Value p h m = refl
begins_so Literal (literal c) h m = absurd (false≢true h)
begins_so Literal (entity n) h m = m
begins_so Literal (decimal n) h m = m
begins_so Literal (hexadecimal n) h m = m

-- the first piece, where it is a character that is written as itself
record FirstLiteral (rule : Rule) (ps : List Piece) (c : ℕ) (rest : List ℕ) : Type 0 where
  pub others : List Piece
  pub is : ps ≡ literal c ∷ others
  pub fit : list_all (may_begin_at rule) others ≡ true
  pub written : written_pieces others ≡ rest

pub head_same : (c d : ℕ) (xs ys : List ℕ) → c ∷ xs ≡ d ∷ ys → c ≡ d
head_same c d xs ys e = cc

pub tail_same : (c d : ℕ) (xs ys : List ℕ) → c ∷ xs ≡ d ∷ ys → xs ≡ ys
tail_same c d xs ys e = cc

no_reference : (rule : Rule) (p : Piece) (qs : List Piece) (c : ℕ) (rest : List ℕ) → is_reference p ≡ true → list_all (may_begin_at rule) (p ∷ qs) ≡ true → written_pieces (p ∷ qs) ≡ c ∷ rest → begins_reference rule c ≡ false → FirstLiteral rule (p ∷ qs) c rest
no_reference rule p qs c rest r f w n =
    let a = ampersand p qs r in
    let same : 38 ≡ c = head_same 38 c a.tail rest (sym a.is ∙ w) in
    absurd (false≢true (sym n ∙ ap (begins_reference rule) (sym same) ∙ begins_so rule p r (and_parts (may_begin_at rule p) (list_all (may_begin_at rule) qs) f).0))

first_literal : (rule : Rule) (ps : List Piece) (c : ℕ) (rest : List ℕ) → list_all (may_begin_at rule) ps ≡ true → written_pieces ps ≡ c ∷ rest → begins_reference rule c ≡ false → FirstLiteral rule ps c rest
first_literal rule [] c rest f w n = absurd cc
first_literal rule (literal d ∷ qs) c rest f w n = record {
  others = qs;
  is = ap (λ (x : ℕ). literal x ∷ qs) (head_same d c (written_pieces qs) rest w);
  fit = (and_parts (may_begin_at rule (literal d)) (list_all (may_begin_at rule) qs) f).1;
  written = tail_same d c (written_pieces qs) rest w;
}
first_literal rule (entity m ∷ qs) c rest f w n = no_reference rule (entity m) qs c rest refl f w n
first_literal rule (decimal m ∷ qs) c rest f w n = no_reference rule (decimal m) qs c rest refl f w n
first_literal rule (hexadecimal m ∷ qs) c rest f w n = no_reference rule (hexadecimal m) qs c rest refl f w n

-- nothing is written
pub no_content : (rule : Rule) (cs content : List ℕ) → cs ≡ [] → HasContent rule cs content → content ≡ []
no_content rule cs content e h = sym h.resolved ∙ none h.pieces (h.written ∙ e)
  where
    none : (ps : List Piece) → written_pieces ps ≡ [] → content_by rule ps ≡ []
    none [] w = content_map rule []
    none (literal c ∷ ps) w = absurd cc
    none (entity c ∷ ps) w = absurd cc
    none (decimal c ∷ ps) w = absurd cc
    none (hexadecimal c ∷ ps) w = absurd cc

-- a character that is written as itself and is no carriage return
pub plain_first : (rule : Rule) (cs content : List ℕ) (c : ℕ) (rest : List ℕ) → cs ≡ c ∷ rest → begins_reference rule c ≡ false → (c == 13) ≡ false → HasContent rule cs content → BeginsWith rule content (spaced rule c) rest
plain_first rule cs content c rest e n k h =
    let f = first_literal rule h.pieces c rest h.fit (h.written ∙ e) n in
    record {
      tail = content_by rule f.others;
      whole = sym h.resolved ∙ ap (content_by rule) f.is ∙ first_other rule (literal c) f.others k ∙ ap (λ (x : ℕ). x ∷ content_by rule f.others) (shown_literal rule c);
      rest = record { pieces = f.others; fit = f.fit; written = f.written; resolved = refl };
    }

-- a carriage return, and what is left after the line end
after_return : (rule : Rule) (ps : List Piece) → list_all (may_begin_at rule) ps ≡ true → BeginsWith rule (content_by rule (literal 13 ∷ ps)) (spaced rule 10) (after_line_feed (written_pieces ps))
after_return rule [] f = record { tail = content_by rule []; whole = first_return rule [] refl; rest = record { pieces = []; fit = refl; written = refl; resolved = refl } }
after_return rule (literal d ∷ ps) f = elim (cases_Bool (d == 10)) [
  | inl t ↦
      let is : d ≡ 10 = eqb-true d 10 t in
      let fit : list_all (may_begin_at rule) ps ≡ true = (and_parts (may_begin_at rule (literal d)) (list_all (may_begin_at rule) ps) f).1 in
      record {
        tail = content_by rule ps;
        whole = ap (λ (x : ℕ). content_by rule (literal 13 ∷ literal x ∷ ps)) is ∙ first_both rule ps;
        rest = record { pieces = ps; fit = fit; written = rw t refl; resolved = refl };
      }
  | inr n ↦ record {
    tail = content_by rule (literal d ∷ ps);
    whole = first_return rule (literal d ∷ ps) n;
    rest = record { pieces = literal d ∷ ps; fit = f; written = rw n refl; resolved = refl };
  }
]
after_return rule (entity m ∷ ps) f = record { tail = content_by rule (entity m ∷ ps); whole = first_return rule (entity m ∷ ps) refl; rest = record { pieces = entity m ∷ ps; fit = f; written = refl; resolved = refl } }
after_return rule (decimal m ∷ ps) f = record { tail = content_by rule (decimal m ∷ ps); whole = first_return rule (decimal m ∷ ps) refl; rest = record { pieces = decimal m ∷ ps; fit = f; written = refl; resolved = refl } }
after_return rule (hexadecimal m ∷ ps) f = record { tail = content_by rule (hexadecimal m ∷ ps); whole = first_return rule (hexadecimal m ∷ ps) refl; rest = record { pieces = hexadecimal m ∷ ps; fit = f; written = refl; resolved = refl } }

no_ampersand : (rule : Rule) → begins_reference rule 13 ≡ false
no_ampersand Text = refl
no_ampersand Literal = refl
no_ampersand Value = refl

pub return_first : (rule : Rule) (cs content rest : List ℕ) → cs ≡ 13 ∷ rest → HasContent rule cs content → BeginsWith rule content (spaced rule 10) (after_line_feed rest)
return_first rule cs content rest e h =
    let f = first_literal rule h.pieces 13 rest h.fit (h.written ∙ e) (no_ampersand rule) in
    let b = after_return rule f.others f.fit in
    record {
      tail = b.tail;
      whole = sym h.resolved ∙ ap (content_by rule) f.is ∙ b.whole;
      rest = subst (λ (l : List ℕ). HasContent rule (after_line_feed l) b.tail) f.written b.rest;
    }

-- a reference
record FirstReference (rule : Rule) (ps : List Piece) : Type 0 where
  pub piece : Piece
  pub others : List Piece
  pub is : ps ≡ piece ∷ others
  pub refers : is_reference piece ≡ true
  pub meets : meets_piece (λ c. false) piece ≡ true
  pub fit : list_all (may_begin_at rule) others ≡ true

may_meet : (rule : Rule) (p : Piece) → begins_reference rule 38 ≡ true → may_begin_at rule p ≡ true → meets_piece (λ c. false) p ≡ true
may_meet Text p b m = m
may_meet Value p b m = m
may_meet Literal p b m = absurd (false≢true b)

with_reference : (rule : Rule) (p : Piece) (qs : List Piece) → is_reference p ≡ true → list_all (may_begin_at rule) (p ∷ qs) ≡ true → begins_reference rule 38 ≡ true → FirstReference rule (p ∷ qs)
with_reference rule p qs r f b =
    let q = and_parts (may_begin_at rule p) (list_all (may_begin_at rule) qs) f in
    record { piece = p; others = qs; is = refl; refers = r; meets = may_meet rule p b q.0; fit = q.1 }

no_38 : meets_piece (λ c. false) (literal 38) ≡ false
unfolding Rattle.xml_model.specs.Chars.is_char Rattle.xml_model.specs.Chars.in_ranges
no_38 = refl

first_reference : (rule : Rule) (ps : List Piece) (rest : List ℕ) → list_all (may_begin_at rule) ps ≡ true → written_pieces ps ≡ 38 ∷ rest → begins_reference rule 38 ≡ true → FirstReference rule ps
first_reference rule [] rest f w b = absurd cc
first_reference rule (literal d ∷ qs) rest f w b =
    let is : d ≡ 38 = head_same d 38 (written_pieces qs) rest w in
    let m : meets_piece (λ c. false) (literal d) ≡ true = may_meet rule (literal d) b (and_parts (may_begin_at rule (literal d)) (list_all (may_begin_at rule) qs) f).0 in
    absurd (false≢true (sym no_38 ∙ ap (λ (x : ℕ). meets_piece (λ c. false) (literal x)) (sym is) ∙ m))
first_reference rule (entity m ∷ qs) rest f w b = with_reference rule (entity m) qs refl f b
first_reference rule (decimal m ∷ qs) rest f w b = with_reference rule (decimal m) qs refl f b
first_reference rule (hexadecimal m ∷ qs) rest f w b = with_reference rule (hexadecimal m) qs refl f b

not_return : (p : Piece) → is_reference p ≡ true → is_literal 13 p ≡ false
not_return (literal c) h = absurd (false≢true h)
not_return (entity c) h = refl
not_return (decimal c) h = refl
not_return (hexadecimal c) h = refl

-- what is read at a reference
pub record ReadFirst (rule : Rule) (cs content : List ℕ) : Type 0 where
  pub char : ℕ
  pub left : List ℕ
  pub read : mapped char_of read_reference cs ≡ Some (char, left)
  pub begins : BeginsWith rule content char left

pub reference_first : (rule : Rule) (cs content rest : List ℕ) → cs ≡ 38 ∷ rest → begins_reference rule 38 ≡ true → HasContent rule cs content → ReadFirst rule cs content
reference_first rule cs content rest e b h =
    let f = first_reference rule h.pieces rest h.fit (h.written ∙ e) b in
    let there : cs ≡ written_piece f.piece ++ written_pieces f.others = sym h.written ∙ ap written_pieces f.is in
    let again = reference_reads.again f.piece (written_pieces f.others) (and_from (is_reference f.piece) (meets_piece (λ c. false) f.piece) f.refers f.meets) in
    record {
      char = char_of f.piece;
      left = written_pieces f.others;
      read = ap (mapped char_of read_reference) there ∙ ap (option_map (λ (p : Piece × List ℕ). let q : ℕ × List ℕ = (char_of p.0, p.1) in q)) again;
      begins = record {
        tail = content_by rule f.others;
        whole = sym h.resolved ∙ ap (content_by rule) f.is ∙ first_other rule f.piece f.others (not_return f.piece f.refers) ∙ ap (λ (x : ℕ). x ∷ content_by rule f.others) (shown_reference rule f.piece f.refers);
        rest = record { pieces = f.others; fit = f.fit; written = refl; resolved = refl };
      };
    }

begins_38 : (rule : Rule) (c : ℕ) → begins_reference rule c ≡ true → c ≡ 38
begins_38 Text c h = eqb-true c 38 h
begins_38 Value c h = eqb-true c 38 h
begins_38 Literal c h = absurd (false≢true h)

-- what was read at a reference is the first character of the content
pub referred_content : (rule : Rule) (cs content : List ℕ) (c : ℕ) (rest : List ℕ) → cs ≡ c ∷ rest → begins_reference rule c ≡ true → (found : Option (ℕ × Bor (List ℕ)))
    → Gives (λ x. let q : ℕ × List ℕ = (x.0, chars x.1.now) in q) found (mapped char_of read_reference cs) → HasContent rule cs content → MatchOption found (content ≡ []) (λ x. BeginsWith rule content x.0 (chars x.1.now))
referred_content rule cs content c rest e b None g h =
    let is : c ≡ 38 = begins_38 rule c b in
    let r = reference_first rule cs content rest (e ∙ ap (λ (x : ℕ). x ∷ rest) is) (ap (begins_reference rule) (sym is) ∙ b) h in
    let no : ◌≡◌ {A = Option (ℕ × List ℕ)} None (Some (r.char, r.left)) = sym g ∙ r.read in
    absurd cc
referred_content rule cs content c rest e b (Some x) g h =
    let is : c ≡ 38 = begins_38 rule c b in
    let r = reference_first rule cs content rest (e ∙ ap (λ (x : ℕ). x ∷ rest) is) (ap (begins_reference rule) (sym is) ∙ b) h in
    let same = same_Some (r.char, r.left) (x.0, chars x.1.now) (sym r.read ∙ g) in
    subst (λ (z : ℕ × List ℕ). BeginsWith rule content z.0 z.1) same r.begins

pub nothing_left : (content : List ℕ) → content ≡ [] → HasContent Text (chars []) content
nothing_left content e = record { pieces = []; fit = refl; written = sym chars-nil; resolved = content_map Text [] ∙ sym e }

-- ---- characters that stand for themselves

record Plain (rule : Rule) (c : ℕ) : Type 0 where
  pub begins : begins_reference rule c ≡ false
  pub return : (c == 13) ≡ false
  pub itself : spaced rule c ≡ c

or_no : (a b : Bool) → not (a || b) ≡ true → (a ≡ false) × (b ≡ false)
or_no true b h = absurd (false≢true h)
or_no false true h = absurd (false≢true h)
or_no false false h = (refl, refl)

not_no : (a : Bool) → not a ≡ true → a ≡ false
not_no true h = absurd (false≢true h)
not_no false h = refl

plain_char : (rule : Rule) (c : ℕ) → not (is_special rule c) ≡ true → Plain rule c
plain_char Text c h = let p = or_no (c == 13) (c == 38) h in record { begins = p.1; return = p.0; itself = refl }
plain_char Literal c h = record { begins = refl; return = not_no (c == 13) h; itself = refl }
plain_char Value c h =
    let p = or_no (c == 9 || c == 10 || c == 13) (c == 38) h in
    let q = or_no (c == 9 || c == 10) (c == 13) (ap not p.0) in
    record { begins = p.1; return = q.1; itself = ap (λ (b : Bool). cond b 32 c) q.0 }

pub plain_prefix : (rule : Rule) (prefix rest cs content : List ℕ) → cs ≡ prefix ++ rest → list_all (λ c. not (is_special rule c)) prefix ≡ true → HasContent rule cs content → LeavesRest rule content prefix rest
plain_prefix rule [] rest cs content e p h = record { tail = content; whole = refl; rest = subst (λ (l : List ℕ). HasContent rule l content) e h }
plain_prefix rule (c ∷ prefix) rest cs content e p h =
    let q = and_parts (not (is_special rule c)) (list_all (λ c. not (is_special rule c)) prefix) p in
    let k = plain_char rule c q.0 in
    let b = plain_first rule cs content c (prefix ++ rest) e k.begins k.return h in
    let so = plain_prefix rule prefix rest (prefix ++ rest) b.tail refl q.1 b.rest in
    record {
      tail = so.tail;
      whole = b.whole ∙ ap (λ (x : ℕ). x ∷ b.tail) k.itself ∙ ap (λ (l : List ℕ). c ∷ l) so.whole;
      rest = so.rest;
    }

-- one of two numbers that are ASCII is ASCII
either_low : (a b : Bool) (c : ℕ) → (a ≡ true → c < 128) → (b ≡ true → c < 128) → (a || b) ≡ true → c < 128
either_low a b c f g h = ⊎_elim f g (or_cases a b h)

one_low : (c d : ℕ) → d < 128 → (c == d) ≡ true → c < 128
one_low c d l h = omega (arith, eqb-true c d h)

-- what stands for anything else is ASCII
pub special_low : (rule : Rule) (c : ℕ) → not (is_special rule c) ≡ false → c < 128
special_low Text c h = either_low (c == 13) (c == 38) c (one_low c 13 (lit< tt)) (one_low c 38 (lit< tt)) (not-false (c == 13 || c == 38) h)
special_low Literal c h = one_low c 13 (lit< tt) (not-false (c == 13) h)
special_low Value c h =
    either_low (c == 9 || c == 10 || c == 13) (c == 38) c
    (either_low (c == 9 || c == 10) (c == 13) c (either_low (c == 9) (c == 10) c (one_low c 9 (lit< tt)) (one_low c 10 (lit< tt))) (one_low c 13 (lit< tt))) (one_low c 38 (lit< tt))
    (not-false (c == 9 || c == 10 || c == 13 || c == 38) h)

prefix_passes : (p : ℕ → Bool) (cs : List ℕ) → list_all p (take (prefix_len p cs) cs) ≡ true
prefix_passes p [] = refl
prefix_passes p (c ∷ cs) = elim (cases_Bool (p c)) [
  | inl t ↦ rw (t, one-add) (and_from (p c) _ t (prefix_passes p cs))
  | inr f ↦ rw f refl
]

-- a prefix whose bytes stand for themselves, and what follows it
pub record PlainSplit (rule : Rule) (bs : List ℕ) (n : ℕ) : Type 0 where
  pub boundary : IsCharBoundary bs n
  pub content : (cs : List ℕ) → HasContent rule (chars bs) cs → LeavesRest rule cs (chars (take n bs)) (chars (drop n bs))

-- a place in the first part of a text is a place in the text, and the characters on both sides of it
pub record NearSplit (near far bs : List ℕ) (n m : ℕ) : Type 0 where
  pub boundary : IsCharBoundary bs n
  pub prefix : chars (take n bs) ≡ take m (chars near)
  pub back : chars (drop n bs) ≡ drop m (chars near) ++ chars far

near_split : (near far bs : List ℕ) (n m : ℕ) → bs ≡ near ++ far → IsUtf8 far → Split near n m → NearSplit near far bs n m
near_split near far bs n m whole v s =
    let within : n ≤ length near = s.boundary.0 in
    let front : take n bs ≡ take n near = ap (take n) whole ∙ take-append-le n near far within in
    let back : drop n bs ≡ drop n near ++ far = ap (drop n) whole ∙ drop-append-le n near far within in
    let le : n ≤ length bs = omega (arith, ap (λ (l : List ℕ). length l) whole, length-append near far) in
    record {
      boundary = IsCharBoundary-from_drop bs n le (subst IsUtf8 (sym back) (IsUtf8-append (drop n near) far s.utf8 v));
      prefix = ap chars front ∙ s.prefix;
      back = ap chars back ∙ chars-append (drop n near) far s.utf8 ∙ ap (λ (l : List ℕ). l ++ chars far) s.back;
    }

-- the longest such prefix of the first part of a text
pub plain_split : (rule : Rule) (bs near : List ℕ) (k n : ℕ) → near ≡ take k bs → IsUtf8 bs → IsCharBoundary bs k → n ≡ prefix_len (λ b. not (is_special rule b)) near → PlainSplit rule bs n
plain_split rule bs near k n e u b is =
    let p : ℕ → Bool = λ b. not (is_special rule b) in
    let m = prefix_len p (chars near) in
    let far = drop k bs in
    let whole : bs ≡ near ++ far = sym (take-append-drop k bs) ∙ ap (λ (l : List ℕ). l ++ far) (sym e) in
    let w : IsUtf8 near = subst IsUtf8 (sym e) (IsUtf8-take bs k u b) in
    let s : NearSplit near far bs n m = near_split near far bs n m whole (IsUtf8-drop bs k u b) (split_stop p (special_low rule) near n w is) in
    let all : chars bs ≡ take m (chars near) ++ (drop m (chars near) ++ chars far) =
    ap chars whole ∙ chars-append near far w ∙ ap (λ (l : List ℕ). l ++ chars far) (sym (take-append-drop m (chars near))) ∙ append_assoc (take m (chars near)) (drop m (chars near)) (chars far) in
    record {
      boundary = s.boundary;
      content = λ cs h.
          subst (λ (l : List ℕ). LeavesRest rule cs l (chars (drop n bs))) (sym s.prefix)
          (subst (λ (l : List ℕ). LeavesRest rule cs (take m (chars near)) l) (sym s.back)
          (plain_prefix rule (take m (chars near)) (drop m (chars near) ++ chars far) (chars bs) cs all (prefix_passes p (chars near)) h));
    }
