-- Longest prefixes, step by step.
use Rattle.std.proofs.Common.{◌≡◌, ℕ, Bool, true, false, ◌⊎◌, inl, inr, List, [], ◌∷◌, ◌++◌, length, take, drop, Option, Some, None, refl, sym, ap, subst, ◌∙◌, ◌<◌, ◌-◌, arith}
use Rattle.std.specs.List.{prefix_len}
use Rattle.std.proofs.Math.Numerals.{one-add}
use Rattle.std.proofs.lemmas.Bool.{cases_Bool, cases_lt, lt-ltb, le-ltb, false≢true, or_left, and_parts, and_from, false_from_ne_true}
use Rattle.std.specs.Str.{IsUtf8, chars}
use Rattle.std.proofs.lemmas.List.{take-append-drop}
use Rattle.xml_chars.proofs.Points.{Cut, cut_of}
use Rattle.std.proofs.lemmas.Option.{same_Some}
use Rattle.xml_model.specs.Chars.{is_name_start, is_name_char, in_ranges}
use Rattle.xml_chars.specs.Wide.{is_ascii_start, is_ascii_name}
use Rattle.std.specs.Prelude.{nat_lt}
use Rattle.xml_chars.specs.Reading.{read_char, ascii_head, begins_name, read_name}
use Rattle.xml_chars.specs.Readers.{one_of, skip, after_run}

pub after_more : (p : ℕ → Bool) (text rest : List ℕ) → skip (one_of p) text ≡ Some rest → after_run p text ≡ after_run p rest
after_more p [] rest e = absurd (cc)
after_more p (c ∷ text) rest e = elim (cases_Bool (p c)) [
  | inl t ↦
      let f : Some text ≡ Some rest = rw t at e in
      let same : text ≡ rest = cc in
      rw (t, one-add) (ap (after_run p) same)
  | inr f ↦ absurd (let n : ◌≡◌ {A = Option (List ℕ)} None (Some rest) = rw f at e in cc)
]

pub after_done : (p : ℕ → Bool) (text : List ℕ) → skip (one_of p) text ≡ None → after_run p text ≡ text
after_done p [] e = refl
after_done p (c ∷ text) e = elim (cases_Bool (p c)) [
  | inl t ↦ absurd (let n : ◌≡◌ {A = Option (List ℕ)} (Some text) None = rw t at e in cc)
  | inr f ↦ rw f refl
]

-- a run of fewer characters first
pub after_part : (p q : ℕ → Bool) → ((c : ℕ) → p c ≡ true → q c ≡ true) → (text : List ℕ) → after_run q text ≡ after_run q (after_run p text)
after_part p q sub [] = refl
after_part p q sub (c ∷ text) = elim (cases_Bool (p c)) [
  | inl t ↦ rw (t, sub c t, one-add, one-add) (after_part p q sub text)
  | inr f ↦ rw f refl
]

-- names of ASCII

pub ascii_is_name : (c : ℕ) → is_ascii_name c ≡ true → is_name_char c ≡ true
ascii_is_name c h = (and_parts (nat_lt c 128) (is_name_char c) h).1

pub ascii_name_first : (text : List ℕ) → after_run is_name_char text ≡ after_run is_name_char (after_run is_ascii_name text)
ascii_name_first text = after_part is_ascii_name is_name_char ascii_is_name text

head_bound : (c : ℕ) (text : List ℕ) → ascii_head (c ∷ text) < 128 → c < 128
unfolding ascii_head
head_bound c text h = elim (cases_lt c 128) [
  | inl lt ↦ lt
  | inr ge ↦ absurd (let n : 128 < 128 = rw (le-ltb c 128 ge) at h in omega arith)
]

ascii_name_stops : (text : List ℕ) → ascii_head (after_run is_ascii_name text) < 128 → after_run is_name_char (after_run is_ascii_name text) ≡ after_run is_ascii_name text
ascii_name_stops [] h = refl
ascii_name_stops (c ∷ text) h = elim (cases_Bool (is_ascii_name c)) [
  | inl t ↦
      let e : after_run is_ascii_name (c ∷ text) ≡ after_run is_ascii_name text = rw (t, one-add) refl in
      ap (after_run is_name_char) e ∙ ascii_name_stops text (subst (λ (l : List ℕ). ascii_head l < 128) e h) ∙ sym e
  | inr f ↦
      let e : after_run is_ascii_name (c ∷ text) ≡ c ∷ text = rw f refl in
      let low : c < 128 = head_bound c text (subst (λ (l : List ℕ). ascii_head l < 128) e h) in
      let no : is_name_char c ≡ false = false_from_ne_true _ (λ t. false≢true (sym f ∙ and_from (nat_lt c 128) (is_name_char c) (lt-ltb c 128 low) t)) in
      let stays : after_run is_name_char (c ∷ text) ≡ c ∷ text = rw no refl in
      ap (after_run is_name_char) e ∙ stays ∙ sym e
]

pub ascii_name_all : (text rest : List ℕ) {h : ℕ} → rest ≡ after_run is_ascii_name text → h ≡ ascii_head rest → h < 128 → rest ≡ after_run is_name_char text
ascii_name_all text rest {h} e head low =
    let l : ascii_head (after_run is_ascii_name text) < 128 = subst (λ (r : List ℕ). ascii_head r < 128) e (subst (λ (k : ℕ). k < 128) head low) in
    e ∙ sym (ascii_name_stops text l) ∙ sym (ascii_name_first text)

-- the first character
pub char_some : (text rest : List ℕ) (c : ℕ) → read_char text ≡ Some (c, rest) → text ≡ c ∷ rest
unfolding read_char
char_some [] rest c e = absurd (cc)
char_some (d ∷ text) rest c e =
    let same = same_Some (d, text) (c, rest) e in
    let x : d ≡ c = ap (λ (z : ℕ × List ℕ). z.0) same in
    let y : text ≡ rest = ap (λ (z : ℕ × List ℕ). z.1) same in
    cc

pub char_none : (text : List ℕ) → read_char text ≡ None → text ≡ []
unfolding read_char
char_none [] e = refl
char_none (d ∷ text) e = absurd (cc)

-- the first character, where it is known whether it is ASCII
pub head_low : (text : List ℕ) → ascii_head text < 128 → (text ≡ []) ⊎ ((c : ℕ) × (rest : List ℕ) × (text ≡ c ∷ rest) × (ascii_head text ≡ c))
unfolding ascii_head
head_low [] h = inl refl
head_low (c ∷ text) h = elim (cases_lt c 128) [
  | inl lt ↦ inr (c, text, refl, rw (lt-ltb c 128 lt) refl)
  | inr ge ↦ absurd (let n : 128 < 128 = rw (le-ltb c 128 ge) at h in omega arith)
]

nil_start : is_ascii_start (ascii_head []) ≡ false
unfolding ascii_head is_name_start in_ranges
nil_start = refl

pub begins_low : (text : List ℕ) → ascii_head text < 128 → begins_name text ≡ is_ascii_start (ascii_head text)
begins_low text h = elim (head_low text h) [
  | inl e ↦ rw (e, nil_start) refl
  | inr q ↦ rw (q.3, q.2) (rw (lt-ltb q.0 128 (subst (λ (k : ℕ). k < 128) q.3 h)) refl)
]

-- ---- names

pub start_is_name : (c : ℕ) → is_name_start c ≡ true → is_name_char c ≡ true
unfolding is_name_char
start_is_name c h = or_left (is_name_start c) _ h

begins_taken : (text : List ℕ) → begins_name (take (prefix_len is_name_char text) text) ≡ begins_name text
begins_taken [] = refl
begins_taken (c ∷ text) = elim (cases_Bool (is_name_char c)) [
  | inl t ↦ rw (t, one-add) refl
  | inr f ↦ rw f (sym (false_from_ne_true _ (λ s. false≢true (sym f ∙ start_is_name c s))))
]

pub no_name : (text : List ℕ) → begins_name text ≡ false → read_name text ≡ None
unfolding read_name
no_name text h = rw (begins_taken text ∙ h) refl

pub name_cut : (bs rest : List ℕ) → IsUtf8 bs → IsUtf8 rest → chars rest ≡ after_run is_name_char (chars bs)
    → Cut bs rest (take (prefix_len is_name_char (chars bs)) (chars bs)) × (begins_name (chars bs) ≡ true → read_name (chars bs) ≡ Some (chars (take (length bs - length rest) bs), chars (drop (length bs - length rest) bs)))
unfolding read_name
name_cut bs rest u v e =
    let m = prefix_len is_name_char (chars bs) in
    let k : Cut bs rest (take m (chars bs)) = cut_of bs rest (take m (chars bs)) u v (sym (take-append-drop m (chars bs)) ∙ ap (λ (l : List ℕ). take m (chars bs) ++ l) (sym e)) in
    (k, λ h. rw (begins_taken (chars bs) ∙ h, k.points, k.back, e) refl)
