-- Bytes in UTF-8 and the characters that they stand for.
use Rattle.std.proofs.Common.{◌≡◌, ℕ, suc, ◌+◌, ◌-◌, ◌<◌, ◌≤◌, Bool, true, false, inl, inr, List, [], ◌∷◌, ◌++◌, length, take, drop, get_or, refl, sym, ap, subst, ◌∙◌, arith}
use Rattle.std.specs.Str.{IsUtf8, chars, IsCharBoundary}
use Rattle.std.specs.List.{prefix_len}
use lib.Utf8.{scalar, scalars, encode, encodes}
use Rattle.std.proofs.lemmas.List.{take_at, drop_at, length-append, drop-drop, get_or_append_left}
use Rattle.std.proofs.lemmas.List.Sums.{prefix_len-drop_no}
use Rattle.std.proofs.Math.Numerals.{one-add}
use Rattle.std.proofs.lemmas.Bool.{cases_Bool, false≢true, and_parts, and_from, cases_lt, false_from_ne_true, true_from_ne_false}
use Rattle.std.proofs.lemmas.Str.{chars-encodes, encodes-append, encodes-chars, encode_ascii, length-encode, len_utf8_bounds, byte_from_char, char_from_byte, chars_past_char, IsUtf8-past_char, IsCharBoundary-at_seam, scalars-chars, inside_one}

pub encode_pos : (c : ℕ) → 0 < length (encode c)
encode_pos c = omega (arith, length-encode c, (len_utf8_bounds c).0)

-- the first character, of ASCII
pub record AsciiFirst (b : ℕ) (bs : List ℕ) : Type 0 where
  pub points : chars (b ∷ bs) ≡ b ∷ chars bs
  pub rest : IsUtf8 bs

-- the first character, of any kind
pub record First (bs : List ℕ) : Type 0 where
  pub char : ℕ
  pub rest : List ℕ
  pub bytes : bs ≡ encode char ++ rest
  pub points : chars bs ≡ char ∷ chars rest
  pub utf8 : IsUtf8 rest

pub first_of : (bs : List ℕ) → IsUtf8 bs → 0 < length bs → First bs
first_of bs (cs, (s, e)) lt = go cs s e
  where
    go : (cs : List ℕ) → scalars cs ≡ true → encodes cs ≡ bs → First bs
    go [] s e = absurd (omega (arith, ap (λ (l : List ℕ). length l) e))
    go (c ∷ cs) s e =
        let u : IsUtf8 bs = (c ∷ cs, (s, e)) in
        record {
          char = c;
          rest = encodes cs;
          bytes = sym e;
          points = chars_past_char bs (encodes cs) c u (sym e);
          utf8 = IsUtf8-past_char bs (encodes cs) c u (sym e);
        }

pub wide_first : (bs : List ℕ) (f : First bs) → 128 ≤ get_or bs 0 0 → 128 ≤ f.char
wide_first bs f h = elim (cases_lt f.char 128) [
  | inl lt ↦ absurd (omega (arith, byte_from_char bs f.rest f.char f.bytes lt))
  | inr ge ↦ ge
]

pub ascii_char : (bs : List ℕ) (f : First bs) → get_or bs 0 0 < 128 → 0 < length bs → f.char ≡ get_or bs 0 0
ascii_char bs f h lt = char_from_byte bs f.rest f.char f.bytes h lt

-- a text cut where the rest is left
pub record Cut (text rest w : List ℕ) : Type 0 where
  pub whole : text ≡ encodes w ++ rest
  pub len : length text - length rest ≡ length (encodes w)
  pub shorter : length rest ≤ length text
  pub prefix : take (length text - length rest) text ≡ encodes w
  pub back : drop (length text - length rest) text ≡ rest
  pub points : chars (take (length text - length rest) text) ≡ w
  pub boundary : IsCharBoundary text (length text - length rest)

scalars_prefix : (w v : List ℕ) → scalars (w ++ v) ≡ true → scalars w ≡ true
scalars_prefix [] v s = refl
scalars_prefix (c ∷ w) v s = let q = and_parts (scalar c) (scalars (w ++ v)) s in and_from (scalar c) (scalars w) q.0 (scalars_prefix w v q.1)

pub cut_of : (text rest w : List ℕ) → IsUtf8 text → IsUtf8 rest → chars text ≡ w ++ chars rest → Cut text rest w
cut_of text rest w u v e =
    let whole : text ≡ encodes w ++ rest = sym (encodes-chars text u) ∙ ap encodes e ∙ encodes-append w (chars rest) ∙ ap (λ (l : List ℕ). encodes w ++ l) (encodes-chars rest v) in
    let sum : length text ≡ length (encodes w) + length rest = ap (λ (l : List ℕ). length l) whole ∙ length-append (encodes w) rest in
    let n : length text - length rest ≡ length (encodes w) = omega arith in
    let scalar_w : scalars w ≡ true = scalars_prefix w (chars rest) (ap scalars (sym e) ∙ scalars-chars text u) in
    let prefix : take (length text - length rest) text ≡ encodes w = ap (λ (k : ℕ). take k text) n ∙ ap (λ (l : List ℕ). take (length (encodes w)) l) whole ∙ take_at (encodes w) rest (length (encodes w)) refl in
    record {
      whole = whole;
      len = n;
      shorter = omega arith;
      prefix = prefix;
      back = ap (λ (k : ℕ). drop k text) n ∙ ap (λ (l : List ℕ). drop (length (encodes w)) l) whole ∙ drop_at (encodes w) rest (length (encodes w)) refl;
      points = ap chars prefix ∙ chars-encodes w scalar_w;
      boundary = subst (λ (k : ℕ). IsCharBoundary text k) (sym n) (IsCharBoundary-at_seam text (encodes w) rest whole v);
    }

-- a run of ASCII characters is a run of bytes
no_run : (p : ℕ → Bool) (xs : List ℕ) → 0 < length xs → p (get_or xs 0 0) ≡ false → prefix_len p xs ≡ 0
no_run p xs lt h = prefix_len-drop_no p xs 0 0 lt h

pub record AsciiRun (p : ℕ → Bool) (cs : List ℕ) : Type 0 where
  pub len : prefix_len p (encodes cs) ≡ prefix_len p cs
  pub rest : drop (prefix_len p cs) (encodes cs) ≡ encodes (drop (prefix_len p cs) cs)

pub ascii_run : (p : ℕ → Bool) → ((b : ℕ) → p b ≡ true → b < 128) → (cs : List ℕ) → AsciiRun p cs
ascii_run p low [] = record { len = refl; rest = refl }
ascii_run p low (c ∷ cs) = elim (cases_Bool (p c)) [
  | inl t ↦
      let so = ascii_run p low cs in
      let e : encodes (c ∷ cs) ≡ c ∷ encodes cs = ap (λ (l : List ℕ). l ++ encodes cs) (encode_ascii c (low c t)) in
      record {
        len = rw (e, t, so.len) refl;
        rest = rw (e, t, one-add) so.rest;
      }
  | inr f ↦
      let lt : 0 < length (encode c ++ encodes cs) = omega (arith, length-append (encode c) (encodes cs), encode_pos c) in
      let stop : p (get_or (encode c ++ encodes cs) 0 0) ≡ false = false_from_ne_true _ (λ t.
      let same : c ≡ get_or (encode c ++ encodes cs) 0 0 = char_from_byte (encode c ++ encodes cs) (encodes cs) c refl (low _ t) lt in
      false≢true (sym f ∙ ap p same ∙ t)) in
      record { len = rw (no_run p (encode c ++ encodes cs) lt stop, f) refl; rest = rw f refl }
]

-- a run up to a character of ASCII is a run of bytes
pub prefix_len-append : (p : ℕ → Bool) (xs ys : List ℕ) → ((k : ℕ) → k < length xs → p (get_or xs k 0) ≡ true) → prefix_len p (xs ++ ys) ≡ length xs + prefix_len p ys
prefix_len-append p [] ys h = omega arith
prefix_len-append p (x ∷ xs) ys h = rw (h 0 (omega arith), prefix_len-append p xs ys (λ k lt. h (suc k) (omega arith))) (omega arith)

pub record StopRun (p : ℕ → Bool) (cs : List ℕ) : Type 0 where
  pub len : prefix_len p (encodes cs) ≡ length (encodes (take (prefix_len p cs) cs))
  pub rest : drop (prefix_len p (encodes cs)) (encodes cs) ≡ encodes (drop (prefix_len p cs) cs)

-- a byte of a character that passes, passes
byte_passes : (p : ℕ → Bool) → ((b : ℕ) → p b ≡ false → b < 128) → (c : ℕ) (rest : List ℕ) → p c ≡ true → (k : ℕ) → k < length (encode c) → p (get_or (encode c) k 0) ≡ true
byte_passes p low c rest h k lt = true_from_ne_false _ (λ f.
    let at : get_or (encode c ++ rest) k 0 ≡ get_or (encode c) k 0 = get_or_append_left (encode c) rest 0 k lt in
    let b : get_or (encode c ++ rest) k 0 < 128 = omega (arith, low (get_or (encode c) k 0) f) in
    let same : c ≡ get_or (encode c) k 0 = inside_one c rest (encode c ++ rest) k refl lt b ∙ at in
    false≢true (sym f ∙ ap p (sym same) ∙ h))

stop_more : (p : ℕ → Bool) → ((b : ℕ) → p b ≡ false → b < 128) → (c : ℕ) (cs : List ℕ) → p c ≡ true → StopRun p cs → StopRun p (c ∷ cs)
stop_more p low c cs t so =
    let n : prefix_len p (encode c ++ encodes cs) ≡ length (encode c) + prefix_len p (encodes cs) = prefix_len-append p (encode c) (encodes cs) (byte_passes p low c (encodes cs) t) in
    record {
      len = rw (t, one-add) (n ∙ ap (λ (k : ℕ). length (encode c) + k) so.len ∙ sym (length-append (encode c) (encodes (take (prefix_len p cs) cs))));
      rest = rw (t, one-add) (ap (λ (k : ℕ). drop k (encode c ++ encodes cs)) n ∙ sym (drop-drop (prefix_len p (encodes cs)) (length (encode c)) (encode c ++ encodes cs)) ∙ ap (drop (prefix_len p (encodes cs))) (drop_at (encode c) (encodes cs) (length (encode c)) refl) ∙ so.rest);
    }

stop_here : (p : ℕ → Bool) → ((b : ℕ) → p b ≡ false → b < 128) → (c : ℕ) (cs : List ℕ) → p c ≡ false → StopRun p (c ∷ cs)
stop_here p low c cs f =
    let e : encode c ++ encodes cs ≡ c ∷ encodes cs = ap (λ (l : List ℕ). l ++ encodes cs) (encode_ascii c (low c f)) in
    record { len = rw (e, f) refl; rest = rw (e, f) (rw e refl) }

pub stop_run : (p : ℕ → Bool) → ((b : ℕ) → p b ≡ false → b < 128) → (cs : List ℕ) → StopRun p cs
stop_run p low [] = record { len = refl; rest = refl }
stop_run p low (c ∷ cs) = elim (cases_Bool (p c)) [ inl t ↦ stop_more p low c cs t (stop_run p low cs) | inr f ↦ stop_here p low c cs f ]
