-- What the functions on texts need.
use Rattle.std.proofs.Common.{◌≡◌, ℕ, ◌-◌, ◌<◌, ◌≤◌, Bool, true, false, inl, inr, List, [], ◌∷◌, ◌++◌, length, take, drop, get_or, Option, Some, None, refl, sym, ap, subst, ◌∙◌, arith}
use Rattle.std.specs.Str.{IsUtf8, chars, IsCharBoundary}
use Rattle.std.specs.List.{prefix_len, list_all, starts_with}
use Rattle.std.specs.Prelude.{nat_lt, nat_eq, ◌&&◌, not, unwrap_or}
use Rattle.memchr.specs.Find.{IsFirstByte}
use Rattle.xml_model.specs.Chars.{begins}
use lib.Utf8.{scalar, scalars, encode, encodes}
use Rattle.std.proofs.lemmas.List.{take-append-drop, length-append, length-drop, nil_from_length}
use Rattle.std.proofs.lemmas.List.Sums.{prefix_len-le-length, prefix_len_is}
use Rattle.std.proofs.lemmas.Bool.{lt-ltb, le-ltb, ltb-true, ne_eqb, false≢true, cases_lt, and_parts}
use Rattle.std.proofs.lemmas.Str.{chars-encodes, encodes-chars, chars_past_char, chars-nil, scalars-chars, encode_ascii, char_from_byte}
use Rattle.xml_chars.specs.Readers.{run, word}
use Rattle.xml_chars.specs.Reading.{ascii_head, read_char}
use Rattle.xml_chars.proofs.Points.{first_of, wide_first, ascii_char, ascii_run, stop_run, encode_pos, Cut, cut_of}
use Rattle.xml_chars.proofs.Readers.{begins_split}

pub head_empty : (bs : List ℕ) → length bs ≡ 0 → ascii_head (chars bs) ≡ 0
unfolding ascii_head
head_empty bs e = rw (nil_from_length bs e, chars-nil) refl

pub head_ascii : (bs : List ℕ) → IsUtf8 bs → 0 < length bs → get_or bs 0 0 < 128 → ascii_head (chars bs) ≡ get_or bs 0 0
unfolding ascii_head
head_ascii bs u lt low =
    let f = first_of bs u lt in
    let same = ascii_char bs f low lt in
    rw (f.points, lt-ltb f.char 128 (omega arith)) same

pub head_wide : (bs : List ℕ) → IsUtf8 bs → 0 < length bs → 128 ≤ get_or bs 0 0 → ascii_head (chars bs) ≡ 128
unfolding ascii_head
head_wide bs u lt high =
    let f = first_of bs u lt in
    rw (f.points, le-ltb f.char 128 (wide_first bs f high)) refl

pub step_reads : (bs rest : List ℕ) (c : ℕ) → IsUtf8 bs → bs ≡ encode c ++ rest → read_char (chars bs) ≡ Some (c, chars rest)
unfolding read_char
step_reads bs rest c u e = rw (chars_past_char bs rest c u e) refl

pub scalars_back : (w v : List ℕ) → scalars (w ++ v) ≡ true → scalars v ≡ true
scalars_back [] v s = s
scalars_back (c ∷ w) v s = scalars_back w v (and_parts (scalar c) (scalars (w ++ v)) s).1

-- some characters of the start of a text, and what is left
pub record Split (bs : List ℕ) (n m : ℕ) : Type 0 where
  pub boundary : IsCharBoundary bs n
  pub prefix : chars (take n bs) ≡ take m (chars bs)
  pub back : chars (drop n bs) ≡ drop m (chars bs)
  pub utf8 : IsUtf8 (drop n bs)

pub split_at : (bs : List ℕ) (n m : ℕ) → IsUtf8 bs → n ≤ length bs → drop n bs ≡ encodes (drop m (chars bs)) → Split bs n m
split_at bs n m u within e =
    let cs = chars bs in
    let whole : take m cs ++ drop m cs ≡ cs = take-append-drop m cs in
    let s : scalars (drop m cs) ≡ true = scalars_back (take m cs) (drop m cs) (ap scalars whole ∙ scalars-chars bs u) in
    let back : chars (drop n bs) ≡ drop m cs = ap chars e ∙ chars-encodes (drop m cs) s in
    let v : IsUtf8 (drop n bs) = (drop m cs, (s, sym e)) in
    let k : Cut bs (drop n bs) (take m cs) = cut_of bs (drop n bs) (take m cs) u v (sym whole ∙ ap (λ (l : List ℕ). take m cs ++ l) (sym back)) in
    let same : length bs - length (drop n bs) ≡ n = omega (arith, length-drop n bs) in
    record {
      boundary = subst (λ (i : ℕ). IsCharBoundary bs i) same k.boundary;
      prefix = ap (λ (i : ℕ). chars (take i bs)) (sym same) ∙ k.points;
      back = back;
      utf8 = v;
    }

-- a run of ASCII
pub split_run : (p : ℕ → Bool) → ((b : ℕ) → p b ≡ true → b < 128) → (bs : List ℕ) (n : ℕ) → IsUtf8 bs → n ≡ prefix_len p bs → Split bs n (prefix_len p (chars bs))
split_run p low bs n u is =
    let r = ascii_run p low (chars bs) in
    let e : encodes (chars bs) ≡ bs = encodes-chars bs u in
    let same : n ≡ prefix_len p (chars bs) = is ∙ ap (prefix_len p) (sym e) ∙ r.len in
    let within : n ≤ length bs = subst (λ (k : ℕ). k ≤ length bs) (sym is) (prefix_len-le-length p bs) in
    split_at bs n (prefix_len p (chars bs)) u within (ap (λ (k : ℕ). drop k bs) same ∙ ap (λ (l : List ℕ). drop (prefix_len p (chars bs)) l) (sym e) ∙ r.rest)

pub run_of_split : (p : ℕ → Bool) (bs prefix back : List ℕ) (n : ℕ) → Split bs n (prefix_len p (chars bs)) → prefix ≡ take n bs → back ≡ drop n bs → run p (chars bs) ≡ Some (chars prefix, chars back)
run_of_split p bs prefix back n s f b = rw (f, b, s.prefix, s.back) refl

-- ---- words of ASCII

pub pointwise-begins : (w bs : List ℕ) → starts_with nat_eq bs w ≡ begins w bs
pointwise-begins [] bs = refl
pointwise-begins (c ∷ w) [] = refl
pointwise-begins (c ∷ w) (d ∷ bs) = ap (λ (b : Bool). nat_eq c d && b) (pointwise-begins w bs)

pub record Word (w cs : List ℕ) : Type 0 where
  pub same : begins w (encodes cs) ≡ begins w cs
  pub rest : begins w cs ≡ true → drop (length w) (encodes cs) ≡ encodes (drop (length w) cs)

begins_no : (c : ℕ) (w xs : List ℕ) → nat_eq c (get_or xs 0 0) ≡ false → 0 < length xs → begins (c ∷ w) xs ≡ false
begins_no c w [] e lt = refl
begins_no c w (x ∷ xs) e lt = rw e refl

word_step : (b c : ℕ) (w cs : List ℕ) → b < 128 → Word w cs → Word (b ∷ w) (c ∷ cs)
word_step b c w cs low so = elim (cases_lt c 128) [
  | inl l ↦
      let e : encodes (c ∷ cs) ≡ c ∷ encodes cs = ap (λ (l : List ℕ). l ++ encodes cs) (encode_ascii c l) in
      record {
        same = rw (e, so.same) refl;
        rest = λ h. rw e (so.rest (and_parts (nat_eq b c) (begins w cs) h).1);
      }
  | inr h ↦
      let ne : nat_eq b c ≡ false = ne_eqb b c (λ e. omega arith) in
      let lt : 0 < length (encode c ++ encodes cs) = omega (arith, length-append (encode c) (encodes cs), encode_pos c) in
      let other : nat_eq b (get_or (encode c ++ encodes cs) 0 0) ≡ false = ne_eqb _ _ (λ e.
      let same : c ≡ get_or (encode c ++ encodes cs) 0 0 = char_from_byte (encode c ++ encodes cs) (encodes cs) c refl (omega arith) lt in
      omega arith) in
      record {
        same = begins_no b w (encode c ++ encodes cs) other lt ∙ sym (ap (λ (x : Bool). x && begins w cs) ne);
        rest = λ h. absurd (false≢true (sym ne ∙ (and_parts (nat_eq b c) (begins w cs) h).0));
      }
]

pub word_run : (w cs : List ℕ) → list_all (λ b. nat_lt b 128) w ≡ true → Word w cs
word_run [] cs h = record { same = refl; rest = λ h. refl }
word_run (b ∷ w) [] h = record { same = refl; rest = λ h. absurd (false≢true h) }
word_run (b ∷ w) (c ∷ cs) h =
    let q = and_parts (nat_lt b 128) (list_all (λ b. nat_lt b 128) w) h in
    word_step b c w cs (ltb-true b 128 q.0) (word_run w cs q.1)

pub record WordOf (w bs : List ℕ) : Type 0 where
  pub no : starts_with nat_eq bs w ≡ false → word w (chars bs) ≡ None
  pub yes : starts_with nat_eq bs w ≡ true → Split bs (length w) (length w) × (word w (chars bs) ≡ Some (tt, chars (drop (length w) bs)))

pub word_of : (w bs : List ℕ) → list_all (λ b. nat_lt b 128) w ≡ true → IsUtf8 bs → WordOf w bs
word_of w bs h u =
    let r = word_run w (chars bs) h in
    let e : encodes (chars bs) ≡ bs = encodes-chars bs u in
    let same : starts_with nat_eq bs w ≡ begins w (chars bs) = pointwise-begins w bs ∙ ap (begins w) (sym e) ∙ r.same in
    record {
      no = λ f. rw (sym same ∙ f) refl;
      yes = λ t.
          let b : begins w (chars bs) ≡ true = sym same ∙ t in
          let bytes : bs ≡ w ++ drop (length w) bs = begins_split w bs (sym (pointwise-begins w bs) ∙ t) in
          let within : length w ≤ length bs = omega (arith, ap (λ (l : List ℕ). length l) bytes, length-append w (drop (length w) bs)) in
          let s : Split bs (length w) (length w) = split_at bs (length w) (length w) u within (ap (λ (l : List ℕ). drop (length w) l) (sym e) ∙ r.rest b) in
          (s, rw (b, s.back) refl);
    }

-- ---- a run up to ASCII

pub split_stop : (p : ℕ → Bool) → ((b : ℕ) → p b ≡ false → b < 128) → (bs : List ℕ) (n : ℕ) → IsUtf8 bs → n ≡ prefix_len p bs → Split bs n (prefix_len p (chars bs))
split_stop p low bs n u is =
    let r = stop_run p low (chars bs) in
    let e : encodes (chars bs) ≡ bs = encodes-chars bs u in
    let within : n ≤ length bs = subst (λ (k : ℕ). k ≤ length bs) (sym is) (prefix_len-le-length p bs) in
    let back : drop (prefix_len p bs) bs ≡ encodes (drop (prefix_len p (chars bs)) (chars bs)) = subst (λ (l : List ℕ). drop (prefix_len p l) l ≡ encodes (drop (prefix_len p (chars bs)) (chars bs))) e r.rest in
    split_at bs n (prefix_len p (chars bs)) u within (ap (λ (k : ℕ). drop k bs) is ∙ back)

-- the answer of memchr as the length of a run
not_true : (b : Bool) → (b ≡ true → ⊥) → not b ≡ true
not_true true h = absurd (h refl)
not_true false h = refl

pub run_from_first : (test : ℕ → Bool) (hay : List ℕ) (r : Option ℕ) → IsFirstByte test hay r → prefix_len (λ b. not (test b)) hay ≡ unwrap_or r (length hay)
run_from_first test hay None h =
    prefix_len_is (λ b. not (test b)) hay (length hay) 0 (omega arith)
    (λ k l. not_true (test (get_or hay k 0)) (h k (omega arith) l)) (λ l. absurd (omega arith))
run_from_first test hay (Some n) h =
    prefix_len_is (λ b. not (test b)) hay n 0 (let l : n < length hay = h.0.high in omega arith)
    (λ k l. not_true (test (get_or hay k 0)) (h.0.before k (omega arith) l)) (λ l. ap not h.1)
