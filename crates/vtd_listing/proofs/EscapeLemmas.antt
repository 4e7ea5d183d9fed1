-- How a string is written in a field, by its bytes.
use Rattle.std.proofs.Common.{◌≡◌, ℕ, zero, suc, ◌+◌, ◌<◌, ◌≤◌, Bool, true, false, inl, inr, List, [], ◌∷◌, ◌++◌, length, take, drop, get_or, Some, None, refl}
use Rattle.std.proofs.Common.{sym}
use Rattle.std.proofs.Common.{ap, ap₂, ◌∙◌, arith, append_assoc, Result, Ok, Err, OnOk}
use Rattle.std.specs.Prelude.{◌==◌, not, encode_utf8_all, nat_lt, codes}
use Rattle.std.specs.List.{flat_map, prefix_len, list_all}
use lib.Utf8.{encode}
use Rattle.std.proofs.lemmas.List.{drop_more, append-nil}
use Rattle.std.proofs.lemmas.Grind.{flat_map-append}
use Rattle.std.proofs.lemmas.Bool.{cases_Bool, cases_lt, eqb-true, not-true, lt-ltb, ltb-true, false≢true}
use Rattle.std.proofs.lemmas.Str.{encode_ascii, inside_one, encodes-append, encodes-IsAscii}
use Rattle.memchr.specs.Find.{IsFirstByte, is_byte, is_byte3}
use Rattle.xml_chars.proofs.TextLemmas.{run_from_first}
use Rattle.xml_chars.proofs.NumberLemmas.{all_ascii}
use Rattle.vtd_listing.specs.Escapes.{doubled_char, escaped, escaped_char}

-- over a run of bytes two ways to write them agree
run_as : (f g : ℕ → List ℕ) (p : ℕ → Bool) → ((b : ℕ) → p b ≡ true → f b ≡ g b) → (bs : List ℕ) (n : ℕ) → n ≤ prefix_len p bs
    → flat_map f bs ≡ flat_map g (take n bs) ++ flat_map f (drop n bs)
run_as f g p same bs zero h = refl
run_as f g p same [] (suc n) h = refl
run_as f g p same (b ∷ bs) (suc n) h = elim (cases_Bool (p b)) [
  | inl t ↦
      let k : suc n ≤ 1 + prefix_len p bs = rw t at h in
      ap₂ (λ (xs ys : List ℕ). xs ++ ys) (same b t) (run_as f g p same bs n (omega (arith, k)))
      ∙ sym (append_assoc (g b) (flat_map g (take n bs)) (flat_map f (drop n bs)))
  | inr e ↦ let k : suc n ≤ 0 = rw e at h in absurd (omega (arith, k))
]

plain_same : (xs : List ℕ) → flat_map (λ b. b ∷ []) xs ≡ xs
plain_same [] = refl
plain_same (x ∷ xs) = ap (λ (l : List ℕ). x ∷ l) (plain_same xs)

-- the bytes before the first of some bytes, that byte, and what is after it
pub before_first : (f g : ℕ → List ℕ) (test : ℕ → Bool) → ((b : ℕ) → not (test b) ≡ true → f b ≡ g b) → (bs : List ℕ) (n : ℕ) → IsFirstByte test bs (Some n)
    → flat_map f bs ≡ flat_map g (take n bs) ++ (f (get_or bs n 0) ++ flat_map f (drop (n + 1) bs))
before_first f g test same bs n h =
    let run : prefix_len (λ b. not (test b)) bs ≡ n = run_from_first test bs (Some n) h in
    run_as f g (λ b. not (test b)) same bs n (omega (arith, run))
    ∙ ap (λ (xs : List ℕ). flat_map g (take n bs) ++ flat_map f xs) (drop_more bs n 0 h.0.high)

take_whole : (xs : List ℕ) → take (length xs) xs ≡ xs
take_whole [] = refl
take_whole (x ∷ xs) = ap (λ (l : List ℕ). x ∷ l) (take_whole xs)

drop_whole : (xs : List ℕ) → drop (length xs) xs ≡ []
drop_whole [] = refl
drop_whole (x ∷ xs) = drop_whole xs

pub none_first : (f g : ℕ → List ℕ) (test : ℕ → Bool) → ((b : ℕ) → not (test b) ≡ true → f b ≡ g b) → (bs : List ℕ) → IsFirstByte test bs None
    → flat_map f bs ≡ flat_map g bs
none_first f g test same bs h =
    let run : prefix_len (λ b. not (test b)) bs ≡ length bs = run_from_first test bs None h in
    run_as f g (λ b. not (test b)) same bs (length bs) (omega (arith, run))
    ∙ ap₂ (λ (xs ys : List ℕ). flat_map g xs ++ flat_map f ys) (take_whole bs) (drop_whole bs) ∙ append-nil (flat_map g bs)

-- a byte that is not doubled stands for itself
not_doubled : (b : ℕ) → not (is_byte 92 b) ≡ true → doubled_char b ≡ b ∷ []
not_doubled b h = let f : (b == 92) ≡ false = not-true (b == 92) h in rw f refl

pub doubled_before : (bs : List ℕ) (n : ℕ) → IsFirstByte (is_byte 92) bs (Some n)
    → flat_map doubled_char bs ≡ take n bs ++ (codes "\\\\" ++ flat_map doubled_char (drop (n + 1) bs))
doubled_before bs n h =
    let byte : get_or bs n 0 ≡ 92 = eqb-true (get_or bs n 0) 92 h.1 in
    before_first doubled_char (λ b. b ∷ []) (is_byte 92) not_doubled bs n h
    ∙ ap₂ (λ (xs : List ℕ) (b : ℕ). xs ++ (doubled_char b ++ flat_map doubled_char (drop (n + 1) bs))) (plain_same (take n bs)) byte

pub doubled_none : (bs : List ℕ) → IsFirstByte (is_byte 92) bs None → flat_map doubled_char bs ≡ bs
doubled_none bs h = none_first doubled_char (λ b. b ∷ []) (is_byte 92) not_doubled bs h ∙ plain_same bs

-- a byte that is no tab, line feed or carriage return is doubled, or stands for itself
not_spaced : (b : ℕ) → not (is_byte3 9 10 13 b) ≡ true → escaped_char b ≡ doubled_char b
not_spaced b h = elim (cases_Bool (b == 9)) [
  | inl t ↦ absurd (false≢true (rw t at h))
  | inr f ↦ (elim (cases_Bool (b == 10)) [
    | inl t ↦ absurd (false≢true (rw (f, t) at h))
    | inr g ↦ (elim (cases_Bool (b == 13)) [ inl t ↦ absurd (false≢true (rw (f, g, t) at h)) | inr k ↦ rw (f, g, k) refl ])
  ])
]

pub escaped_before : (bs : List ℕ) (n : ℕ) → IsFirstByte (is_byte3 9 10 13) bs (Some n)
    → flat_map escaped_char bs ≡ flat_map doubled_char (take n bs) ++ (escaped_char (get_or bs n 0) ++ flat_map escaped_char (drop (n + 1) bs))
escaped_before bs n h = before_first escaped_char doubled_char (is_byte3 9 10 13) not_spaced bs n h

pub escaped_none : (bs : List ℕ) → IsFirstByte (is_byte3 9 10 13) bs None → flat_map escaped_char bs ≡ flat_map doubled_char bs
escaped_none bs h = none_first escaped_char doubled_char (is_byte3 9 10 13) not_spaced bs h

-- what is added, and what is left, after a run and what follows it
pub one_run : (old now mid next run mark left whole rest : List ℕ) → now ++ rest ≡ old ++ whole → rest ≡ run ++ (mark ++ left) → mid ≡ now ++ run
    → next ≡ mid ++ mark → next ++ left ≡ old ++ whole
one_run old now mid next run mark left whole rest h r m n =
    ap (λ (xs : List ℕ). xs ++ left) (n ∙ ap (λ (xs : List ℕ). xs ++ mark) m)
    ∙ append_assoc (now ++ run) mark left ∙ append_assoc now run (mark ++ left) ∙ ap (λ (xs : List ℕ). now ++ xs) (sym r) ∙ h

-- a byte of a character beyond ASCII stands for itself
high_char : (b : ℕ) → 128 ≤ b → escaped_char b ≡ b ∷ []
high_char b h = elim (cases_Bool (b == 9)) [
  | inl t ↦ absurd (let e : b ≡ 9 = eqb-true b 9 t in omega arith)
  | inr f ↦ (elim (cases_Bool (b == 10)) [
    | inl t ↦ absurd (let e : b ≡ 10 = eqb-true b 10 t in omega arith)
    | inr g ↦ (elim (cases_Bool (b == 13)) [
      | inl t ↦ absurd (let e : b ≡ 13 = eqb-true b 13 t in omega arith)
      | inr k ↦ (elim (cases_Bool (b == 92)) [
        | inl t ↦ absurd (let e : b ≡ 92 = eqb-true b 92 t in omega arith)
        | inr l ↦ rw (f, g, k, l) refl
      ])
    ])
  ])
]

high_run : (bs : List ℕ) → ((k : ℕ) → k < length bs → 128 ≤ get_or bs k 0) → flat_map escaped_char bs ≡ bs
high_run [] h = refl
high_run (b ∷ bs) h =
    ap₂ (λ (xs ys : List ℕ). xs ++ ys) (high_char b (h 0 (omega arith))) (high_run bs (λ k l. h (suc k) (omega (arith, l))))

high_bytes : (c : ℕ) → 128 ≤ c → (k : ℕ) → k < length (encode c) → 128 ≤ get_or (encode c) k 0
high_bytes c h k l = elim (cases_lt (get_or (encode c) k 0) 128) [
  | inl low ↦ absurd (let e = inside_one c [] (encode c) k (sym (append-nil (encode c))) l low in omega (arith, e))
  | inr high ↦ high
]

is_low : ℕ → Bool
is_low b = nat_lt b 128

low_char : (c : ℕ) → c < 128 → list_all is_low (escaped_char c) ≡ true
unfolding is_low
low_char c h = elim (cases_Bool (c == 9)) [
  | inl t ↦ rw t refl
  | inr f ↦ (elim (cases_Bool (c == 10)) [
    | inl t ↦ rw (f, t) refl
    | inr g ↦ (elim (cases_Bool (c == 13)) [
      | inl t ↦ rw (f, g, t) refl
      | inr k ↦ (elim (cases_Bool (c == 92)) [ inl t ↦ rw (f, g, k, t) refl | inr l ↦ rw (f, g, k, l) (rw (lt-ltb c 128 h) refl) ])
    ])
  ])
]

low_is : (b : ℕ) → is_low b ≡ true → b < 128
unfolding is_low
low_is b h = ltb-true b 128 h

-- what is escaped is ASCII, which is a byte each
one_char : (c : ℕ) → flat_map escaped_char (encode c) ≡ encode_utf8_all (escaped_char c)
one_char c = elim (cases_lt c 128) [
  | inl low ↦
      ap (λ (bs : List ℕ). flat_map escaped_char bs) (encode_ascii c low) ∙ append-nil (escaped_char c)
      ∙ sym (encodes-IsAscii (escaped_char c) (all_ascii is_low low_is (escaped_char c) (low_char c low)))
  | inr high ↦
      high_run (encode c) (high_bytes c high) ∙ sym (append-nil (encode c)) ∙ ap (λ (cs : List ℕ). encode_utf8_all cs) (sym (high_char c high))
]

pub escaped_bytes : (cs : List ℕ) → flat_map escaped_char (encode_utf8_all cs) ≡ encode_utf8_all (escaped cs)
escaped_bytes [] = refl
escaped_bytes (c ∷ cs) =
    flat_map-append escaped_char (encode c) (encode_utf8_all cs) ∙ ap₂ (λ (xs ys : List ℕ). xs ++ ys) (one_char c) (escaped_bytes cs)
    ∙ sym (encodes-append (escaped_char c) (escaped cs))

-- what is added at last
pub last_run : {F : Type 0} (r : Result (Unit {0}) F) (old now next run left whole : List ℕ) → now ++ left ≡ old ++ whole → left ≡ run
    → OnOk r (next ≡ now ++ run) → OnOk r (next ≡ old ++ whole)
last_run (Ok x) old now next run left whole h e o = o ∙ ap (λ (xs : List ℕ). now ++ xs) (sym e) ∙ h
last_run (Err x) old now next run left whole h e o = tt
