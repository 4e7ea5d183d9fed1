-- Runs of plain characters are runs of their bytes.
use Rattle.std.proofs.Common.{◌≡◌, ℕ, suc, zero, ◌+◌, ◌-◌, ◌<◌, ◌≤◌, ◌/◌, ◌%◌, Bool, true, false, ◌⊎◌, inl, inr, cond, List, [], ◌∷◌, ◌++◌, length, take, drop, get_or, min, refl, sym, ap, subst, ◌∙◌, arith, lit<, one-add}
use Rattle.std.specs.Prelude.{◌&&◌, ◌||◌, ◌==◌, not, nat_le}
use Rattle.std.specs.Str.{IsUtf8, chars}
use Rattle.std.specs.List.{prefix_len, list_all}
use lib.Utf8.{scalar, scalars, scalar_cases, encode, encodes}
use Rattle.std.proofs.Math.Seq.{take-length}
use Rattle.std.proofs.lemmas.List.{length-append, length-drop, length-take-le, take-append-drop, drop-drop, drop_at}
use Rattle.std.proofs.lemmas.List.Sums.{prefix_len-le-length, prefix_len-drop_no}
use Rattle.std.proofs.lemmas.Bool.{cases_Bool, cases_lt, false≢true, and_parts, and_from, or_left, or_right, lt-ltb, le-ltb, le-leb, lt-leb, leb-true, ne_eqb, not-true, not_from_false, false_from_ne_true}
use Rattle.std.proofs.lemmas.Str.{encodes-chars, scalars-chars, encode_ascii}
use Rattle.xml_model.specs.Chars.{is_char, in_ranges}
use Rattle.xml_chars.proofs.Points.{encode_pos, prefix_len-append}
use Rattle.xml_chars.proofs.TextLemmas.{Split, split_at}
use Rattle.xml_items.specs.Plain.{is_plain_char, is_plain_text, is_plain_value, is_plain_byte, is_run_byte, is_text_byte, is_value_byte, is_char_byte}

-- a test of characters, and one of bytes
pub record Agrees (p q : ℕ → Bool) (c : ℕ) : Type 0 where
  pub goes : p c ≡ true → (k : ℕ) → k < length (encode c) → q (get_or (encode c) k 0) ≡ true
  pub stops : p c ≡ false → q (get_or (encode c) 0 0) ≡ false

first_byte : (c : ℕ) (rest : List ℕ) → get_or (encode c ++ rest) 0 0 ≡ get_or (encode c) 0 0
first_byte c rest = go (encode c) (encode_pos c)
  where
    go : (xs : List ℕ) → 0 < length xs → get_or (xs ++ rest) 0 0 ≡ get_or xs 0 0
    go [] h = absurd (omega arith)
    go (x ∷ xs) h = refl

byte_run : (p q : ℕ → Bool) → ((c : ℕ) → scalar c ≡ true → Agrees p q c) → (cs : List ℕ) → scalars cs ≡ true → drop (prefix_len q (encodes cs)) (encodes cs) ≡ encodes (drop (prefix_len p cs) cs)
byte_run p q agrees [] s = refl
byte_run p q agrees (c ∷ cs) s =
    let h = and_parts (scalar c) (scalars cs) s in
    let a = agrees c h.0 in
    elim (cases_Bool (p c)) [
      | inl t ↦
          let n : prefix_len q (encode c ++ encodes cs) ≡ length (encode c) + prefix_len q (encodes cs) = prefix_len-append q (encode c) (encodes cs) (a.goes t) in
          let so = byte_run p q agrees cs h.1 in
          rw (t, one-add) (ap (λ (k : ℕ). drop k (encode c ++ encodes cs)) n ∙ sym (drop-drop (prefix_len q (encodes cs)) (length (encode c)) (encode c ++ encodes cs)) ∙ ap (drop (prefix_len q (encodes cs))) (drop_at (encode c) (encodes cs) (length (encode c)) refl) ∙ so)
      | inr f ↦
          let lt : 0 < length (encode c ++ encodes cs) = omega (arith, length-append (encode c) (encodes cs), encode_pos c) in
          let none : prefix_len q (encode c ++ encodes cs) ≡ 0 = prefix_len-drop_no q (encode c ++ encodes cs) 0 0 lt (ap q (first_byte c (encodes cs)) ∙ a.stops f) in
          rw (f, none) refl
    ]

pub split_bytes : (p q : ℕ → Bool) → ((c : ℕ) → scalar c ≡ true → Agrees p q c) → (bs : List ℕ) (n : ℕ) → IsUtf8 bs → n ≡ prefix_len q bs → Split bs n (prefix_len p (chars bs))
split_bytes p q agrees bs n u is =
    let e : encodes (chars bs) ≡ bs = encodes-chars bs u in
    let within : n ≤ length bs = subst (λ (k : ℕ). k ≤ length bs) (sym is) (prefix_len-le-length q bs) in
    let back : drop (prefix_len q bs) bs ≡ encodes (drop (prefix_len p (chars bs)) (chars bs)) = subst (λ (l : List ℕ). drop (prefix_len q l) l ≡ encodes (drop (prefix_len p (chars bs)) (chars bs))) e (byte_run p q agrees (chars bs) (scalars-chars bs u)) in
    split_at bs n (prefix_len p (chars bs)) u within (ap (λ (k : ℕ). drop k bs) is ∙ back)

-- ---- the bytes of characters that are not ASCII

abbrev IsMarked : ℕ → Type 0
IsMarked c = (61440 ≤ c) × (c ≤ 65535)

abbrev IsOther : ℕ → Type 0
IsOther b = (128 ≤ b) × (b < 239 ⊎ 239 < b)

inner : (c : ℕ) → IsOther (128 + c % 64)
inner c = (omega arith, inl (omega arith))

two_is : (c : ℕ) → 128 ≤ c → c < 2048 → encode c ≡ (192 + c / 64) ∷ (128 + c % 64) ∷ []
unfolding encode
two_is c h two = rw (le-ltb c 128 h, lt-ltb c 2048 two) refl

three_is : (c : ℕ) → 2048 ≤ c → c < 65536 → encode c ≡ (224 + c / 4096) ∷ (128 + (c / 64) % 64) ∷ (128 + c % 64) ∷ []
unfolding encode
three_is c more three = let low : 128 ≤ c = omega arith in rw (le-ltb c 128 low, le-ltb c 2048 more, lt-ltb c 65536 three) refl

four_is : (c : ℕ) → 65536 ≤ c → encode c ≡ (240 + c / 262144) ∷ (128 + (c / 4096) % 64) ∷ (128 + (c / 64) % 64) ∷ (128 + c % 64) ∷ []
unfolding encode
four_is c four = let low : 128 ≤ c = omega arith in let more : 2048 ≤ c = omega arith in rw (le-ltb c 128 low, le-ltb c 2048 more, le-ltb c 65536 four) refl

by_two : (c k : ℕ) → c < 2048 → k < 2 → IsOther (get_or ((192 + c / 64) ∷ (128 + c % 64) ∷ []) k 0)
by_two c zero two lt = (omega arith, inl (omega arith))
by_two c (suc zero) two lt = inner c
by_two c (suc (suc k)) two lt = absurd (omega arith)

three_first : (c : ℕ) → (IsMarked c → ⊥) → c < 65536 → (c / 4096 < 15) ⊎ (15 < c / 4096)
three_first c none three = elim (cases_lt (c / 4096) 15) [
  | inl lt ↦ inl lt
  | inr ge ↦ absurd (none (omega arith, omega arith))
]

by_three : (c k : ℕ) → (IsMarked c → ⊥) → c < 65536 → k < 3 → IsOther (get_or ((224 + c / 4096) ∷ (128 + (c / 64) % 64) ∷ (128 + c % 64) ∷ []) k 0)
by_three c zero none three lt = (omega arith, elim (three_first c none three) [ inl l ↦ inl (omega arith) | inr l ↦ inr (omega arith) ])
by_three c (suc zero) none three lt = inner (c / 64)
by_three c (suc (suc zero)) none three lt = inner c
by_three c (suc (suc (suc k))) none three lt = absurd (omega arith)

by_four : (c k : ℕ) → k < 4 → IsOther (get_or ((240 + c / 262144) ∷ (128 + (c / 4096) % 64) ∷ (128 + (c / 64) % 64) ∷ (128 + c % 64) ∷ []) k 0)
by_four c zero lt = (omega arith, inr (omega arith))
by_four c (suc zero) lt = inner (c / 4096)
by_four c (suc (suc zero)) lt = inner (c / 64)
by_four c (suc (suc (suc zero))) lt = inner c
by_four c (suc (suc (suc (suc k)))) lt = absurd (omega arith)

wide_bytes : (c : ℕ) → 128 ≤ c → (IsMarked c → ⊥) → (k : ℕ) → k < length (encode c) → IsOther (get_or (encode c) k 0)
wide_bytes c h none k lt = elim (cases_lt c 2048) [
  | inl two ↦ let e = two_is c h two in rw e (by_two c k two (rw e at lt))
  | inr more ↦ elim (cases_lt c 65536) [
    | inl three ↦ let e = three_is c more three in rw e (by_three c k none three (rw e at lt))
    | inr four ↦ let e = four_is c four in rw e (by_four c k (rw e at lt))
  ]
]

marked_first : (c : ℕ) → IsMarked c → get_or (encode c) 0 0 ≡ 239
marked_first c m = let e = three_is c (omega arith) (omega arith) in rw e (omega arith)

-- ---- tests that agree

pub record ByBytes (p q : ℕ → Bool) : Type 0 where
  pub low : (c : ℕ) → c < 128 → p c ≡ q c
  pub wide : (b : ℕ) → IsOther b → q b ≡ true
  pub mark : q 239 ≡ false
  pub goes : (c : ℕ) → p c ≡ true → IsMarked c → ⊥
  pub stops : (c : ℕ) → scalar c ≡ true → 128 ≤ c → (IsMarked c → ⊥) → p c ≡ true

marked_or : (c : ℕ) → IsMarked c ⊎ (IsMarked c → ⊥)
marked_or c = elim (cases_lt c 61440) [
  | inl lt ↦ inr (λ m. omega (arith, m.0))
  | inr ge ↦ elim (cases_lt c 65536) [ inl lt ↦ inl (ge, omega arith) | inr more ↦ inr (λ m. omega (arith, m.1)) ]
]

low_agrees : (p q : ℕ → Bool) (c : ℕ) → c < 128 → p c ≡ q c → Agrees p q c
low_agrees p q c lt e =
    let one : encode c ≡ c ∷ [] = encode_ascii c lt in
    record {
      goes = λ t k l. rw one (by_one k (sym e ∙ t) (rw one at l));
      stops = λ f. rw one (sym e ∙ f);
    }
  where
    by_one : (k : ℕ) → q c ≡ true → k < 1 → q (get_or (c ∷ []) k 0) ≡ true
    by_one zero t l = t
    by_one (suc k) t l = absurd (omega arith)

pub agrees_by : (p q : ℕ → Bool) → ByBytes p q → (c : ℕ) → scalar c ≡ true → Agrees p q c
agrees_by p q h c s = elim (cases_lt c 128) [
  | inl lt ↦ low_agrees p q c lt (h.low c lt)
  | inr ge ↦ record {
    goes = λ t k lt. h.wide (get_or (encode c) k 0) (wide_bytes c ge (h.goes c t) k lt);
    stops = λ f. elim (marked_or c) [
      | inl m ↦ ap q (marked_first c m) ∙ h.mark
      | inr none ↦ absurd (false≢true (sym f ∙ h.stops c s ge none))
    ];
  }
]

-- ---- the tests of this crate

between : (low high c : ℕ) → low ≤ c → c ≤ high → (nat_le low c && nat_le c high) ≡ true
between low high c l h = and_from (nat_le low c) (nat_le c high) (le-leb low c l) (le-leb c high h)

scalar_char : (c : ℕ) → scalar c ≡ true → 128 ≤ c → (IsMarked c → ⊥) → is_char c ≡ true
unfolding is_char in_ranges
scalar_char c s h none =
    let first = nat_le 9 c && nat_le c 10 in
    let second = nat_le 13 c && nat_le c 13 in
    let third = nat_le 0x20 c && nat_le c 0xD7FF in
    let fourth = nat_le 0xE000 c && nat_le c 0xFFFD in
    let fifth = nat_le 0x1_0000 c && nat_le c 0x10_FFFF in
    elim (scalar_cases c s) [
      | inl low ↦ or_right first _ (or_right second _ (or_left third (fourth || (fifth || false)) (between 0x20 0xD7FF c (omega arith) (omega arith))))
      | inr q ↦ elim (cases_lt c 65536) [
        | inl lt ↦ or_right first _ (or_right second _ (or_right third _ (or_left fourth (fifth || false) (between 0xE000 0xFFFD c (omega (arith, q.0)) (below lt)))))
        | inr ge ↦ or_right first _ (or_right second _ (or_right third _ (or_right fourth _ (or_left fifth false (between 0x1_0000 0x10_FFFF c ge (omega (arith, q.1)))))))
      ]
    ]
  where
    below : c < 65536 → c ≤ 0xFFFD
    below lt = elim (cases_lt c 61440) [ inl l ↦ omega arith | inr g ↦ absurd (none (g, omega arith)) ]

plain_marked : (c : ℕ) → is_plain_char c ≡ true → IsMarked c → ⊥
plain_marked c t m =
    let n = not-true _ (and_parts (is_char c) (not (nat_le 0xF000 c && nat_le c 0xFFFF)) t).1 in
    false≢true (sym n ∙ between 0xF000 0xFFFF c m.0 m.1)

plain_wide : (c : ℕ) → scalar c ≡ true → 128 ≤ c → (IsMarked c → ⊥) → is_plain_char c ≡ true
plain_wide c s h none = and_from _ _ (scalar_char c s h none) (not_from_false _ (false_from_ne_true _ (λ t. let q = and_parts (nat_le 0xF000 c) (nat_le c 0xFFFF) t in none (leb-true 0xF000 c q.0, leb-true c 0xFFFF q.1))))

and_one : (x y : Bool) → y ≡ true → (x && y) ≡ x
and_one true y e = e
and_one false y e = refl

and_twice : (x y : Bool) → (x && y) ≡ ((x && y) && y)
and_twice true true = refl
and_twice true false = refl
and_twice false y = refl

plain_low : (c : ℕ) → c < 128 → is_plain_char c ≡ is_plain_byte c
plain_low c lt =
    let n : not (nat_le 0xF000 c && nat_le c 0xFFFF) ≡ true = not_from_false _ (ap (λ (b : Bool). b && nat_le c 0xFFFF) (lt-leb 0xF000 c (omega arith))) in
    and_one (is_char c) _ n ∙ sym (ap (λ (b : Bool). cond b (is_char c) (not (c == 239))) (lt-ltb c 128 lt))

other_byte : (b s : ℕ) → (b ≡ s → ⊥) → not (b == s) ≡ true
other_byte b s n = not_from_false _ (ne_eqb b s n)

not_mark : (b : ℕ) → IsOther b → b ≡ 239 → ⊥
not_mark b o e = elim (o.1) [ inl l ↦ omega arith | inr l ↦ omega arith ]

not_low : (b s : ℕ) → IsOther b → s < 128 → b ≡ s → ⊥
not_low b s o lt e = omega (arith, o.0)

wide_plain : (b : ℕ) → IsOther b → is_plain_byte b ≡ true
wide_plain b o = rw (le-ltb b 128 o.0) (other_byte b 239 (not_mark b o))

run_wide : (s t u v b : ℕ) → IsOther b → (b ≡ s → ⊥) → (b ≡ t → ⊥) → (b ≡ u → ⊥) → (b ≡ v → ⊥) → is_run_byte s t u v b ≡ true
run_wide s t u v b o a c d e = and_from _ _ (and_from _ _ (and_from _ _ (and_from _ _ (wide_plain b o) (other_byte b s a)) (other_byte b t c)) (other_byte b u d)) (other_byte b v e)

past_stop : (c s : ℕ) → 128 ≤ c → s < 128 → not (c == s) ≡ true
past_stop c s h lt = other_byte c s (λ e. omega arith)

pub text_bytes : ByBytes is_plain_text is_text_byte
text_bytes = record {
  low = λ c lt. ap (λ (b : Bool). b && not (c == 60) && not (c == 38) && not (c == 93)) (plain_low c lt) ∙ and_twice _ (not (c == 93));
  wide = λ b o. run_wide 60 38 93 93 b o (not_low b 60 o (lit< tt)) (not_low b 38 o (lit< tt)) (not_low b 93 o (lit< tt)) (not_low b 93 o (lit< tt));
  mark = refl;
  goes = λ c t m. plain_marked c (and_parts _ (not (c == 60)) (and_parts _ (not (c == 38)) (and_parts _ (not (c == 93)) t).0).0).0 m;
  stops = λ c s h none. and_from _ _ (and_from _ _ (and_from _ _ (plain_wide c s h none) (past_stop c 60 h (lit< tt))) (past_stop c 38 h (lit< tt))) (past_stop c 93 h (lit< tt));
}

pub value_bytes : ByBytes is_plain_value is_value_byte
value_bytes = record {
  low = λ c lt. ap (λ (b : Bool). b && not (c == 60) && not (c == 38) && not (c == 34) && not (c == 39)) (plain_low c lt);
  wide = λ b o. run_wide 60 38 34 39 b o (not_low b 60 o (lit< tt)) (not_low b 38 o (lit< tt)) (not_low b 34 o (lit< tt)) (not_low b 39 o (lit< tt));
  mark = refl;
  goes = λ c t m. plain_marked c (and_parts _ (not (c == 60)) (and_parts _ (not (c == 38)) (and_parts _ (not (c == 34)) (and_parts _ (not (c == 39)) t).0).0).0).0 m;
  stops = λ c s h none. and_from _ _ (and_from _ _ (and_from _ _ (and_from _ _ (plain_wide c s h none) (past_stop c 60 h (lit< tt))) (past_stop c 38 h (lit< tt))) (past_stop c 34 h (lit< tt))) (past_stop c 39 h (lit< tt));
}

low_mark : (c : ℕ) → c < 128 → not (c == 239) ≡ true
low_mark c lt = other_byte c 239 (λ e. omega arith)

pub char_bytes : ByBytes is_plain_char is_char_byte
char_bytes = record {
  low = λ c lt. plain_low c lt ∙ sym (and_one _ _ (low_mark c lt) ∙ and_one _ _ (low_mark c lt) ∙ and_one _ _ (low_mark c lt) ∙ and_one _ _ (low_mark c lt));
  wide = λ b o. run_wide 239 239 239 239 b o (not_mark b o) (not_mark b o) (not_mark b o) (not_mark b o);
  mark = refl;
  goes = plain_marked;
  stops = plain_wide;
}

-- ---- a run of bytes part by part

pub run_whole : (q : ℕ → Bool) (xs ys : List ℕ) → list_all q xs ≡ true → prefix_len q (xs ++ ys) ≡ length xs + prefix_len q ys
run_whole q [] ys h = omega arith
run_whole q (x ∷ xs) ys h =
    let k = and_parts (q x) (list_all q xs) h in
    rw (k.0, run_whole q xs ys k.1) (omega arith)

pub run_short : (q : ℕ → Bool) (xs ys : List ℕ) → prefix_len q xs < length xs → prefix_len q (xs ++ ys) ≡ prefix_len q xs
run_short q [] ys h = absurd (omega arith)
run_short q (x ∷ xs) ys h = elim (cases_Bool (q x)) [
  | inl t ↦
      let lt : prefix_len q xs < length xs = shorter x xs t h in
      rw (t, run_short q xs ys lt) refl
  | inr f ↦ rw f refl
]
  where
    shorter : (x : ℕ) (xs : List ℕ) → q x ≡ true → prefix_len q (x ∷ xs) < length (x ∷ xs) → prefix_len q xs < length xs
    shorter x xs t h = let k : 1 + prefix_len q xs < length (x ∷ xs) = rw t at h in omega arith

pub run_full : (q : ℕ → Bool) (xs ys : List ℕ) → prefix_len q xs ≡ length xs → prefix_len q (xs ++ ys) ≡ length xs + prefix_len q ys
run_full q [] ys h = omega arith
run_full q (x ∷ xs) ys h = elim (cases_Bool (q x)) [
  | inl t ↦
      let e : prefix_len q xs ≡ length xs = fuller x xs t h in
      rw (t, run_full q xs ys e) (omega arith)
  | inr f ↦ absurd (let k : 0 ≡ length (x ∷ xs) = rw f at h in omega arith)
]
  where
    fuller : (x : ℕ) (xs : List ℕ) → q x ≡ true → prefix_len q (x ∷ xs) ≡ length (x ∷ xs) → prefix_len q xs ≡ length xs
    fuller x xs t h = let k : 1 + prefix_len q xs ≡ length (x ∷ xs) = rw t at h in omega arith

-- a list that is cut at a place
run_at_short : (q : ℕ → Bool) (bytes : List ℕ) (n : ℕ) → n ≤ length bytes → prefix_len q (take n bytes) < n → prefix_len q bytes ≡ prefix_len q (take n bytes)
run_at_short q bytes n within h = ap (prefix_len q) (sym (take-append-drop n bytes)) ∙ run_short q (take n bytes) (drop n bytes) (omega (arith, length-take-le n bytes within))

run_at_full : (q : ℕ → Bool) (bytes : List ℕ) (n : ℕ) → n ≤ length bytes → n ≤ prefix_len q (take n bytes) → prefix_len q bytes ≡ n + prefix_len q (drop n bytes)
run_at_full q bytes n within h =
    let len : length (take n bytes) ≡ n = length-take-le n bytes within in
    ap (prefix_len q) (sym (take-append-drop n bytes)) ∙ run_full q (take n bytes) (drop n bytes) (omega (arith, prefix_len-le-length q (take n bytes))) ∙ ap (λ (k : ℕ). k + prefix_len q (drop n bytes)) len

-- a prefix of at most so many bytes
pub run_prefix : (q : ℕ → Bool) (bytes prefix : List ℕ) (m n : ℕ) → m ≡ min (length bytes) n → prefix ≡ take m bytes → prefix_len q prefix < n → prefix_len q prefix ≡ prefix_len q bytes
run_prefix q bytes prefix m n e f h = elim (cases_lt n (length bytes)) [
  | inl lt ↦
      let same : prefix ≡ take n bytes = f ∙ ap (λ (k : ℕ). take k bytes) (omega arith) in
      ap (prefix_len q) same ∙ sym (run_at_short q bytes n (omega arith) (subst (λ (l : List ℕ). prefix_len q l < n) same h))
  | inr ge ↦ ap (prefix_len q) (f ∙ ap (λ (k : ℕ). take k bytes) (omega arith) ∙ take-length bytes)
]

pub run_back : (q : ℕ → Bool) (bytes prefix back : List ℕ) (m n : ℕ) → m ≡ min (length bytes) n → prefix ≡ take m bytes → back ≡ drop m bytes → n ≤ prefix_len q prefix → prefix_len q prefix + prefix_len q back ≡ prefix_len q bytes
run_back q bytes prefix back m n e f b h =
    let top : prefix_len q prefix ≤ length prefix = prefix_len-le-length q prefix in
    let len : length prefix ≡ m = ap (λ (l : List ℕ). length l) f ∙ length-take-le m bytes (omega arith) in
    let same : m ≡ n = omega arith in
    let cut : prefix ≡ take n bytes = f ∙ ap (λ (k : ℕ). take k bytes) same in
    let left : back ≡ drop n bytes = b ∙ ap (λ (k : ℕ). drop k bytes) same in
    let all : prefix_len q prefix ≡ n = omega arith in
    ap (λ (k : ℕ). k + prefix_len q back) all ∙ ap (λ (l : List ℕ). n + prefix_len q l) left ∙ sym (run_at_full q bytes n (omega arith) (subst (λ (l : List ℕ). n ≤ prefix_len q l) cut h))

-- a block whose bytes all pass
pub run_block : (q : ℕ → Bool) (bytes rest block after : List ℕ) (n : ℕ) → n ≤ length rest → length rest ≤ length bytes → block ≡ take n rest → after ≡ drop n rest → list_all q block ≡ true → prefix_len q bytes ≡ length bytes - length rest + prefix_len q rest → prefix_len q bytes ≡ length bytes - length after + prefix_len q after
run_block q bytes rest block after n within shorter f b h e =
    let whole : prefix_len q rest ≡ length block + prefix_len q after = ap (prefix_len q) (sym (take-append-drop n rest) ∙ ap (λ (l : List ℕ). l ++ drop n rest) (sym f) ∙ ap (λ (l : List ℕ). block ++ l) (sym b)) ∙ run_whole q block after h in
    let len : length block ≡ n = ap (λ (l : List ℕ). length l) f ∙ length-take-le n rest within in
    let left : length after ≡ length rest - n = ap (λ (l : List ℕ). length l) b ∙ length-drop n rest in
    omega arith
