-- Qualified names by their bytes.
use Rattle.std.proofs.Common.{◌≡◌, ℕ, zero, suc, ◌+◌, ◌<◌, ◌≤◌, Bool, true, false, cond, ◌&&◌, ◌||◌, ◌==◌, not, List, [], ◌∷◌, ◌++◌, length, take, drop, refl, ap, ap₂, sym, ◌∙◌, subst, arith, ne_eqb, nat_lt, nat_le, get_or, ⊎_elim, ◌⊎◌, inl, inr, append-nil}
use Rattle.std.specs.Prelude.{encode_utf8_all, IsUtf8}
use Rattle.std.specs.List.{list_all, list_any}
use Rattle.std.specs.Str.{chars}
use lib.Utf8.{scalar, scalars}
use Rattle.std.proofs.Math.Utf8.{encode}
use Rattle.std.proofs.Math.Seq.{take-append_seam, drop-append_seam}
use Rattle.std.proofs.lemmas.Bool.{false≢true, false_from_ne_true, and_parts, and_from, or_cases, eqb-true, eq-eqb, cases_Bool, cases_lt}
use Rattle.std.proofs.lemmas.Str.{encodes-append, encode_ascii, chars-encodes, byte_from_char, char_from_byte, length-encode, len_utf8_bounds, inside_one}
use Rattle.xml_model.specs.Chars.{size, is_name, is_ncname, is_qname, is_name_start, is_name_char, in_ranges, name_start_ranges, has_colon, before_colon, after_colon, prefix_of, local_of}
use Rattle.xml_chars.proofs.NameLaws.{name_chars}

-- the characters of names are scalars

low_or_high : ℕ × ℕ → Bool
low_or_high r = nat_lt r.1 0xD800 || (nat_le 0xE000 r.0 && nat_lt r.1 0x11_0000)

in_low_or_high : (rs : List (ℕ × ℕ)) (c : ℕ) → list_all low_or_high rs ≡ true → in_ranges rs c ≡ true → scalar c ≡ true
unfolding in_ranges low_or_high
in_low_or_high [] c h k = absurd (false≢true k)
in_low_or_high (r ∷ rs) c h k =
    let p = and_parts (low_or_high r) (list_all low_or_high rs) h in
    ⊎_elim (λ t. one t p.0) (λ t. in_low_or_high rs c p.1 t) (or_cases (nat_le r.0 c && nat_le c r.1) _ k)
  where
    one : (nat_le r.0 c && nat_le c r.1) ≡ true → low_or_high r ≡ true → scalar c ≡ true
    one t q =
        let a = and_parts (nat_le r.0 c) (nat_le c r.1) t in
        ⊎_elim (λ l. grind arith) (λ l. grind arith) (or_cases (nat_lt r.1 0xD800) _ q)

name_ranges_fit : list_all low_or_high name_start_ranges ≡ true
unfolding low_or_high
name_ranges_fit = refl

more_ranges_fit : list_all low_or_high ((45, 46) ∷ (48, 57) ∷ (0xB7, 0xB7) ∷ (0x300, 0x36F) ∷ (0x203F, 0x2040) ∷ []) ≡ true
unfolding low_or_high
more_ranges_fit = refl

char_scalar : (c : ℕ) → is_name_char c ≡ true → scalar c ≡ true
unfolding is_name_char is_name_start
char_scalar c h = ⊎_elim (in_low_or_high name_start_ranges c name_ranges_fit) (in_low_or_high _ c more_ranges_fit) (or_cases (in_ranges name_start_ranges c) _ h)

all_scalars : (cs : List ℕ) → list_all is_name_char cs ≡ true → scalars cs ≡ true
all_scalars [] h = refl
all_scalars (c ∷ cs) h = let p = and_parts (is_name_char c) (list_all is_name_char cs) h in and_from (scalar c) (scalars cs) (char_scalar c p.0) (all_scalars cs p.1)

-- a text before and after its first colon

colon_parts : (cs : List ℕ) → has_colon cs ≡ true → cs ≡ before_colon cs ++ 58 ∷ after_colon cs
colon_parts [] h = absurd (false≢true h)
colon_parts (c ∷ cs) h = by (c == 58) refl h (colon_parts cs)
  where
    by : (b : Bool) → (c == 58) ≡ b → (b || has_colon cs) ≡ true → (has_colon cs ≡ true → cs ≡ before_colon cs ++ 58 ∷ after_colon cs) → c ∷ cs ≡ cond b [] (c ∷ before_colon cs) ++ 58 ∷ cond b cs (after_colon cs)
    by true e k r = ap (λ x. x ∷ cs) (eqb-true c 58 e)
    by false e k r = ap (λ x. c ∷ x) (r k)

no_colon_before : (cs : List ℕ) → has_colon (before_colon cs) ≡ false
no_colon_before [] = refl
no_colon_before (c ∷ cs) = by (c == 58) refl (no_colon_before cs)
  where
    by : (b : Bool) → (c == 58) ≡ b → has_colon (before_colon cs) ≡ false → has_colon (cond b [] (c ∷ before_colon cs)) ≡ false
    by true e r = refl
    by false e r = ap₂ (λ x y. x || y) e r

chars_before : (cs : List ℕ) → list_all is_name_char cs ≡ true → list_all is_name_char (before_colon cs) ≡ true
chars_before [] h = refl
chars_before (c ∷ cs) h = let p = and_parts (is_name_char c) (list_all is_name_char cs) h in by (c == 58) p.0 (chars_before cs p.1)
  where
    by : (b : Bool) → is_name_char c ≡ true → list_all is_name_char (before_colon cs) ≡ true → list_all is_name_char (cond b [] (c ∷ before_colon cs)) ≡ true
    by true h r = refl
    by false h r = and_from (is_name_char c) _ h r

chars_after : (cs : List ℕ) → list_all is_name_char cs ≡ true → list_all is_name_char (after_colon cs) ≡ true
chars_after [] h = refl
chars_after (c ∷ cs) h = let p = and_parts (is_name_char c) (list_all is_name_char cs) h in by (c == 58) p.1 (chars_after cs p.1)
  where
    by : (b : Bool) → list_all is_name_char cs ≡ true → list_all is_name_char (after_colon cs) ≡ true → list_all is_name_char (cond b cs (after_colon cs)) ≡ true
    by true h r = h
    by false h r = r

-- a name with a prefix, and one without

size_some : (c : ℕ) (cs : List ℕ) → size (c ∷ cs) ≡ 0 → ⊥
unfolding size
size_some c cs h = omega (arith, h, Rattle.std.proofs.Common.length-append (encode c) (encode_utf8_all cs), length-encode c, (len_utf8_bounds c).0)

size_none : size [] ≡ 0
unfolding size
size_none = refl

-- what a name with a prefix is
pub record Prefixed (cs : List ℕ) : Type 0 where
  pub parts : cs ≡ prefix_of cs ++ 58 ∷ after_colon cs
  pub local : local_of cs ≡ after_colon cs
  pub qname : is_name cs ≡ true → is_qname cs ≡ is_ncname (after_colon cs)
  pub some : prefix_of cs ≡ [] → ⊥

prefixed_by : (cs : List ℕ) (b : Bool) → has_colon cs ≡ b → (size (cond b (before_colon cs) []) ≡ 0 → ⊥) → Prefixed cs
unfolding prefix_of local_of is_qname is_ncname is_name
prefixed_by cs false e h = absurd (h size_none)
prefixed_by [] true e h = absurd (false≢true e)
prefixed_by (c ∷ cs) true e h = by (c == 58) refl
  where
    by : (b : Bool) → (c == 58) ≡ b → Prefixed (c ∷ cs)
    by true k = absurd (h (ap (λ x. size (cond x [] (c ∷ before_colon cs))) k ∙ size_none))
    by false k =
        let before : before_colon (c ∷ cs) ≡ c ∷ before_colon cs = ap (λ x. cond x [] (c ∷ before_colon cs)) k in
        record {
          parts = colon_parts (c ∷ cs) e ∙ ap (λ x. cond x (before_colon (c ∷ cs)) [] ++ 58 ∷ after_colon (c ∷ cs)) (sym e);
          local = ap (λ x. cond x (after_colon (c ∷ cs)) (c ∷ cs)) e;
          qname = λ n.
              let p = and_parts (is_name_start c) (list_all is_name_char cs) n in
              let prefix : (is_name (before_colon (c ∷ cs)) && not (has_colon (before_colon (c ∷ cs)))) ≡ true =
              ap₂ (λ x y. x && not y) (ap is_name before ∙ and_from (is_name_start c) (list_all is_name_char (before_colon cs)) p.0 (chars_before cs p.1)) (no_colon_before (c ∷ cs)) in
              ap (λ x. (is_name (c ∷ cs) && not x) || (x && (is_name (before_colon (c ∷ cs)) && not (has_colon (before_colon (c ∷ cs)))) && (is_name (after_colon (c ∷ cs)) && not (has_colon (after_colon (c ∷ cs)))))) e
              ∙ ap₂ (λ x y. (x && false) || (true && y && (is_name (after_colon (c ∷ cs)) && not (has_colon (after_colon (c ∷ cs)))))) n prefix;
          some = λ z. let q : ◌≡◌ {A = List ℕ} (c ∷ before_colon cs) [] = sym before ∙ sym (ap (λ x. cond x (before_colon (c ∷ cs)) []) e) ∙ z in cc;
        }

pub prefixed : (cs : List ℕ) → (size (prefix_of cs) ≡ 0 → ⊥) → Prefixed cs
unfolding prefix_of
prefixed cs h = prefixed_by cs (has_colon cs) refl h

-- what a name without a prefix is
pub record Unprefixed (cs : List ℕ) : Type 0 where
  pub none : prefix_of cs ≡ []
  pub qname : is_name cs ≡ true → is_qname cs ≡ not (get_or cs 0 0 == 58)
  pub local : is_qname cs ≡ true → local_of cs ≡ cs

unprefixed_by : (cs : List ℕ) (b : Bool) → has_colon cs ≡ b → size (cond b (before_colon cs) []) ≡ 0 → Unprefixed cs
unfolding prefix_of local_of is_qname is_ncname is_name
unprefixed_by [] b e h = record { none = refl; qname = λ n. absurd (false≢true n); local = λ q. refl }
unprefixed_by (c ∷ cs) false e h =
    let k : (c == 58) ≡ false = colon_first (c == 58) (has_colon cs) e in
    record {
      none = ap (λ x. cond x (before_colon (c ∷ cs)) []) e;
      qname = λ n.
          ap (λ x. (is_name (c ∷ cs) && not x) || (x && (is_name (before_colon (c ∷ cs)) && not (has_colon (before_colon (c ∷ cs)))) && (is_name (after_colon (c ∷ cs)) && not (has_colon (after_colon (c ∷ cs)))))) e
          ∙ ap (λ x. (x && true) || false) n ∙ sym (ap not k);
      local = λ q. ap (λ x. cond x (after_colon (c ∷ cs)) (c ∷ cs)) e;
    }
  where
    colon_first : (a b : Bool) → (a || b) ≡ false → a ≡ false
    colon_first true b h = h
    colon_first false b h = refl
unprefixed_by (c ∷ cs) true e h = by (c == 58) refl
  where
    by : (b : Bool) → (c == 58) ≡ b → Unprefixed (c ∷ cs)
    by false k = absurd (size_some c (before_colon cs) (ap (λ x. size (cond x [] (c ∷ before_colon cs))) (sym k) ∙ h))
    by true k =
        let before : before_colon (c ∷ cs) ≡ [] = ap (λ x. cond x [] (c ∷ before_colon cs)) k in
        let no : is_qname (c ∷ cs) ≡ false =
        ap (λ x. (is_name (c ∷ cs) && not x) || (x && (is_name (before_colon (c ∷ cs)) && not (has_colon (before_colon (c ∷ cs)))) && (is_name (after_colon (c ∷ cs)) && not (has_colon (after_colon (c ∷ cs)))))) e
        ∙ ap₂ (λ x y. (x && false) || (true && (is_name y && not (has_colon y)) && (is_name (after_colon (c ∷ cs)) && not (has_colon (after_colon (c ∷ cs)))))) refl before ∙ ap (λ x. x || false) (and_no (is_name (c ∷ cs))) in
        record {
          none = ap (λ x. cond x (before_colon (c ∷ cs)) []) e ∙ before;
          qname = λ n. no ∙ sym (ap not k);
          local = λ q. absurd (false≢true (sym no ∙ q));
        }
      where
        and_no : (a : Bool) → (a && false) ≡ false
        and_no true = refl
        and_no false = refl

pub unprefixed : (cs : List ℕ) → size (prefix_of cs) ≡ 0 → Unprefixed cs
unfolding prefix_of
unprefixed cs h = unprefixed_by cs (has_colon cs) refl h

-- by bytes

head_of : (name cs : List ℕ) (n : ℕ) (xs ys : List ℕ) → name ≡ encode_utf8_all cs → n ≡ size xs → cs ≡ xs ++ ys → take n name ≡ encode_utf8_all xs
unfolding size
head_of name cs n xs ys e h k = ap₂ take h (e ∙ ap encode_utf8_all k ∙ encodes-append xs ys) ∙ take-append_seam (encode_utf8_all xs) (encode_utf8_all ys)

back_of : (name cs : List ℕ) (n : ℕ) (xs ys : List ℕ) → name ≡ encode_utf8_all cs → n ≡ size xs → cs ≡ xs ++ ys → drop n name ≡ encode_utf8_all ys
unfolding size
back_of name cs n xs ys e h k = ap₂ drop h (e ∙ ap encode_utf8_all k ∙ encodes-append xs ys) ∙ drop-append_seam (encode_utf8_all xs) (encode_utf8_all ys)

pub prefix_taken : (name cs : List ℕ) (n : ℕ) → name ≡ encode_utf8_all cs → n ≡ size (prefix_of cs) → take n name ≡ encode_utf8_all (prefix_of cs)
prefix_taken name cs n e h = by (cases_zero (size (prefix_of cs)))
  where
    cases_zero : (k : ℕ) → (k ≡ 0) ⊎ (k ≡ 0 → ⊥)
    cases_zero zero = inl refl
    cases_zero (suc k) = inr (λ z. omega arith)

    by : (size (prefix_of cs) ≡ 0) ⊎ (size (prefix_of cs) ≡ 0 → ⊥) → take n name ≡ encode_utf8_all (prefix_of cs)
    by c = ⊎_elim none some c
      where
        none : size (prefix_of cs) ≡ 0 → take n name ≡ encode_utf8_all (prefix_of cs)
        none z = ap (λ k. take k name) (h ∙ z) ∙ sym (ap encode_utf8_all (unprefixed cs z).none)

        some : (size (prefix_of cs) ≡ 0 → ⊥) → take n name ≡ encode_utf8_all (prefix_of cs)
        some z = head_of name cs n (prefix_of cs) (58 ∷ after_colon cs) e h (prefixed cs z).parts

pub local_taken : (name cs : List ℕ) (n : ℕ) → name ≡ encode_utf8_all cs → n ≡ size (prefix_of cs) → (n ≡ 0 → ⊥) → drop 1 (drop n name) ≡ encode_utf8_all (after_colon cs)
unfolding encode
local_taken name cs n e h z = ap (drop 1) (back_of name cs n (prefix_of cs) (58 ∷ after_colon cs) e h (prefixed cs (λ k. z (h ∙ k))).parts)

pub local_utf8 : (cs : List ℕ) → is_name cs ≡ true → IsUtf8 (encode_utf8_all (after_colon cs))
local_utf8 cs n = (after_colon cs, (all_scalars (after_colon cs) (chars_after cs (name_chars cs n)), refl))

pub local_chars : (cs : List ℕ) → is_name cs ≡ true → chars (encode_utf8_all (after_colon cs)) ≡ after_colon cs
local_chars cs n = chars-encodes (after_colon cs) (all_scalars (after_colon cs) (chars_after cs (name_chars cs n)))

-- the first byte is a colon where the first character is
first_colon : (c : ℕ) (cs : List ℕ) → (get_or (encode_utf8_all (c ∷ cs)) 0 0 == 58) ≡ (c == 58)
first_colon c cs = by (cases_Bool (c == 58))
  where
    by : ((c == 58) ≡ true) ⊎ ((c == 58) ≡ false) → (get_or (encode_utf8_all (c ∷ cs)) 0 0 == 58) ≡ (c == 58)
    by k =
        ⊎_elim
        (λ t. let e : c ≡ 58 = eqb-true c 58 t in eq-eqb _ 58 (byte_from_char (encode_utf8_all (c ∷ cs)) (encode_utf8_all cs) c refl (omega arith) ∙ e) ∙ sym t)
        (λ f. false_from_ne_true _ (λ t.
        let z : get_or (encode_utf8_all (c ∷ cs)) 0 0 ≡ 58 = eqb-true _ 58 t in
        let l : 0 < length (encode_utf8_all (c ∷ cs)) = omega (arith, Rattle.std.proofs.Common.length-append (encode c) (encode_utf8_all cs), length-encode c, (len_utf8_bounds c).0) in
        false≢true (sym f ∙ eq-eqb c 58 (char_from_byte (encode_utf8_all (c ∷ cs)) (encode_utf8_all cs) c refl (omega arith) l ∙ z))) ∙ sym f)
        k

pub first_byte : (cs : List ℕ) → is_name cs ≡ true → (get_or (encode_utf8_all cs) 0 0 == 58) ≡ (get_or cs 0 0 == 58)
unfolding is_name
first_byte [] n = absurd (false≢true n)
first_byte (c ∷ cs) n = first_colon c cs

-- a colon among the bytes is one among the characters

any_none : (xs : List ℕ) → ((k : ℕ) → k < length xs → get_or xs k 0 ≡ 58 → ⊥) → list_any (λ b. b == 58) xs ≡ false
any_none [] h = refl
any_none (x ∷ xs) h = ap₂ (λ a b. a || b) (ne_eqb x 58 (h 0 (omega arith))) (any_none xs (λ k l. h (suc k) (omega arith)))

any_append : (xs ys : List ℕ) → list_any (λ b. b == 58) (xs ++ ys) ≡ (list_any (λ b. b == 58) xs || list_any (λ b. b == 58) ys)
any_append [] ys = refl
any_append (x ∷ xs) ys = ap (λ b. (x == 58) || b) (any_append xs ys) ∙ or_assoc (x == 58) _ _
  where
    or_assoc : (a b c : Bool) → (a || (b || c)) ≡ ((a || b) || c)
    or_assoc true b c = refl
    or_assoc false b c = refl

any_one : (c : ℕ) → list_any (λ b. b == 58) (encode c) ≡ (c == 58)
any_one c = ⊎_elim low high (cases_lt c 128)
  where
    low : c < 128 → list_any (λ b. b == 58) (encode c) ≡ (c == 58)
    low h = ap (list_any (λ b. b == 58)) (encode_ascii c h) ∙ or_false (c == 58)
      where
        or_false : (b : Bool) → (b || false) ≡ b
        or_false true = refl
        or_false false = refl

    high : 128 ≤ c → list_any (λ b. b == 58) (encode c) ≡ (c == 58)
    high h = any_none (encode c) (λ k l e. let same : c ≡ get_or (encode c) k 0 = inside_one c [] (encode c) k (sym (append-nil (encode c))) l (omega arith) in omega arith) ∙ sym (ne_eqb c 58 (λ e. omega arith))

pub colon_byte : (cs : List ℕ) → list_any (λ b. b == 58) (encode_utf8_all cs) ≡ has_colon cs
colon_byte [] = refl
colon_byte (c ∷ cs) = any_append (encode c) (encode_utf8_all cs) ∙ ap₂ (λ a b. a || b) (any_one c) (colon_byte cs)

pub named_some : (name cs : List ℕ) → is_name cs ≡ true → name ≡ encode_utf8_all cs → (length name == 0) ≡ true → ⊥
unfolding is_name
named_some name [] n e h = false≢true n
named_some name (c ∷ cs) n e h = omega (arith, eqb-true (length name) 0 h, ap length e, Rattle.std.proofs.Common.length-append (encode c) (encode_utf8_all cs), length-encode c, (len_utf8_bounds c).0)

-- local parts

pub local_prefixed : (cs : List ℕ) (n : ℕ) → n ≡ size (prefix_of cs) → (n ≡ 0 → ⊥) → after_colon cs ≡ local_of cs
local_prefixed cs n e z = sym (prefixed cs (λ k. z (e ∙ k))).local

pub local_whole : (cs : List ℕ) (n : ℕ) → n ≡ size (prefix_of cs) → n ≡ 0 → is_qname cs ≡ true → cs ≡ local_of cs
local_whole cs n e z q = sym ((unprefixed cs (sym e ∙ z)).local q)

begins_with_colon : (cs : List ℕ) → (get_or cs 0 0 == 58) ≡ true → drop 1 (encode_utf8_all cs) ≡ encode_utf8_all (local_of cs)
unfolding encode local_of
begins_with_colon [] h = absurd (false≢true h)
begins_with_colon (c ∷ cs) h =
    let e : c ≡ 58 = eqb-true c 58 h in
    subst (λ d. drop 1 (encode_utf8_all (d ∷ cs)) ≡ encode_utf8_all (local_of (d ∷ cs))) (sym e) refl

pub local_after : (name cs : List ℕ) (n : ℕ) → is_name cs ≡ true → name ≡ encode_utf8_all cs → n ≡ size (prefix_of cs) → n ≡ 0 → is_qname cs ≡ false → drop 1 name ≡ encode_utf8_all (local_of cs)
local_after name cs n m e h z q = ap (drop 1) e ∙ begins_with_colon cs (not_false (get_or cs 0 0 == 58) (sym ((unprefixed cs (sym h ∙ z)).qname m) ∙ q))
  where
    not_false : (b : Bool) → not b ≡ false → b ≡ true
    not_false true k = refl
    not_false false k = absurd (false≢true (sym k))
