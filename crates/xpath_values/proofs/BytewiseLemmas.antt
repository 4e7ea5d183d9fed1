-- Translating a text byte by byte.
use Rattle.std.proofs.Common.{◌≡◌, Bool, false, ◌≢◌, ℕ, suc, ◌+◌, ◌<◌, ◌≤◌, true, cond, ◌⊎◌, inl, inr, List, [], ◌∷◌, ◌++◌, length, drop, get_or, refl, sym, ◌∙◌, ap, subst, arith}
use Rattle.std.proofs.Common.{add-one, append-nil, drop-cons}
use Rattle.std.specs.Prelude.{◌==◌, map, slice_index}
use Rattle.std.specs.List.{flat_map}
use Rattle.std.specs.Str.{IsAscii, IsUtf8, chars}
use lib.Utf8.{encode, encodes, scalar, scalars}
use lib.ListN.{set}
use Rattle.std.proofs.Math.Utf8.{low_scalar}
use Rattle.std.proofs.lemmas.Bool.{cases_lt, cases_eq, eq-eqb, ne_eqb, and_parts, and_from}
use Rattle.std.proofs.lemmas.Grind.{same_number_lists, get_or_default_zero}
use Rattle.std.proofs.Math.ListN.{get_or-map, length-map, length-set}
use Rattle.std.proofs.lemmas.List.{get_or_append_left, get_or-append-add, get_or-set_same, get_or-set_other, map-append, length-append, length-drop, nil_from_length}
use Rattle.std.proofs.lemmas.Str.{encodes-append, encodes-chars, encode_ascii, inside_one, scalars-chars}
use Rattle.xpath_values.specs.Translating.{IsBytewise, becomes, swap}

-- ---- the table

pub table_at_end : (from to table : List ℕ) (n : ℕ) → length from ≤ n → ((k : ℕ) → k < 256 → slice_index table k ≡ k)
    → IsBytewise (drop n from) (drop n to) (slice_index table)
table_at_end from to table n e h =
    let none : drop n from ≡ [] = nil_dropped from n e in
    record {
      changed = λ c lt. ap (λ (l : List ℕ). becomes l (drop n to) c) none ∙ ap (λ k. k ∷ []) (sym (h c (omega arith)));
      ascii = λ c lt. omega (arith, h c (omega arith));
      others = λ c wide lt. h c lt;
    }
  where
    nil_dropped : (l : List ℕ) (n : ℕ) → length l ≤ n → drop n l ≡ []
    nil_dropped l n e = nil_from_length (drop n l) (omega (arith, length-drop n l))

pub table_more : (from to table : List ℕ) (n : ℕ) → n < length from → n < length to → length table ≡ 256 → get_or from n 0 < 128 → get_or to n 0 < 128
    → IsBytewise (drop (n + 1) from) (drop (n + 1) to) (slice_index table) → IsBytewise (drop n from) (drop n to) (slice_index (set table (get_or from n 0) (get_or to n 0)))
table_more from to table n f g len low ascii h = record {
  changed = λ c lt. both c ∙ this c lt (cases_eq c d);
  ascii = λ c lt. kept c lt (cases_eq c d);
  others = λ c wide lt. get_or-set_other table d c e 0 (omega arith) ∙ h.others c wide lt;
}
  where
    d : ℕ
    d = get_or from n 0

    e : ℕ
    e = get_or to n 0

    F : List ℕ
    F = drop (n + 1) from

    T : List ℕ
    T = drop (n + 1) to

    both : (c : ℕ) → becomes (drop n from) (drop n to) c ≡ cond (d == c) (e ∷ []) (becomes F T c)
    both c =
        let p : drop n from ≡ d ∷ F = drop-cons from n 0 f ∙ ap (λ k. d ∷ drop k from) (sym (add-one n)) in
        let q : drop n to ≡ e ∷ T = drop-cons to n 0 g ∙ ap (λ k. e ∷ drop k to) (sym (add-one n)) in
        rw (p, q) refl

    this : (c : ℕ) → c < 128 → (c ≡ d) ⊎ (c ≢ d) → cond (d == c) (e ∷ []) (becomes F T c) ≡ slice_index (set table d e) c ∷ []
    this c lt (inl same) =
        ap (λ b. cond b (e ∷ []) (becomes F T c)) (eq-eqb d c (sym same))
        ∙ ap (λ k. k ∷ []) (sym (ap (λ k. get_or (set table d e) k 0) same ∙ get_or-set_same table d e 0 (omega arith)))
    this c lt (inr other) =
        ap (λ b. cond b (e ∷ []) (becomes F T c)) (ne_eqb d c (λ q. other (sym q)))
        ∙ h.changed c lt ∙ ap (λ k. k ∷ []) (sym (get_or-set_other table d c e 0 other))

    kept : (c : ℕ) → c < 128 → (c ≡ d) ⊎ (c ≢ d) → slice_index (set table d e) c < 128
    kept c lt (inl same) = omega (arith, ascii, ap (λ k. get_or (set table d e) k 0) same, get_or-set_same table d e 0 (omega arith))
    kept c lt (inr other) = omega (arith, h.ascii c lt, get_or-set_other table d c e 0 other)

-- ---- bytes that are changed

-- the first bytes are changed
pub record Upto (f : ℕ → ℕ) (old now : List ℕ) (i : ℕ) : Type 0 where
  pub size : length now ≡ length old
  pub done : (k : ℕ) → k < i → get_or now k 0 ≡ f (get_or old k 0)
  pub rest : (k : ℕ) → i ≤ k → get_or now k 0 ≡ get_or old k 0

pub one_changed : (f : ℕ → ℕ) (old now : List ℕ) (i x : ℕ) → i < length now → x ≡ f (get_or now i 0) → Upto f old now i
    → Upto f old (set now i x) (i + 1)
one_changed f old now i x lt e u = record {
  size = length-set now i x ∙ u.size;
  done = λ k l. this k (cases_eq k i) l;
  rest = λ k l. get_or-set_other now i k x 0 (omega arith) ∙ u.rest k (omega arith);
}
  where
    this : (k : ℕ) → (k ≡ i) ⊎ (k ≢ i) → k < i + 1 → get_or (set now i x) k 0 ≡ f (get_or old k 0)
    this k (inl same) l =
        ap (λ j. get_or (set now i x) j 0) same ∙ get_or-set_same now i x 0 lt ∙ e ∙ ap f (u.rest i (omega arith))
        ∙ ap (λ j. f (get_or old j 0)) (sym same)
    this k (inr other) l = get_or-set_other now i k x 0 other ∙ u.done k (omega arith)

pub all_changed : (f : ℕ → ℕ) (old now : List ℕ) (i : ℕ) → length old ≤ i → Upto f old now i → now ≡ map f old
all_changed f old now i le u =
    let n : length (map f old) ≡ length old = length-map old f in
    same_number_lists now (map f old) (omega (arith, u.size, n)) (λ k lt.
    u.done k (omega (arith, u.size)) ∙ sym (get_or-map f old k 0) ∙ get_or_default_zero (map f old) k (f 0) (omega (arith, u.size, n)))

-- ---- characters by their bytes

map_same : (f : ℕ → ℕ) (m : List ℕ) → ((k : ℕ) → k < length m → f (get_or m k 0) ≡ get_or m k 0) → map f m ≡ m
map_same f [] h = refl
map_same f (b ∷ m) h =
    ap (λ k. k ∷ map f m) (h 0 (omega arith)) ∙ ap (λ (l : List ℕ). b ∷ l) (map_same f m (λ k lt. h (suc k) (omega arith)))

-- a byte of a character beyond ASCII is one beyond it
byte_beyond : (c : ℕ) → 128 ≤ c → (k : ℕ) → k < length (encode c) → 128 ≤ get_or (encode c) k 0
byte_beyond c wide k lt = this (cases_lt (get_or (encode c) k 0) 128)
  where
    this : (get_or (encode c) k 0 < 128) ⊎ (128 ≤ get_or (encode c) k 0) → 128 ≤ get_or (encode c) k 0
    this (inl low) =
        let at : get_or (encode c ++ []) k 0 ≡ get_or (encode c) k 0 = get_or_append_left (encode c) [] 0 k lt in
        let same : c ≡ get_or (encode c ++ []) k 0 = inside_one c [] (encode c ++ []) k refl lt (omega arith) in
        absurd (omega arith)
    this (inr high) = high

-- no character beyond ASCII is among ASCII
becomes_beyond : (from to : List ℕ) (c : ℕ) → ((k : ℕ) → k < length from → get_or from k 0 < 128) → 128 ≤ c → becomes from to c ≡ c ∷ []
becomes_beyond [] to c low wide = refl
becomes_beyond (d ∷ from) [] c low wide =
    ap (λ b. cond b [] (becomes from [] c)) (ne_eqb d c (λ e. omega (arith, low 0 (omega arith))))
    ∙ becomes_beyond from [] c (λ k lt. low (suc k) (omega arith)) wide
becomes_beyond (d ∷ from) (e ∷ to) c low wide =
    ap (λ b. cond b (e ∷ []) (becomes from to c)) (ne_eqb d c (λ e. omega (arith, low 0 (omega arith))))
    ∙ becomes_beyond from to c (λ k lt. low (suc k) (omega arith)) wide

-- one byte that becomes another
pub one_bytewise : (from to : List ℕ) → length from ≡ 1 → 1 ≤ length to → IsAscii from → IsAscii to
    → IsBytewise from to (swap (slice_index from 0) (slice_index to 0))
one_bytewise [] to e le a b = absurd (omega arith)
one_bytewise (x ∷ []) [] e le a b = absurd (omega arith)
one_bytewise (x ∷ []) (y ∷ ts) e le a b = record {
  changed = λ c lt. this c (x == c);
  ascii = λ c lt. below c lt (x == c);
  others = λ c wide lt. ap (λ t. cond t y c) (ne_eqb x c (λ q. omega (arith, a 0)));
}
  where
    this : (c : ℕ) (t : Bool) → cond t (y ∷ []) (c ∷ []) ≡ cond t y c ∷ []
    this c true = refl
    this c false = refl

    below : (c : ℕ) → c < 128 → (t : Bool) → cond t y c < 128
    below c lt true = b 0
    below c lt false = lt
one_bytewise (x ∷ z ∷ from) to e le a b = absurd (omega arith)

module _ (from to : List ℕ) (f : ℕ → ℕ) (h : IsBytewise from to f) (low : IsAscii from) where
  one_char : (c : ℕ) → ((k : ℕ) → k < length (encode c) → get_or (encode c) k 0 < 256) → map f (encode c) ≡ encodes (becomes from to c)
  one_char c fits = this (cases_lt c 128)
    where
      this : (c < 128) ⊎ (128 ≤ c) → map f (encode c) ≡ encodes (becomes from to c)
      this (inl lt) =
          ap (map f) (encode_ascii c lt) ∙ sym (ap encodes (h.changed c lt) ∙ append-nil (encode (f c)) ∙ encode_ascii (f c) (h.ascii c lt))
      this (inr wide) =
          map_same f (encode c) (λ k lt. h.others (get_or (encode c) k 0) (byte_beyond c wide k lt) (fits k lt))
          ∙ sym (ap encodes (becomes_beyond from to c (λ k lt. low k) wide) ∙ append-nil (encode c))

  all_chars : (cs : List ℕ) → ((k : ℕ) → k < length (encodes cs) → get_or (encodes cs) k 0 < 256)
      → map f (encodes cs) ≡ encodes (flat_map (becomes from to) cs)
  all_chars [] fits = refl
  all_chars (c ∷ cs) fits =
      let n : length (encode c ++ encodes cs) ≡ length (encode c) + length (encodes cs) = length-append (encode c) (encodes cs) in
      map-append f (encode c) (encodes cs)
      ∙ ap (λ (l : List ℕ). l ++ map f (encodes cs)) (one_char c (λ k lt.
      omega (arith, get_or_append_left (encode c) (encodes cs) 0 k lt, fits k (omega (arith, n)))))
      ∙ ap (λ (l : List ℕ). encodes (becomes from to c) ++ l) (all_chars cs (λ k lt.
      omega (arith, get_or-append-add (encode c) (encodes cs) k 0, fits (length (encode c) + k) (omega (arith, n)))))
      ∙ sym (encodes-append (becomes from to c) (flat_map (becomes from to) cs))

  scalars_append : (xs ys : List ℕ) → scalars xs ≡ true → scalars ys ≡ true → scalars (xs ++ ys) ≡ true
  scalars_append [] ys p q = q
  scalars_append (x ∷ xs) ys p q =
      let r = and_parts (scalar x) (scalars xs) p in and_from (scalar x) (scalars (xs ++ ys)) r.0 (scalars_append xs ys r.1 q)

  one_scalar : (c : ℕ) → scalar c ≡ true → scalars (becomes from to c) ≡ true
  one_scalar c s = this (cases_lt c 128)
    where
      this : (c < 128) ⊎ (128 ≤ c) → scalars (becomes from to c) ≡ true
      this (inl lt) = ap scalars (h.changed c lt) ∙ and_from _ true (low_scalar (f c) (omega (arith, h.ascii c lt))) refl
      this (inr wide) = ap scalars (becomes_beyond from to c (λ k lt. low k) wide) ∙ and_from _ true s refl

  all_scalars : (cs : List ℕ) → scalars cs ≡ true → scalars (flat_map (becomes from to) cs) ≡ true
  all_scalars [] s = refl
  all_scalars (c ∷ cs) s =
      let r = and_parts (scalar c) (scalars cs) s in
      scalars_append (becomes from to c) (flat_map (becomes from to) cs) (one_scalar c r.0) (all_scalars cs r.1)

  -- the changed bytes of a text
  pub bytes_changed : (bs : List ℕ) → IsUtf8 bs → ((k : ℕ) → k < length bs → get_or bs k 0 < 256)
      → map f bs ≡ encodes (flat_map (becomes from to) (chars bs))
  bytes_changed bs u fits =
      let e : encodes (chars bs) ≡ bs = encodes-chars bs u in
      ap (map f) (sym e) ∙ all_chars (chars bs) (subst (λ (l : List ℕ). (k : ℕ) → k < length l → get_or l k 0 < 256) (sym e) fits)

  pub utf8_changed : (bs : List ℕ) → IsUtf8 bs → ((k : ℕ) → k < length bs → get_or bs k 0 < 256) → IsUtf8 (map f bs)
  utf8_changed bs u fits = (flat_map (becomes from to) (chars bs), (all_scalars (chars bs) (scalars-chars bs u), sym (bytes_changed bs u fits)))
