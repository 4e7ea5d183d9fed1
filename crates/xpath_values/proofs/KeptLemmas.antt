-- Normalizing the bytes of a text in place of its characters, many at once.
use Rattle.std.proofs.Common.{◌≡◌, ◌≢◌, ℕ, zero, suc, ◌+◌, ◌-◌, ◌<◌, ◌≤◌, Bool, true, false, ◌⊎◌, inl, inr, List, [], ◌∷◌, ◌++◌, length, take, drop, get_or, refl, sym, ◌∙◌, ap, subst, arith}
use Rattle.std.proofs.Common.{add-one, append_assoc, drop-cons}
use Rattle.std.specs.Str.{IsCharBoundary, IsUtf8, chars}
use lib.Utf8.{encode, encodes}
use Rattle.std.proofs.lemmas.Bool.{cases_Bool, cases_lt, false_from_ne_true, false≢true}
use Rattle.std.proofs.lemmas.List.{get_or_append_left, get_or-drop, get_or-take, length-drop, length-take}
use Rattle.std.proofs.lemmas.Str.{encodes-append, encodes-chars, encode_ascii, inside_one, IsCharBoundary-before_ascii, IsCharBoundary-end}
use Rattle.std.proofs.Math.Seq.{take-suc}
use Rattle.xml_chars.proofs.Points.{encode_pos}
use Rattle.xml_chars.proofs.Ranges.{space_low}
use Rattle.xml_model.specs.Chars.{is_space, in_ranges}
use Rattle.xpath_values.specs.Normal.{AreSingle, IsSingle, Stays, left, due}
use Rattle.xpath_values.proofs.NormalLemmas.{space_left, char_left, due_bytes, nothing_left}

-- bytes of which none is white space, in a word and where one begins
inside_stay : (m t : List ℕ) → ((k : ℕ) → k < length m → is_space (get_or m k 0) ≡ false) → left true false (m ++ t) ≡ m ++ left true false t
inside_stay [] t h = refl
inside_stay (b ∷ m) t h =
    char_left true false b (m ++ t) (h 0 (omega arith)) ∙ ap (λ (l : List ℕ). b ∷ l) (inside_stay m t (λ k lt. h (suc k) (omega arith)))

begin_stay : (some gap : Bool) (m t : List ℕ) → 0 < length m → ((k : ℕ) → k < length m → is_space (get_or m k 0) ≡ false)
    → left some gap (m ++ t) ≡ due some gap ++ (m ++ left true false t)
begin_stay some gap [] t lt h = absurd (omega arith)
begin_stay some gap (b ∷ m) t lt h =
    char_left some gap b (m ++ t) (h 0 (omega arith))
    ∙ ap (λ (l : List ℕ). due some gap ++ (b ∷ l)) (inside_stay m t (λ k lt. h (suc k) (omega arith)))

-- no byte of a character that is no white space is
byte_inside : (c : ℕ) → is_space c ≡ false → (k : ℕ) → k < length (encode c) → is_space (get_or (encode c) k 0) ≡ false
byte_inside c h k lt = false_from_ne_true _ (λ t.
    let at : get_or (encode c ++ []) k 0 ≡ get_or (encode c) k 0 = get_or_append_left (encode c) [] 0 k lt in
    let b : get_or (encode c ++ []) k 0 < 128 = omega (arith, space_low (get_or (encode c) k 0) t) in
    let same : c ≡ get_or (encode c) k 0 = inside_one c [] (encode c ++ []) k refl lt b ∙ at in
    false≢true (sym h ∙ ap is_space same ∙ t))

-- what is left of the bytes is the bytes of what is left
pub left_bytes : (some gap : Bool) (cs : List ℕ) → encodes (left some gap cs) ≡ left some gap (encodes cs)
left_bytes some gap [] = ap encodes (nothing_left some gap) ∙ sym (nothing_left some gap)
left_bytes some gap (c ∷ cs) = elim (cases_Bool (is_space c)) [
  | inl t ↦
      ap encodes (sym (space_left some gap c cs t)) ∙ left_bytes some true cs ∙ space_left some gap c (encodes cs) t
      ∙ ap (λ (l : List ℕ). left some gap (l ++ encodes cs)) (sym (encode_ascii c (space_low c t)))
  | inr f ↦
      ap encodes (char_left some gap c cs f) ∙ encodes-append (due some gap) (c ∷ left true false cs)
      ∙ ap (λ (l : List ℕ). l ++ (encode c ++ encodes (left true false cs))) (due_bytes some gap)
      ∙ ap (λ (l : List ℕ). due some gap ++ (encode c ++ l)) (left_bytes true false cs)
      ∙ sym (begin_stay some gap (encode c) (encodes cs) (encode_pos c) (byte_inside c f))
]

space_is : is_space 32 ≡ true
unfolding is_space in_ranges
space_is = refl

one_more : (bs : List ℕ) (i : ℕ) → i < length bs → is_space (get_or bs i 0) ≡ false → left true false bs ≡ take i bs ++ left true false (drop i bs)
    → left true false bs ≡ take (i + 1) bs ++ left true false (drop (i + 1) bs)
one_more bs i lt h e =
    let d : drop i bs ≡ get_or bs i 0 ∷ drop (i + 1) bs = drop-cons bs i 0 lt ∙ ap (λ k. get_or bs i 0 ∷ drop k bs) (sym (add-one i)) in
    let t : take (i + 1) bs ≡ take i bs ++ (get_or bs i 0 ∷ []) = ap (λ k. take k bs) (add-one i) ∙ take-suc bs i 0 lt in
    e ∙ ap (λ (l : List ℕ). take i bs ++ left true false l) d
    ∙ ap (λ (l : List ℕ). take i bs ++ l) (char_left true false (get_or bs i 0) (drop (i + 1) bs) h)
    ∙ sym (append_assoc (take i bs) (get_or bs i 0 ∷ []) (left true false (drop (i + 1) bs)))
    ∙ ap (λ (l : List ℕ). l ++ left true false (drop (i + 1) bs)) (sym t)

two_more : (bs : List ℕ) (i : ℕ) → i + 1 < length bs → get_or bs i 0 ≡ 32 → is_space (get_or bs (i + 1) 0) ≡ false
    → left true false bs ≡ take i bs ++ left true false (drop i bs) → left true false bs ≡ take (i + 1 + 1) bs ++ left true false (drop (i + 1 + 1) bs)
two_more bs i lt s h e =
    let c : ℕ = get_or bs (i + 1) 0 in
    let w : List ℕ = left true false (drop (i + 1 + 1) bs) in
    let d : drop i bs ≡ 32 ∷ drop (i + 1) bs =
    drop-cons bs i 0 (omega arith) ∙ ap (λ k. get_or bs i 0 ∷ drop k bs) (sym (add-one i)) ∙ ap (λ k. k ∷ drop (i + 1) bs) s in
    let f : drop (i + 1) bs ≡ c ∷ drop (i + 1 + 1) bs =
    drop-cons bs (i + 1) 0 lt ∙ ap (λ k. c ∷ drop k bs) (sym (add-one (i + 1))) in
    let t : take (i + 1) bs ≡ take i bs ++ (32 ∷ []) =
    ap (λ k. take k bs) (add-one i) ∙ take-suc bs i 0 (omega arith) ∙ ap (λ k. take i bs ++ (k ∷ [])) s in
    let u : take (i + 1 + 1) bs ≡ take (i + 1) bs ++ (c ∷ []) = ap (λ k. take k bs) (add-one (i + 1)) ∙ take-suc bs (i + 1) 0 lt in
    e ∙ ap (λ (l : List ℕ). take i bs ++ left true false l) d
    ∙ ap (λ (l : List ℕ). take i bs ++ l) (sym (space_left true false 32 (drop (i + 1) bs) space_is)
    ∙ ap (left true true) f ∙ char_left true true c (drop (i + 1 + 1) bs) h)
    ∙ sym (append_assoc (take i bs) (32 ∷ []) (c ∷ w))
    ∙ ap (λ (l : List ℕ). l ++ (c ∷ w)) (sym t)
    ∙ sym (append_assoc (take (i + 1) bs) (c ∷ []) w)
    ∙ ap (λ (l : List ℕ). l ++ w) (sym u)

pub stays_at_first : (bs : List ℕ) → Stays bs 0 0
stays_at_first bs = record { low = omega arith; near = omega arith; space = λ lt. absurd (omega arith); same = refl }

-- after a character of a word
pub stays_more : (bs : List ℕ) (e i : ℕ) → i < length bs → is_space (get_or bs i 0) ≡ false → Stays bs e i → Stays bs (i + 1) (i + 1)
stays_more bs e i lt h s = record { low = omega arith; near = omega arith; space = λ l. absurd (omega arith); same = this (cases_lt e i) }
  where
    this : (e < i) ⊎ (i ≤ e) → left true false bs ≡ take (i + 1) bs ++ left true false (drop (i + 1) bs)
    this (inl l) =
        let same : i ≡ e + 1 = omega (arith, s.near) in
        subst (λ k. left true false bs ≡ take (k + 1) bs ++ left true false (drop (k + 1) bs)) (sym same)
        (two_more bs e (omega arith) (s.space l) (subst (λ k. is_space (get_or bs k 0) ≡ false) same h) s.same)
    this (inr l) =
        let same : e ≡ i = omega (arith, s.low) in
        one_more bs i lt h (subst (λ k. left true false bs ≡ take k bs ++ left true false (drop k bs)) same s.same)

-- after a space
pub stays_spaced : (bs : List ℕ) (e i : ℕ) → i ≡ e → get_or bs i 0 ≡ 32 → Stays bs e i → Stays bs e (i + 1)
stays_spaced bs e i same h s =
    record { low = omega (arith, s.low); near = omega arith; space = λ l. subst (λ k. get_or bs k 0 ≡ 32) same h; same = s.same }

-- before a space that is single a word ends
at_word : (bs : List ℕ) (e i : ℕ) → AreSingle bs (i + 1) → get_or bs i 0 ≡ 32 → Stays bs e i → i ≡ e
at_word bs e i h space s = this (cases_lt e i)
  where
    this : (e < i) ⊎ (i ≤ e) → i ≡ e
    this (inr le) = omega (arith, s.low)
    this (inl lt) = inner (h e (omega arith))
      where
        next : e + 1 ≡ i
        next = omega (arith, s.near)

        inner : IsSingle (get_or bs e 0) (get_or bs (e + 1) 0) → i ≡ e
        inner (inl f) = absurd (false≢true (sym f ∙ ap is_space (s.space lt) ∙ space_is))
        inner (inr q) = absurd (q.1 (ap (λ k. get_or bs k 0) next ∙ space))

-- bytes that are single stay
single_stays : (bs : List ℕ) (i : ℕ) → i ≤ length bs → AreSingle bs i → (e : ℕ) × Stays bs e i
single_stays bs zero within h = (0, stays_at_first bs)
single_stays bs (suc i) within h =
    let p = single_stays bs i (omega arith) (λ k lt. h k (omega arith)) in
    let g : AreSingle bs (i + 1) = λ k lt. h k (omega arith) in
    subst (λ k. (e : ℕ) × Stays bs e k) (add-one i) (this p.0 p.1 g (g i (omega arith)))
  where
    this : (e : ℕ) → Stays bs e i → AreSingle bs (i + 1) → IsSingle (get_or bs i 0) (get_or bs (i + 1) 0) → (d : ℕ) × Stays bs d (i + 1)
    this e s g (inl f) = (i + 1, stays_more bs e i (omega arith) f s)
    this e s g (inr q) = (e, stays_spaced bs e i (at_word bs e i g q.0 s) q.0 s)

pub word_spaced : (bs : List ℕ) (i : ℕ) → i < length bs → AreSingle bs (i + 1) → get_or bs i 0 ≡ 32 → Stays bs i (i + 1)
word_spaced bs i lt h space =
    let p = single_stays bs i (omega arith) (λ k l. h k (omega arith)) in
    let same : i ≡ p.0 = at_word bs p.0 i h space p.1 in
    subst (λ k. Stays bs k (i + 1)) (sym same) (stays_spaced bs p.0 i same space p.1)

pub word_inside : (bs : List ℕ) (i : ℕ) → i < length bs → AreSingle bs (i + 1) → get_or bs i 0 ≢ 32 → Stays bs (i + 1) (i + 1)
word_inside bs i lt h other = this (h i (omega arith))
  where
    this : IsSingle (get_or bs i 0) (get_or bs (i + 1) 0) → Stays bs (i + 1) (i + 1)
    this (inl f) = let p = single_stays bs i (omega arith) (λ k l. h k (omega arith)) in stays_more bs p.0 i lt f p.1
    this (inr q) = absurd (other q.0)

-- one more stretch
pub more_single : (bs : List ℕ) (start n m : ℕ) → m ≡ n + 1 → start + n < length bs → AreSingle bs start
    → ((k : ℕ) → k + 1 < length (take m (drop start bs)) → IsSingle (get_or (take m (drop start bs)) k 0) (get_or (take m (drop start bs)) (k + 1) 0))
    → AreSingle bs (start + n)
more_single bs start n m same within h g k lt = this (cases_lt k start)
  where
    window : List ℕ
    window = take m (drop start bs)

    size : length window ≡ m
    size = omega (arith, length-take m (drop start bs), length-drop start bs)

    there : (i j : ℕ) → start + j ≡ i → j < m → get_or window j 0 ≡ get_or bs i 0
    there i j e l = get_or-take m (drop start bs) j 0 l ∙ get_or-drop start bs j 0 ∙ ap (λ q. get_or bs q 0) e

    this : (k < start) ⊎ (start ≤ k) → IsSingle (get_or bs k 0) (get_or bs (k + 1) 0)
    this (inl l) = h k l
    this (inr l) =
        let j : ℕ = k - start in
        subst (λ b. IsSingle b (get_or bs (k + 1) 0)) (there k j (omega arith) (omega arith))
        (subst (IsSingle (get_or window j 0)) (there (k + 1) (j + 1) (omega arith) (omega arith)) (g j (omega (arith, size))))

-- a character begins at the place
pub stays_place : (bs : List ℕ) (e i : ℕ) → i ≤ length bs → (i < length bs → is_space (get_or bs i 0) ≡ true) → Stays bs e i → IsCharBoundary bs e
stays_place bs e i within h s = this (cases_lt e i) (cases_lt i (length bs))
  where
    this : (e < i) ⊎ (i ≤ e) → (i < length bs) ⊎ (length bs ≤ i) → IsCharBoundary bs e
    this (inl l) q = IsCharBoundary-before_ascii bs e (omega arith) (omega (arith, s.space l))
    this (inr l) (inl q) =
        let same : e ≡ i = omega (arith, s.low) in
        IsCharBoundary-before_ascii bs e (omega arith) (space_low (get_or bs e 0) (ap (λ k. is_space (get_or bs k 0)) same ∙ h q))
    this (inr l) (inr q) =
        let same : length bs ≡ e = omega (arith, s.low) in
        subst (λ k. IsCharBoundary bs k) same (IsCharBoundary-end bs)

-- the pieces of a text, where some bytes of it stay
pub kept_pieces : (some gap : Bool) (bs front back : List ℕ) (n : ℕ) → IsUtf8 bs → IsUtf8 back → front ≡ take n bs → back ≡ drop n bs
    → left some gap bs ≡ take n bs ++ left some gap (drop n bs) → encodes (left some gap (chars bs)) ≡ front ++ encodes (left some gap (chars back))
kept_pieces some gap bs front back n u v f b e =
    left_bytes some gap (chars bs) ∙ ap (left some gap) (encodes-chars bs u) ∙ e
    ∙ ap (λ (l : List ℕ). l ++ left some gap (drop n bs)) (sym f)
    ∙ ap (λ (l : List ℕ). front ++ left some gap l) (sym b ∙ sym (encodes-chars back v))
    ∙ ap (λ (l : List ℕ). front ++ l) (sym (left_bytes some gap (chars back)))

-- a piece is written
pub piece_written : (mid now piece x y whole : List ℕ) → now ≡ mid ++ piece → x ≡ piece ++ y → mid ++ x ≡ whole → now ++ y ≡ whole
piece_written mid now piece x y whole f g e =
    ap (λ (l : List ℕ). l ++ y) f ∙ append_assoc mid piece y ∙ ap (λ (l : List ℕ). mid ++ l) (sym g) ∙ e
