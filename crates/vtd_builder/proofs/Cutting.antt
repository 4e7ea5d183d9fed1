-- The bytes that end the parts of a tag say where they lie.
use Rattle.std.proofs.Common.{◌≡◌, ℕ, ◌+◌, ◌<◌, ◌≤◌, Bool, true, false, inl, inr, List, [], ◌∷◌, ◌++◌, length, take, drop, get_or, refl, sym, ap, ap₂, subst, ◌∙◌, arith, append_assoc, add-zero}
use Rattle.std.specs.Prelude.{codes, ◌&&◌, ◌==◌, not, nat_lt, nat_le}
use Rattle.std.specs.List.{list_all, prefix_len}
use Rattle.std.proofs.Math.Numerals.{one-add}
use Rattle.std.proofs.lemmas.Bool.{cases_Bool, and_parts, and_from, false≢true, eqb-true, not-false, eq-eqb, false_from_ne_true, true_from_ne_false, or_cases, ltb-true, leb-true}
use Rattle.std.proofs.lemmas.List.{length-append, get_or-drop}
use Rattle.std.proofs.lemmas.Str.{encodes-append, encode_ascii, char_from_byte}
use lib.Utf8.{encode, encodes}
use Rattle.xml_model.specs.Chars.{size, in_ranges, is_char, is_space, is_blank, is_white, name_start_ranges, is_name_start, is_name_char, is_name}
use Rattle.xml_model.specs.Items.{Piece, literal, entity, decimal, hexadecimal, Attribute, Quote, quote_char, before_value, written_piece, written_pieces, meets_piece, meets_attribute, is_number, number_of}
use Rattle.xml_chars.proofs.Points.{stop_run, encode_pos}
use Rattle.xml_chars.proofs.HoldLemmas.{size-append}
use Rattle.vtd_builder.specs.declared.tags.AttributeCut.{AttributeCut}
use Rattle.std.specs.Char.{is_digit}
use Rattle.vtd_builder.specs.Cuts.{in_name, is_low, is_other, Placed, past_name, AttributeAt, cut_of}
use Rattle.vtd_builder.proofs.Placed.{placed_back, placed_end}

-- ---- runs of bytes

pub full_run : (p : ℕ → Bool) (xs : List ℕ) (b : ℕ) (rest : List ℕ) → prefix_len p xs ≡ length xs → p b ≡ false → prefix_len p (xs ++ b ∷ rest) ≡ length xs
full_run p [] b rest e f = rw f refl
full_run p (x ∷ xs) b rest e f = elim (cases_Bool (p x)) [
  | inl t ↦
      let so : prefix_len p xs ≡ length xs = omega (arith, rw (t, one-add) at e) in
      rw (t, full_run p xs b rest so f) (omega arith)
  | inr n ↦ absurd (omega (arith, rw n at e))
]

all_run : (p : ℕ → Bool) (cs : List ℕ) → list_all p cs ≡ true → prefix_len p cs ≡ length cs
all_run p [] h = refl
all_run p (c ∷ cs) h =
    let q = and_parts (p c) (list_all p cs) h in
    rw (q.0, all_run p cs q.1) (omega arith)

take_all : (cs : List ℕ) → take (length cs) cs ≡ cs
take_all [] = refl
take_all (c ∷ cs) = ap (λ (l : List ℕ). c ∷ l) (take_all cs)

-- characters that pass are bytes that pass, where only ASCII does not
passed_bytes : (p : ℕ → Bool) → ((b : ℕ) → p b ≡ false → b < 128) → (cs : List ℕ) → list_all p cs ≡ true → prefix_len p (encodes cs) ≡ length (encodes cs)
passed_bytes p low cs h = (stop_run p low cs).len ∙ ap (λ (l : List ℕ). length (encodes l)) (ap (λ (n : ℕ). take n cs) (all_run p cs h) ∙ take_all cs)

ascii_bytes : (cs : List ℕ) → list_all (λ c. nat_lt c 128) cs ≡ true → encodes cs ≡ cs
ascii_bytes [] h = refl
ascii_bytes (c ∷ cs) h =
    let q = and_parts (nat_lt c 128) (list_all (λ c. nat_lt c 128) cs) h in
    let low : c < 128 = grind (arith, q.0) in
    ap₂ (λ (x y : List ℕ). x ++ y) (encode_ascii c low) (ascii_bytes cs q.1)

-- what follows begins with a byte that does not pass
pub record Stops (p : ℕ → Bool) (w : List ℕ) : Type 0 where
  pub first : ℕ
  pub rest : List ℕ
  pub is : encodes w ≡ first ∷ rest
  pub stops : p first ≡ false

pub stops_at : (p : ℕ → Bool) (c : ℕ) (w : List ℕ) → c < 128 → p c ≡ false → Stops p (c ∷ w)
stops_at p c w h f = record { first = c; rest = encodes w; is = ap (λ (l : List ℕ). l ++ encodes w) (encode_ascii c h); stops = f }

first_of : (xs : List ℕ) → 0 < length xs → (b : ℕ) × (rest : List ℕ) × (xs ≡ b ∷ rest)
first_of [] h = absurd (omega arith)
first_of (b ∷ rest) h = (b, rest, refl)

-- a byte below 128 is the character
pub byte_is : (c b : ℕ) (w rest : List ℕ) → encodes (c ∷ w) ≡ b ∷ rest → b < 128 → c ≡ b
byte_is c b w rest e h =
    let at : get_or (encodes (c ∷ w)) 0 0 ≡ b = ap (λ (l : List ℕ). get_or l 0 0) e in
    char_from_byte (encodes (c ∷ w)) (encodes w) c refl (omega (arith, at)) (omega (arith, ap (λ (l : List ℕ). length l) e)) ∙ at

-- so what only ASCII passes stops at a character that does not
pub stops_char : (p : ℕ → Bool) → ((b : ℕ) → p b ≡ true → b < 128) → (c : ℕ) (w : List ℕ) → p c ≡ false → Stops p (c ∷ w)
stops_char p low c w f =
    let x = first_of (encode c ++ encodes w) (omega (arith, length-append (encode c) (encodes w), encode_pos c)) in
    record {
      first = x.0;
      rest = x.1;
      is = x.2;
      stops = false_from_ne_true _ (λ t. false≢true (sym f ∙ ap p (byte_is c x.0 w x.1 x.2 (low x.0 t)) ∙ t));
    }

run_to : (p : ℕ → Bool) (bytes : List ℕ) (at : ℕ) (cs w : List ℕ) → prefix_len p (encodes cs) ≡ length (encodes cs) → Placed bytes at (cs ++ w) → Stops p w → prefix_len p (drop at bytes) ≡ size cs
unfolding size
run_to p bytes at cs w e k s =
    let here : drop at bytes ≡ encodes cs ++ (s.first ∷ (s.rest ++ k.more)) = k.here ∙ ap (λ (l : List ℕ). l ++ k.more) (encodes-append cs w) ∙ append_assoc (encodes cs) (encodes w) k.more ∙ ap (λ (l : List ℕ). encodes cs ++ (l ++ k.more)) s.is in
    ap (prefix_len p) here ∙ full_run p (encodes cs) s.first (s.rest ++ k.more) e s.stops

-- ---- names and white space

pub space_low : (c : ℕ) → is_space c ≡ true → c ≤ 32
unfolding is_space in_ranges
space_low c h = grind (arith, h)

name_stop : (c b : ℕ) → is_name_char c ≡ true → is_name_char b ≡ false → not (c == b) ≡ true
name_stop c b h f = true_from_ne_false _ (λ n. false≢true (sym f ∙ ap is_name_char (sym (eqb-true c b (not-false (c == b) n))) ∙ h))

ranges_high : (rs : List (ℕ × ℕ)) (c : ℕ) → list_all (λ (r : ℕ × ℕ). nat_lt 32 r.0) rs ≡ true → in_ranges rs c ≡ true → 32 < c
unfolding in_ranges
ranges_high [] c a h = absurd (false≢true h)
ranges_high (r ∷ rs) c a h =
    let q = and_parts (nat_lt 32 r.0) (list_all (λ (r : ℕ × ℕ). nat_lt 32 r.0) rs) a in
    let high : 32 < r.0 = ltb-true 32 r.0 q.0 in
    elim (or_cases (nat_le r.0 c && nat_le c r.1) (in_ranges rs c) h) [
      | inl t ↦ let le : r.0 ≤ c = leb-true r.0 c (and_parts (nat_le r.0 c) (nat_le c r.1) t).0 in omega arith
      | inr t ↦ ranges_high rs c q.1 t
    ]

pub name_high : (c : ℕ) → is_name_char c ≡ true → 32 < c
unfolding is_name_char is_name_start
name_high c h = elim (or_cases (in_ranges name_start_ranges c) (in_ranges ((45, 46) ∷ (48, 57) ∷ (0xB7, 0xB7) ∷ (0x300, 0x36F) ∷ (0x203F, 0x2040) ∷ []) c) h) [
  | inl t ↦ ranges_high name_start_ranges c refl t
  | inr t ↦ ranges_high ((45, 46) ∷ (48, 57) ∷ (0xB7, 0xB7) ∷ (0x300, 0x36F) ∷ (0x203F, 0x2040) ∷ []) c refl t
]

pub no_47 : is_name_char 47 ≡ false
unfolding is_name_char is_name_start in_ranges
no_47 = refl

no_61 : is_name_char 61 ≡ false
unfolding is_name_char is_name_start in_ranges
no_61 = refl

pub no_62 : is_name_char 62 ≡ false
unfolding is_name_char is_name_start in_ranges
no_62 = refl

no_34 : is_name_char 34 ≡ false
unfolding is_name_char is_name_start in_ranges
no_34 = refl

no_39 : is_name_char 39 ≡ false
unfolding is_name_char is_name_start in_ranges
no_39 = refl

in_name_of : (c : ℕ) → is_name_char c ≡ true → in_name c ≡ true
in_name_of c h =
    let high = name_high c h in
    let a : nat_lt 32 c ≡ true = grind (arith, high) in
    and_from _ _ (and_from _ _ (and_from _ _ a (name_stop c 47 h no_47)) (name_stop c 61 h no_61)) (name_stop c 62 h no_62)

pub all_of : (p q : ℕ → Bool) → ((c : ℕ) → p c ≡ true → q c ≡ true) → (cs : List ℕ) → list_all p cs ≡ true → list_all q cs ≡ true
all_of p q f [] h = refl
all_of p q f (c ∷ cs) h = let k = and_parts (p c) (list_all p cs) h in and_from _ _ (f c k.0) (all_of p q f cs k.1)

start_char : (c : ℕ) → is_name_start c ≡ true → is_name_char c ≡ true
unfolding is_name_char
start_char c h = rw h refl

pub name_chars : (n : List ℕ) → is_name n ≡ true → list_all is_name_char n ≡ true
unfolding is_name
name_chars [] h = absurd (false≢true h)
name_chars (c ∷ cs) h = let q = and_parts (is_name_start c) (list_all is_name_char cs) h in and_from _ _ (start_char c q.0) q.1

name_low : (b : ℕ) → in_name b ≡ false → b < 128
name_low b h = grind (arith, h)

space_is_low : (c : ℕ) → is_space c ≡ true → is_low c ≡ true
space_is_low c h = let l = space_low c h in grind (arith, l)

space_is_ascii : (c : ℕ) → is_space c ≡ true → nat_lt c 128 ≡ true
space_is_ascii c h = let l = space_low c h in grind (arith, l)

pub space_ends_name : (c : ℕ) → is_space c ≡ true → in_name c ≡ false
space_ends_name c h = let l = space_low c h in grind (arith, l)

pub name_run : (bytes : List ℕ) (at : ℕ) (n w : List ℕ) → is_name n ≡ true → Placed bytes at (n ++ w) → Stops in_name w → prefix_len in_name (drop at bytes) ≡ size n
name_run bytes at n w h k s = run_to in_name bytes at n w (passed_bytes in_name name_low n (all_of is_name_char in_name in_name_of n (name_chars n h))) k s

pub space_run : (bytes : List ℕ) (at : ℕ) (sp w : List ℕ) → list_all is_space sp ≡ true → Placed bytes at (sp ++ w) → Stops is_low w → prefix_len is_low (drop at bytes) ≡ size sp
space_run bytes at sp w h k s =
    let e : encodes sp ≡ sp = ascii_bytes sp (all_of is_space (λ c. nat_lt c 128) space_is_ascii sp h) in
    let r : prefix_len is_low (encodes sp) ≡ length (encodes sp) = ap (prefix_len is_low) e ∙ all_run is_low sp (all_of is_space is_low space_is_low sp h) ∙ ap (λ (l : List ℕ). length l) (sym e) in
    run_to is_low bytes at sp w r k s

-- white space ends a name, and so does what ends one after it
pub space_stops : (sp w : List ℕ) → list_all is_space sp ≡ true → Stops in_name w → Stops in_name (sp ++ w)
space_stops [] w h s = s
space_stops (c ∷ sp) w h s =
    let q = (and_parts (is_space c) (list_all is_space sp) h).0 in
    let l = space_low c q in
    stops_at in_name c (sp ++ w) (omega (arith, l)) (space_ends_name c q)

-- ---- attributes

equals_stops : (w : List ℕ) → Stops in_name (codes "=" ++ w)
equals_stops w = stops_at in_name 61 w (omega arith) refl

equals_ends : (w : List ℕ) → Stops is_low (codes "=" ++ w)
equals_ends w = stops_at is_low 61 w (omega arith) refl

quote_ends : (q : Quote) (w : List ℕ) → Stops is_low (quote_char q ∷ w)
quote_ends Quote.single w = stops_at is_low 39 w (omega arith) refl
quote_ends Quote.double w = stops_at is_low 34 w (omega arith) refl

pub quote_ascii : (q : Quote) → quote_char q < 128
quote_ascii Quote.single = omega arith
quote_ascii Quote.double = omega arith

pub append_all : (p : ℕ → Bool) (v w : List ℕ) → list_all p v ≡ true → list_all p w ≡ true → list_all p (v ++ w) ≡ true
append_all p [] w a b = b
append_all p (c ∷ v) w a b = let k = and_parts (p c) (list_all p v) a in and_from _ _ k.0 (append_all p v w k.1 b)

pub record Parted (a : Attribute) : Type 0 where
  pub name : is_name a.name ≡ true
  pub left : list_all is_space a.left ≡ true
  pub right : list_all is_space a.right ≡ true
  pub space : is_white a.space ≡ true
  pub value : list_all (meets_piece (λ c. c == quote_char a.quote)) a.value ≡ true

pub parted : (a : Attribute) → meets_attribute a ≡ true → Parted a
unfolding is_blank
parted a h =
    let v = and_parts (is_white a.space && is_name a.name && list_all is_space a.left && list_all is_space a.right) (list_all (meets_piece (λ c. c == quote_char a.quote)) a.value) h in
    let w = and_parts (is_white a.space && is_name a.name && list_all is_space a.left) (list_all is_space a.right) v.0 in
    let x = and_parts (is_white a.space && is_name a.name) (list_all is_space a.left) w.0 in
    let y = and_parts (is_white a.space) (is_name a.name) x.0 in
    record { name = y.1; left = x.1; right = w.1; space = y.0; value = v.1 }

-- ---- a byte that is in no name and in no reference

-- what is false of a byte is true of no byte that is the same
stop_by : (p : ℕ → Bool) (stop c : ℕ) → p stop ≡ false → p c ≡ true → is_other stop c ≡ true
stop_by p stop c f h = true_from_ne_false _ (λ n. false≢true (sym f ∙ ap p (sym (eqb-true c stop (not-false (c == stop) n))) ∙ h))

-- the byte is ASCII, and is in no reference
pub record Apart (stop : ℕ) : Type 0 where
  pub low : stop < 128
  pub name : is_name_char stop ≡ false
  pub digit : is_digit stop 10 ≡ false
  pub hexadecimal_digit : is_digit stop 16 ≡ false
  pub entity_mark : list_all (is_other stop) (codes "&") ≡ true
  pub decimal_mark : list_all (is_other stop) (codes "&#") ≡ true
  pub hexadecimal_mark : list_all (is_other stop) (codes "&#x") ≡ true
  pub last : list_all (is_other stop) (codes ";") ≡ true

quote_apart : (q : Quote) → Apart (quote_char q)
quote_apart Quote.single = record { low = omega arith; name = no_39; digit = refl; hexadecimal_digit = refl; entity_mark = refl; decimal_mark = refl; hexadecimal_mark = refl; last = refl }
quote_apart Quote.double = record { low = omega arith; name = no_34; digit = refl; hexadecimal_digit = refl; entity_mark = refl; decimal_mark = refl; hexadecimal_mark = refl; last = refl }

digits_of : (base : ℕ) (ds : List ℕ) → is_number base ds ≡ true → list_all (λ c. is_digit c base) ds ≡ true
digits_of base [] h = absurd (false≢true h)
digits_of base (d ∷ ds) h = (and_parts (list_all (λ c. is_digit c base) (d ∷ ds)) (is_char (number_of base (d ∷ ds))) h).0

in_reference : (stop : ℕ) (prefix middle : List ℕ) → Apart stop → list_all (is_other stop) prefix ≡ true → list_all (is_other stop) middle ≡ true → list_all (is_other stop) (prefix ++ middle ++ codes ";") ≡ true
in_reference stop prefix middle k a b = append_all (is_other stop) (prefix ++ middle) (codes ";") (append_all (is_other stop) prefix middle a b) k.last

pub name_other : (stop : ℕ) (n : List ℕ) → is_name_char stop ≡ false → is_name n ≡ true → list_all (is_other stop) n ≡ true
name_other stop n f h = all_of is_name_char (is_other stop) (λ c k. stop_by is_name_char stop c f k) n (name_chars n h)

piece_other : (stop : ℕ) (stops : ℕ → Bool) → Apart stop → ((c : ℕ) → meets_piece stops (literal c) ≡ true → is_other stop c ≡ true) → (p : Piece) → meets_piece stops p ≡ true → list_all (is_other stop) (written_piece p) ≡ true
piece_other stop stops k f (literal c) h = and_from _ _ (f c h) refl
piece_other stop stops k f (entity n) h = in_reference stop (codes "&") n k k.entity_mark (name_other stop n k.name h)
piece_other stop stops k f (decimal ds) h = in_reference stop (codes "&#") ds k k.decimal_mark (all_of (λ c. is_digit c 10) (is_other stop) (λ c d. stop_by (λ c. is_digit c 10) stop c k.digit d) ds (digits_of 10 ds h))
piece_other stop stops k f (hexadecimal ds) h =
    in_reference stop (codes "&#x") ds k k.hexadecimal_mark (all_of (λ c. is_digit c 16) (is_other stop) (λ c d. stop_by (λ c. is_digit c 16) stop c k.hexadecimal_digit d) ds (digits_of 16 ds h))

-- pieces lack a byte that no literal of them is
pub pieces_other : (stop : ℕ) (stops : ℕ → Bool) → Apart stop → ((c : ℕ) → meets_piece stops (literal c) ≡ true → is_other stop c ≡ true) → (ps : List Piece) → list_all (meets_piece stops) ps ≡ true
    → list_all (is_other stop) (written_pieces ps) ≡ true
pieces_other stop stops k f [] h = refl
pieces_other stop stops k f (p ∷ ps) h =
    let q = and_parts (meets_piece stops p) (list_all (meets_piece stops) ps) h in
    append_all (is_other stop) (written_piece p) (written_pieces ps) (piece_other stop stops k f p q.0) (pieces_other stop stops k f ps q.1)

other_low : (stop b : ℕ) → stop < 128 → is_other stop b ≡ false → b < 128
other_low stop b l h = omega (arith, eqb-true b stop (not-false (b == stop) h), l)

-- characters that are all other are so as bytes
pub other_bytes : (stop : ℕ) (cs : List ℕ) → stop < 128 → list_all (is_other stop) cs ≡ true → prefix_len (is_other stop) (encodes cs) ≡ length (encodes cs)
other_bytes stop cs l h = passed_bytes (is_other stop) (λ b k. other_low stop b l k) cs h

-- the next such byte is after them
pub other_run : (bytes : List ℕ) (at stop : ℕ) (cs w : List ℕ) → stop < 128 → list_all (is_other stop) cs ≡ true → Placed bytes at (cs ++ (stop ∷ w)) → prefix_len (is_other stop) (drop at bytes) ≡ size cs
other_run bytes at stop cs w l h k = run_to (is_other stop) bytes at cs (stop ∷ w) (other_bytes stop cs l h) k (stops_at (is_other stop) stop w l (ap not (eq-eqb stop stop refl)))

value_other : (q : Quote) (ps : List Piece) → list_all (meets_piece (λ c. c == quote_char q)) ps ≡ true → list_all (is_other (quote_char q)) (written_pieces ps) ≡ true
value_other q ps h =
    pieces_other (quote_char q) (λ c. c == quote_char q) (quote_apart q) (λ c k. (and_parts (is_char c && not (c == 60) && not (c == 38)) (not (c == quote_char q)) k).1) ps h

pub one_byte : (c : ℕ) → c < 128 → size (c ∷ []) ≡ 1
unfolding size
one_byte c h = ap (λ (l : List ℕ). length (l ++ [])) (encode_ascii c h)

pub first_byte : (bytes : List ℕ) (at c : ℕ) (w : List ℕ) → c < 128 → Placed bytes at (c ∷ w) → get_or bytes at 0 ≡ c
first_byte bytes at c w h k =
    let here : drop at bytes ≡ c ∷ (encodes w ++ k.more) = k.here ∙ ap (λ (l : List ℕ). (l ++ encodes w) ++ k.more) (encode_ascii c h) in
    sym (ap (λ (n : ℕ). get_or bytes n 0) (add-zero at)) ∙ sym (get_or-drop at bytes 0 0) ∙ ap (λ (l : List ℕ). get_or l 0 0) here

pub record CutFacts (bytes : List ℕ) (at : ℕ) (a : Attribute) : Type 0 where
  pub name : prefix_len in_name (drop at bytes) ≡ size a.name
  pub left : prefix_len is_low (drop (at + size a.name) bytes) ≡ size a.left
  pub right : prefix_len is_low (drop (at + size a.name + size a.left + 1) bytes) ≡ size a.right
  pub quote : get_or bytes (at + size a.name + size a.left + 1 + size a.right) 0 ≡ quote_char a.quote
  pub value : prefix_len (is_other (quote_char a.quote)) (drop (at + size a.name + size a.left + 1 + size a.right + 1) bytes) ≡ size (written_pieces a.value)
  pub before : size (before_value a) ≡ size a.name + size a.left + 1 + size a.right + 1
  pub end : at + size a.name + size a.left + 1 + size a.right + 1 + size (written_pieces a.value) + 1 ≤ length bytes

pub cut_facts : (bytes : List ℕ) (at : ℕ) (a : Attribute) → AttributeAt bytes at a → CutFacts bytes at a
cut_facts bytes at a k =
    let h = parted a k.meets in
    let q = quote_char a.quote in
    let r2 = written_pieces a.value ++ q ∷ [] in
    let r1 = a.right ++ (q ∷ r2) in
    let n = at + size a.name in
    let l = n + size a.left in
    let p1 = placed_back bytes at a.name (past_name a) k.placed in
    let p2 = placed_back bytes n a.left (codes "=" ++ r1) p1 in
    let p3 : Placed bytes (l + 1) r1 = subst (λ (m : ℕ). Placed bytes (l + m) r1) (one_byte 61 (omega arith)) (placed_back bytes l (codes "=") r1 p2) in
    let e = l + 1 + size a.right in
    let p4 = placed_back bytes (l + 1) a.right (q ∷ r2) p3 in
    let p5 : Placed bytes (e + 1) r2 = subst (λ (m : ℕ). Placed bytes (e + m) r2) (one_byte q (quote_ascii a.quote)) (placed_back bytes e (q ∷ []) r2 p4) in
    let p6 = placed_back bytes (e + 1) (written_pieces a.value) (q ∷ []) p5 in
    let last = placed_end bytes (e + 1 + size (written_pieces a.value)) (q ∷ []) p6 in
    let b1 : size (before_value a) ≡ size (a.name ++ a.left ++ codes "=" ++ a.right) + size (q ∷ []) = size-append (a.name ++ a.left ++ codes "=" ++ a.right) (q ∷ []) in
    let b2 = size-append (a.name ++ a.left ++ codes "=") a.right in
    let b3 = size-append (a.name ++ a.left) (codes "=") in
    let b4 = size-append a.name a.left in
    let s1 = one_byte q (quote_ascii a.quote) in
    let s2 : size (codes "=") ≡ 1 = one_byte 61 (omega arith) in
    record {
      name = name_run bytes at a.name (past_name a) h.name k.placed (space_stops a.left (codes "=" ++ r1) h.left (equals_stops r1));
      left = space_run bytes n a.left (codes "=" ++ r1) h.left p1 (equals_ends r1);
      right = space_run bytes (l + 1) a.right (q ∷ r2) h.right p3 (quote_ends a.quote r2);
      quote = first_byte bytes e q r2 (quote_ascii a.quote) p4;
      value = other_run bytes (e + 1) q (written_pieces a.value) [] (quote_ascii a.quote) (value_other a.quote a.value h.value) p5;
      before = omega (arith, b1, b2, b3, b4, s1, s2);
      end = omega (arith, last, s1);
    }

-- the places that the code finds, one after another
pub cut_equals : (bytes : List ℕ) (at : ℕ) (a : Attribute) (n e : ℕ) → CutFacts bytes at a → n ≡ at + prefix_len in_name (drop at bytes) → e ≡ n + prefix_len is_low (drop n bytes) → (n ≡ at + size a.name) × (e ≡ at + size a.name + size a.left)
cut_equals bytes at a n e f h k =
    let x : n ≡ at + size a.name = h ∙ ap (λ (m : ℕ). at + m) f.name in
    (x, k ∙ ap (λ (m : ℕ). m + prefix_len is_low (drop m bytes)) x ∙ ap (λ (m : ℕ). at + size a.name + m) f.left)

pub cut_quote : (bytes : List ℕ) (at : ℕ) (a : Attribute) (e q : ℕ) → CutFacts bytes at a → e ≡ at + size a.name + size a.left → q ≡ e + 1 + prefix_len is_low (drop (e + 1) bytes) → q ≡ at + size a.name + size a.left + 1 + size a.right
cut_quote bytes at a e q f h k =
    k ∙ ap (λ (m : ℕ). m + 1 + prefix_len is_low (drop (m + 1) bytes)) h ∙ ap (λ (m : ℕ). at + size a.name + size a.left + 1 + m) f.right

pub cut_value : (bytes : List ℕ) (at : ℕ) (a : Attribute) (q b v : ℕ) → CutFacts bytes at a → q ≡ at + size a.name + size a.left + 1 + size a.right → b ≡ get_or bytes q 0 → v ≡ q + 1 + prefix_len (is_other b) (drop (q + 1) bytes)
    → v ≡ at + size (before_value a) + size (written_pieces a.value)
cut_value bytes at a q b v f h g k =
    let c : b ≡ quote_char a.quote = g ∙ ap (λ (m : ℕ). get_or bytes m 0) h ∙ f.quote in
    let w : v ≡ at + size a.name + size a.left + 1 + size a.right + 1 + size (written_pieces a.value) =
    k ∙ ap₂ (λ (m c : ℕ). m + 1 + prefix_len (is_other c) (drop (m + 1) bytes)) h c ∙ ap (λ (m : ℕ). at + size a.name + size a.left + 1 + size a.right + 1 + m) f.value in
    omega (arith, w, f.before)

abbrev pub cut_by : ℕ → ℕ → ℕ → ℕ → ℕ → AttributeCut
cut_by s e t f g = record { item = record { name = record { start = s; end = e }; value = record { start = t; end = f } }; end = g }

same_cut : (s e t f g s' e' t' f' g' : ℕ) → s ≡ s' → e ≡ e' → t ≡ t' → f ≡ f' → g ≡ g' → cut_by s e t f g ≡ cut_by s' e' t' f' g'
same_cut s e t f g s' e' t' f' g' a b c d h = ap₂ (λ (x y : ℕ). cut_by x y t f g) a b ∙ ap₂ (λ (x y : ℕ). cut_by s' e' x y g) c d ∙ ap (λ (x : ℕ). cut_by s' e' t' f' x) h

pub cut_same : (at n q v : ℕ) (a : Attribute) → n ≡ at + size a.name → q + 1 ≡ at + size (before_value a) → v ≡ at + size (before_value a) + size (written_pieces a.value) → cut_by at n (q + 1) v (v + 1) ≡ cut_of at a
cut_same at n q v a h k l =
    same_cut at n (q + 1) v (v + 1) at (at + size a.name) (at + size (before_value a)) (at + size (before_value a) + size (written_pieces a.value)) (at + size (before_value a) + size (written_pieces a.value) + 1) refl h k l (ap (λ (m : ℕ). m + 1) l)
