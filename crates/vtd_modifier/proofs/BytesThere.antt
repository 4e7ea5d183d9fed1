-- What is in the bytes from a place on, and its parts.
use Rattle.std.proofs.Common.{◌≡◌, ℕ, zero, suc, ◌+◌, ◌<◌, ◌≤◌, Bool, true, ◌&&◌, ◌==◌, List, [], ◌∷◌, ◌++◌, length, drop, get_or, refl, ap, sym, ◌∙◌, subst, arith, eqb-true, length-drop}
use Rattle.std.specs.Prelude.{codes}
use Rattle.std.proofs.lemmas.Bool.{and_parts, and_from, false≢true}
use Rattle.std.proofs.lemmas.List.{drop-drop}
use Rattle.std.proofs.lemmas.Str.{encodes-append}
use lib.Utf8.{encodes}
use Rattle.xml_model.specs.Chars.{begins, size}
use Rattle.xml_model.specs.Items.{Item, Quote, quote_char, begins_at, meets, spelling, written, ends_well, may_begin_at, first_place}

-- these characters are there
abbrev pub There : List ℕ → ℕ → List ℕ → Type 0
There bytes at cs = begins (encodes cs) (drop at bytes) ≡ true

begins_left : (a b text : List ℕ) → begins (a ++ b) text ≡ true → begins a text ≡ true
begins_left [] b text h = refl
begins_left (c ∷ a) b [] h = h
begins_left (c ∷ a) b (d ∷ text) h =
    let q = and_parts (c == d) (begins (a ++ b) text) h in and_from (c == d) (begins a text) q.0 (begins_left a b text q.1)

begins_right : (a b text : List ℕ) → begins (a ++ b) text ≡ true → begins b (drop (length a) text) ≡ true
begins_right [] b text h = h
begins_right (c ∷ a) b [] h = absurd (false≢true h)
begins_right (c ∷ a) b (d ∷ text) h = begins_right a b text (and_parts (c == d) (begins (a ++ b) text) h).1

begins_fits : (a text : List ℕ) → begins a text ≡ true → length a ≤ length text
begins_fits [] text h = omega arith
begins_fits (c ∷ a) [] h = absurd (false≢true h)
begins_fits (c ∷ a) (d ∷ text) h = omega (arith, begins_fits a text (and_parts (c == d) (begins a text) h).1)

pub there_left : (bytes : List ℕ) (at : ℕ) (a b : List ℕ) → There bytes at (a ++ b) → There bytes at a
there_left bytes at a b h =
    begins_left (encodes a) (encodes b) (drop at bytes) (ap (λ w. begins w (drop at bytes)) (sym (encodes-append a b)) ∙ h)

pub there_right : (bytes : List ℕ) (at : ℕ) (a b : List ℕ) → There bytes at (a ++ b) → There bytes (at + size a) b
unfolding size
there_right bytes at a b h =
    ap (begins (encodes b)) (sym (drop-drop (length (encodes a)) at bytes))
    ∙ begins_right (encodes a) (encodes b) (drop at bytes) (ap (λ w. begins w (drop at bytes)) (sym (encodes-append a b)) ∙ h)

pub there_fits : (bytes : List ℕ) (at : ℕ) (a : List ℕ) → 0 < size a → There bytes at a → at + size a ≤ length bytes
unfolding size
there_fits bytes at a s h = omega (arith, s, begins_fits (encodes a) (drop at bytes) h, length-drop at bytes)

-- an item that begins at a place is there
pub item_there : (bytes : List ℕ) (at : ℕ) (i : Item) → begins_at bytes at i ≡ true → There bytes at (written i)
unfolding begins_at spelling
item_there bytes at i h =
    let x = and_parts (meets i && begins (encodes (written i)) (drop at bytes) && ends_well i (drop (at + length (encodes (written i))) bytes))
    (may_begin_at i (first_place bytes) at) h in
    let y = and_parts (meets i && begins (encodes (written i)) (drop at bytes)) (ends_well i (drop (at + length (encodes (written i))) bytes)) x.0 in
    (and_parts (meets i) (begins (encodes (written i)) (drop at bytes)) y.0).1

-- the byte at a place
pub record ByteIs (bytes : List ℕ) (at b : ℕ) : Type 0 where
  pub within : at < length bytes
  pub is : get_or bytes at 0 ≡ b

byte_is : (bytes : List ℕ) (at b : ℕ) → begins (b ∷ []) (drop at bytes) ≡ true → ByteIs bytes at b
byte_is [] zero b h = absurd (false≢true h)
byte_is [] (suc at) b h = absurd (false≢true h)
byte_is (d ∷ bytes) zero b h =
    let q = and_parts (b == d) true h in record { within = omega arith; is = sym (eqb-true b d q.0) }
byte_is (d ∷ bytes) (suc at) b h =
    let r = byte_is bytes at b h in record { within = omega (arith, r.within); is = r.is }

pub quote_there : (bytes : List ℕ) (at : ℕ) (q : Quote) → There bytes at (quote_char q ∷ []) → ByteIs bytes at (quote_char q)
unfolding Rattle.std.proofs.Math.Utf8.encode
quote_there bytes at Quote.single h = byte_is bytes at 39 h
quote_there bytes at Quote.double h = byte_is bytes at 34 h
