-- Characters that are at a place of the bytes, which is the edge of a character.
use Rattle.std.proofs.Common.{◌≡◌, ℕ, ◌+◌, ◌≤◌, Bool, true, List, [], ◌∷◌, ◌++◌, length, take, drop, cond, refl, sym, ap, subst, ◌∙◌, arith, ◌&&◌, false, append-nil, append_assoc, length-append, length-drop}
use Rattle.std.specs.Str.{IsUtf8}
use lib.Utf8.{scalar, scalars, encode, encodes}
use Rattle.std.proofs.lemmas.Bool.{and_parts, and_from}
use Rattle.std.proofs.lemmas.List.{take_at, drop_at, drop-drop}
use Rattle.std.proofs.lemmas.Str.{scalars-chars, encodes-chars, encodes-append}
use Rattle.xml_model.specs.Chars.{begins, size}
use Rattle.xml_model.specs.Items.{Item, spelling, written, begins_at, meets, ends_well, may_begin_at, first_place, byte_order_mark}
use Rattle.xml_chars.proofs.Readers.{begins_append}
use Rattle.xml_chars.proofs.HoldLemmas.{prefix_holds, holds_prefix}

pub record HasNameRecord (bytes : List ℕ) (at : ℕ) (w : List ℕ) : Type 0 where
  pub within : at ≤ length bytes
  pub utf8 : IsUtf8 (drop at bytes)
  pub there : begins (encodes w) (drop at bytes) ≡ true

pub scalars_back : (w v : List ℕ) → scalars (w ++ v) ≡ true → scalars v ≡ true
scalars_back [] v s = s
scalars_back (c ∷ w) v s = scalars_back w v (and_parts (scalar c) (scalars (w ++ v)) s).1

pub scalars_prefix : (w v : List ℕ) → scalars (w ++ v) ≡ true → scalars w ≡ true
scalars_prefix [] v s = refl
scalars_prefix (c ∷ w) v s = let q = and_parts (scalar c) (scalars (w ++ v)) s in and_from (scalar c) (scalars w) q.0 (scalars_prefix w v q.1)

-- the bytes from the place on, in two parts
pub record Split (bytes : List ℕ) (at : ℕ) (w : List ℕ) : Type 0 where
  pub after : List ℕ
  pub whole : drop at bytes ≡ encodes w ++ encodes after
  pub good : scalars (w ++ after) ≡ true

pub split_of : (bytes : List ℕ) (at : ℕ) (w : List ℕ) → HasNameRecord bytes at w → Split bytes at w
split_of bytes at w s =
    let f = prefix_holds (drop at bytes) w s.utf8 s.there in
    record {
      after = f.0;
      whole = sym (encodes-chars (drop at bytes) s.utf8) ∙ ap encodes f.1 ∙ encodes-append w f.0;
      good = ap scalars (sym f.1) ∙ scalars-chars (drop at bytes) s.utf8;
    }

pub holds_left : (bytes : List ℕ) (at : ℕ) (a b : List ℕ) → HasNameRecord bytes at (a ++ b) → HasNameRecord bytes at a
holds_left bytes at a b s =
    let f = prefix_holds (drop at bytes) (a ++ b) s.utf8 s.there in
    record { within = s.within; utf8 = s.utf8; there = holds_prefix (drop at bytes) a (b ++ f.0) s.utf8 (f.1 ∙ append_assoc a b f.0) }

pub holds_right : (bytes : List ℕ) (at : ℕ) (a b : List ℕ) → HasNameRecord bytes at (a ++ b) → HasNameRecord bytes (at + size a) b
unfolding size
holds_right bytes at a b s =
    let p = split_of bytes at (a ++ b) s in
    let v = p.after in
    let whole : drop at bytes ≡ encodes a ++ (encodes b ++ encodes v) = p.whole ∙ ap (λ (l : List ℕ). l ++ encodes v) (encodes-append a b) ∙ append_assoc (encodes a) (encodes b) (encodes v) in
    let back : drop (at + length (encodes a)) bytes ≡ encodes b ++ encodes v =
    sym (drop-drop (length (encodes a)) at bytes) ∙ ap (drop (length (encodes a))) whole ∙ drop_at (encodes a) (encodes b ++ encodes v) (length (encodes a)) refl in
    let sum : length (drop at bytes) ≡ length (encodes a) + length (encodes b ++ encodes v) = ap (λ (l : List ℕ). length l) whole ∙ length-append (encodes a) (encodes b ++ encodes v) in
    let good : scalars (b ++ v) ≡ true = scalars_back a (b ++ v) (ap scalars (sym (append_assoc a b v)) ∙ p.good) in
    record {
      within = omega (arith, sum, length-drop at bytes, s.within);
      utf8 = (b ++ v, (good, encodes-append b v ∙ sym back));
      there = ap (begins (encodes b)) back ∙ begins_append (encodes b) (encodes v);
    }

pub holds_past : (bytes : List ℕ) (at : ℕ) (w : List ℕ) → HasNameRecord bytes at w → HasNameRecord bytes (at + size w) []
holds_past bytes at w s = holds_right bytes at w [] (subst (λ (l : List ℕ). HasNameRecord bytes at l) (sym (append-nil w)) s)

-- what is between others
pub holds_middle : (bytes : List ℕ) (at : ℕ) (a b c : List ℕ) → HasNameRecord bytes at (a ++ (b ++ c)) → HasNameRecord bytes (at + size a) b
holds_middle bytes at a b c s = holds_left bytes (at + size a) b c (holds_right bytes at a (b ++ c) s)

-- the slice of the characters' size is they
pub record SliceIs (bytes : List ℕ) (at : ℕ) (w : List ℕ) : Type 0 where
  pub within : at + size w ≤ length bytes
  pub bytes_are : take (size w) (drop at bytes) ≡ encodes w
  pub utf8 : IsUtf8 (take (size w) (drop at bytes))

pub slice_is : (bytes : List ℕ) (at : ℕ) (w : List ℕ) → HasNameRecord bytes at w → SliceIs bytes at w
unfolding size
slice_is bytes at w s =
    let p = split_of bytes at w s in
    let is : take (length (encodes w)) (drop at bytes) ≡ encodes w = ap (take (length (encodes w))) p.whole ∙ take_at (encodes w) (encodes p.after) (length (encodes w)) refl in
    record {
      within = (holds_past bytes at w s).within;
      bytes_are = is;
      utf8 = (w, (scalars_prefix w p.after p.good, sym is));
    }

-- an item at a place
pub record ItemHolds (bytes : List ℕ) (at : ℕ) (i : Item) : Type 0 where
  pub meet : meets i ≡ true
  pub holds : HasNameRecord bytes at (written i)

pub item_holds : (bytes : List ℕ) (at : ℕ) (i : Item) → HasNameRecord bytes at [] → begins_at bytes at i ≡ true → ItemHolds bytes at i
unfolding begins_at spelling
item_holds bytes at i s h =
    let p = and_parts (meets i && begins (encodes (written i)) (drop at bytes) && ends_well i (drop (at + length (encodes (written i))) bytes)) (may_begin_at i (first_place bytes) at) h in
    let q = and_parts (meets i && begins (encodes (written i)) (drop at bytes)) (ends_well i (drop (at + length (encodes (written i))) bytes)) p.0 in
    let r = and_parts (meets i) (begins (encodes (written i)) (drop at bytes)) q.0 in
    record { meet = r.0; holds = record { within = s.within; utf8 = s.utf8; there = r.1 } }

mark_size : 0 + size (0xFEFF ∷ []) ≡ 3
unfolding size encode
mark_size = refl

mark_bytes : encodes (0xFEFF ∷ []) ≡ byte_order_mark
unfolding encode
mark_bytes = refl

-- the first item's place
pub first_holds : (bytes : List ℕ) → IsUtf8 bytes → HasNameRecord bytes (first_place bytes) []
unfolding first_place
first_holds bytes u = by (begins byte_order_mark bytes) refl
  where
    start : (w : List ℕ) → begins (encodes w) bytes ≡ true → HasNameRecord bytes 0 w
    start w h = record { within = omega arith; utf8 = u; there = h }

    by : (b : Bool) → begins byte_order_mark bytes ≡ b → HasNameRecord bytes (cond b 3 0) []
    by true h = subst (λ (n : ℕ). HasNameRecord bytes n []) mark_size (holds_past bytes 0 (0xFEFF ∷ []) (start (0xFEFF ∷ []) (ap (λ (l : List ℕ). begins l bytes) mark_bytes ∙ h)))
    by false h = start [] refl
