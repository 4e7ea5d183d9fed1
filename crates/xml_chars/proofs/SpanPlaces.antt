-- Where characters begin after what was read at a place.
use Rattle.std.proofs.Common.{◌≡◌, ℕ, ◌+◌, true, List, [], ◌∷◌, ◌++◌, length, drop, refl, sym, ap, subst, ◌∙◌, arith, lit<, append_assoc}
use Rattle.std.specs.Str.{IsUtf8, chars, IsCharBoundary}
use lib.Utf8.{scalars, encodes}
use Rattle.std.proofs.lemmas.Bool.{false≢true}
use Rattle.std.proofs.lemmas.Str.{chars-encodes, scalars-chars, IsUtf8-drop, IsCharBoundary-from_rest}
use Rattle.xml_model.specs.Chars.{size}
use Rattle.xml_model.specs.Items.{Piece, literal, entity, decimal, hexadecimal, written_piece}
use Rattle.xml_chars.specs.Places.{span_from, holds, is_reference, reference_shown, IsReferenceAt, IsTextSpan, HasTextPlaces}
use Rattle.xml_chars.specs.declared.Reference.{Reference}
use Rattle.xml_chars.proofs.Points.{Cut, cut_of}
use Rattle.xml_chars.proofs.HoldLemmas.{prefix_holds, size-append}
use Rattle.xml_chars.proofs.PlaceLemmas.{one_byte}
use Rattle.xml_chars.proofs.TextLemmas.{scalars_back}

-- after a prefix of the characters from a place on
pub prefix_ends : (bytes : List ℕ) (at : ℕ) (w v : List ℕ) → IsUtf8 bytes → IsCharBoundary bytes at → chars (drop at bytes) ≡ w ++ v → IsCharBoundary bytes (at + size w)
unfolding size
prefix_ends bytes at w v u b e =
    let ub : IsUtf8 (drop at bytes) = IsUtf8-drop bytes at u b in
    let s : scalars v ≡ true = scalars_back w v (ap scalars (sym e) ∙ scalars-chars (drop at bytes) ub) in
    let k : Cut (drop at bytes) (encodes v) w = cut_of (drop at bytes) (encodes v) w ub (v, (s, refl)) (e ∙ ap (λ (l : List ℕ). w ++ l) (sym (chars-encodes v s))) in
    IsCharBoundary-from_rest bytes at (length (encodes w)) b.0 (subst (λ (n : ℕ). IsCharBoundary (drop at bytes) n) k.len k.boundary)

-- a part of the characters from a place on
pub part_holds : (bytes : List ℕ) (at p : ℕ) (w n v : List ℕ) → IsUtf8 bytes → IsCharBoundary bytes at → chars (drop at bytes) ≡ w ++ (n ++ v) → p ≡ at + size w → IsTextSpan bytes (span_from p n)
part_holds bytes at p w n v u b e is = record {
  start = subst (λ (k : ℕ). IsCharBoundary bytes k) (sym is) (prefix_ends bytes at w (n ++ v) u b e);
  end = subst (λ (k : ℕ). IsCharBoundary bytes k) (omega (arith, size-append w n)) (prefix_ends bytes at (w ++ n) v u b (e ∙ sym (append_assoc w n v)));
  order = omega arith;
}

-- ---- references

reference_ends : (bytes : List ℕ) (at : ℕ) (w : List ℕ) → IsUtf8 bytes → IsCharBoundary bytes at → holds bytes at w ≡ true → IsCharBoundary bytes (at + size w)
reference_ends bytes at w u b s = let f = prefix_holds (drop at bytes) w (IsUtf8-drop bytes at u b) s in prefix_ends bytes at w f.0 u b f.1

entity_split : (n v : List ℕ) → written_piece (entity n) ++ v ≡ (38 ∷ []) ++ (n ++ (59 ∷ v))
entity_split n v = simp append_assoc

piece_places : (bytes : List ℕ) (at : ℕ) (p : Piece) → IsUtf8 bytes → IsCharBoundary bytes at → is_reference p ≡ true → holds bytes at (written_piece p) ≡ true → HasTextPlaces bytes (reference_shown at p)
piece_places bytes at (literal c) u b r s = absurd (false≢true r)
piece_places bytes at (decimal d) u b r s = reference_ends bytes at (written_piece (decimal d)) u b s
piece_places bytes at (hexadecimal d) u b r s = reference_ends bytes at (written_piece (hexadecimal d)) u b s
piece_places bytes at (entity n) u b r s =
    let f = prefix_holds (drop at bytes) (written_piece (entity n)) (IsUtf8-drop bytes at u b) s in
    (part_holds bytes at (at + 1) (38 ∷ []) n (59 ∷ f.0) u b (f.1 ∙ entity_split n f.0) (omega (arith, one_byte 38 (lit< tt))), prefix_ends bytes at (written_piece (entity n)) f.0 u b f.1)

pub reference_places : (bytes : List ℕ) (at : ℕ) (found : Reference) → IsUtf8 bytes → IsCharBoundary bytes at → IsReferenceAt bytes at found → HasTextPlaces bytes found
reference_places bytes at found u b h = subst (HasTextPlaces bytes) (sym h.shown) (piece_places bytes at h.piece u b h.refers h.there)
