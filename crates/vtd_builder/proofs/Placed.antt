-- What is at a place of the bytes, in parts.
use Rattle.std.proofs.Common.{◌≡◌, ℕ, ◌+◌, ◌-◌, ◌≤◌, List, ◌++◌, length, take, drop, refl, sym, ap, ◌∙◌, arith, append_assoc}
use lib.Utf8.{encodes}
use Rattle.std.proofs.lemmas.List.{take_at, drop_at, length-append, length-drop, drop-drop}
use Rattle.std.proofs.lemmas.Str.{encodes-append}
use Rattle.xml_model.specs.Chars.{size}
use Rattle.xml_chars.specs.Places.{span_from}
use Rattle.vtd_builder.specs.Found.{bytes_of, IsWithin}
use Rattle.vtd_builder.specs.Cuts.{Placed}

placed_both : (bytes : List ℕ) (at : ℕ) (v w : List ℕ) → (p : Placed bytes at (v ++ w)) → drop at bytes ≡ encodes v ++ (encodes w ++ p.more)
placed_both bytes at v w p = p.here ∙ ap (λ (l : List ℕ). l ++ p.more) (encodes-append v w) ∙ append_assoc (encodes v) (encodes w) p.more

pub placed_prefix : (bytes : List ℕ) (at : ℕ) (v w : List ℕ) → Placed bytes at (v ++ w) → Placed bytes at v
placed_prefix bytes at v w p = record {
  more = encodes w ++ p.more;
  here = placed_both bytes at v w p;
  within = p.within;
}

pub placed_end : (bytes : List ℕ) (at : ℕ) (w : List ℕ) → Placed bytes at w → at + size w ≤ length bytes
unfolding size
placed_end bytes at w p = omega (arith, length-drop at bytes, ap (λ (l : List ℕ). length l) p.here, length-append (encodes w) p.more, p.within)

pub placed_back : (bytes : List ℕ) (at : ℕ) (v w : List ℕ) → Placed bytes at (v ++ w) → Placed bytes (at + size v) w
unfolding size
placed_back bytes at v w p = record {
  more = p.more;
  here = sym (drop-drop (size v) at bytes) ∙ ap (drop (size v)) (placed_both bytes at v w p) ∙ drop_at (encodes v) (encodes w ++ p.more) (size v) refl;
  within = placed_end bytes at v (placed_prefix bytes at v w p);
}

pub placed_as : (bytes : List ℕ) (at : ℕ) (v w : List ℕ) → v ≡ w → Placed bytes at v → Placed bytes at w
placed_as bytes at v w e p = record { more = p.more; here = p.here ∙ ap (λ (l : List ℕ). encodes l ++ p.more) e; within = p.within }

-- the bytes of the span
pub placed_bytes : (bytes : List ℕ) (at : ℕ) (w : List ℕ) → Placed bytes at w → bytes_of bytes (span_from at w) ≡ encodes w
unfolding size
placed_bytes bytes at w p =
    let n : at + size w - at ≡ size w = omega arith in
    ap (λ (k : ℕ). take k (drop at bytes)) n ∙ ap (take (size w)) p.here ∙ take_at (encodes w) p.more (size w) refl

pub placed_span : (bytes : List ℕ) (at : ℕ) (w : List ℕ) → Placed bytes at w → IsWithin bytes (span_from at w)
placed_span bytes at w p = record { ordered = omega arith; within = placed_end bytes at w p }
