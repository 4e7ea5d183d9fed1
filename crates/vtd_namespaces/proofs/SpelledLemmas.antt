-- Characters that are at a place of some bytes, in their UTF-8.
use Rattle.std.proofs.Common.{◌≡◌, ℕ, ◌+◌, true, List, ◌++◌, length, take, drop, refl, ap, sym, ◌∙◌, append_assoc, length-append, codes}
use Rattle.std.specs.Prelude.{encode_utf8_all}
use Rattle.std.proofs.Math.Utf8.{encode}
use Rattle.std.proofs.Math.Seq.{take-append_seam, drop-append_seam}
use Rattle.std.proofs.lemmas.Str.{encodes-append}
use Rattle.std.proofs.lemmas.List.{drop-drop}
use Rattle.xml_model.specs.Chars.{size, begins}
use Rattle.xml_chars.proofs.Readers.{begins_split}

-- the characters are at the place, and something after them
pub record Spelled (bytes : List ℕ) (at : ℕ) (cs : List ℕ) : Type 0 where
  pub tail : List ℕ
  pub there : drop at bytes ≡ encode_utf8_all cs ++ tail

pub spelled_from : (bytes cs : List ℕ) (at : ℕ) → begins (encode_utf8_all cs) (drop at bytes) ≡ true → Spelled bytes at cs
spelled_from bytes cs at h = record { tail = drop (length (encode_utf8_all cs)) (drop at bytes); there = begins_split (encode_utf8_all cs) (drop at bytes) h }

pub size_append : (xs ys : List ℕ) → size (xs ++ ys) ≡ size xs + size ys
unfolding size
size_append xs ys = ap length (encodes-append xs ys) ∙ length-append (encode_utf8_all xs) (encode_utf8_all ys)

pub size_angle : size (codes "<") ≡ 1
unfolding size encode
size_angle = refl

pub size_question : size (codes "<?") ≡ 2
unfolding size encode
size_question = refl

-- the start of what is there
pub spelled_prefix : (bytes : List ℕ) (at : ℕ) (xs ys : List ℕ) → Spelled bytes at (xs ++ ys) → Spelled bytes at xs
spelled_prefix bytes at xs ys s =
    record { tail = encode_utf8_all ys ++ s.tail; there = s.there ∙ ap (λ l. l ++ s.tail) (encodes-append xs ys) ∙ append_assoc (encode_utf8_all xs) (encode_utf8_all ys) s.tail }

-- and what follows that prefix
pub spelled_back : (bytes : List ℕ) (at : ℕ) (xs ys : List ℕ) → Spelled bytes at (xs ++ ys) → Spelled bytes (at + size xs) ys
unfolding size spelled_prefix
spelled_back bytes at xs ys s =
    let f = spelled_prefix bytes at xs ys s in
    record { tail = s.tail; there = sym (drop-drop (length (encode_utf8_all xs)) at bytes) ∙ ap (drop (length (encode_utf8_all xs))) f.there ∙ drop-append_seam (encode_utf8_all xs) (encode_utf8_all ys ++ s.tail) }

-- the bytes of the characters
pub spelled_slice : (bytes : List ℕ) (at : ℕ) (cs : List ℕ) → Spelled bytes at cs → take (size cs) (drop at bytes) ≡ encode_utf8_all cs
unfolding size
spelled_slice bytes at cs s = ap (take (length (encode_utf8_all cs))) s.there ∙ take-append_seam (encode_utf8_all cs) s.tail

pub spelled_at : (bytes : List ℕ) (at to : ℕ) (cs : List ℕ) → at ≡ to → Spelled bytes at cs → Spelled bytes to cs
spelled_at bytes at to cs e s = record { tail = s.tail; there = ap (λ n. drop n bytes) (sym e) ∙ s.there }
