-- Appending what is left to a text, prefix by prefix.
use Rattle.std.proofs.Common.{◌≡◌, ℕ, ◌≤◌, List, ◌∷◌, ◌++◌, length, take, refl, sym, ap, subst, ◌∙◌, arith, append_assoc}
use Rattle.std.specs.Str.{IsUtf8, IsCharBoundary, chars}
use lib.Utf8.{encode, encodes}
use Rattle.std.proofs.lemmas.List.{take_at, take-append-le, length-take}
use Rattle.std.proofs.lemmas.Str.{encodes-chars, encodes-append, encodes_same, IsCharBoundary-from_take}

-- a prefix of what is left was appended
pub prefix_appended : (held one prefix left now : List ℕ) → IsUtf8 prefix → one ≡ chars prefix ++ left → now ≡ held ++ prefix → held ++ encodes one ≡ now ++ encodes left
prefix_appended held one prefix left now u e f =
    ap (λ (l : List ℕ). held ++ encodes l) e ∙ ap (λ (l : List ℕ). held ++ l) (encodes-append (chars prefix) left ∙ ap (λ (l : List ℕ). l ++ encodes left) (encodes-chars prefix u))
    ∙ sym (append_assoc held prefix (encodes left)) ∙ ap (λ (l : List ℕ). l ++ encodes left) (sym f)

-- a character, and then a prefix
pub more_appended : (held one next prefix left mid now : List ℕ) (c : ℕ) → IsUtf8 prefix → one ≡ c ∷ next → next ≡ chars prefix ++ left → mid ≡ held ++ encode c → now ≡ mid ++ prefix → held ++ encodes one ≡ now ++ encodes left
more_appended held one next prefix left mid now c u e f g h =
    ap (λ (l : List ℕ). held ++ encodes l) e ∙ sym (append_assoc held (encode c) (encodes next)) ∙ ap (λ (l : List ℕ). l ++ encodes next) (sym g) ∙ prefix_appended mid next prefix left now u f h

-- what was there before stays the prefix
pub kept_prefix : (old held more now : List ℕ) → take (length old) held ≡ old → now ≡ held ++ more → take (length old) now ≡ old
kept_prefix old held more now k e =
    let low : length old ≤ length held = omega (arith, ap length k, length-take (length old) held) in
    ap (take (length old)) e ∙ take-append-le (length old) held more low ∙ k

pub kept_start : (old more now : List ℕ) → now ≡ old ++ more → take (length old) now ≡ old
kept_start old more now e = ap (take (length old)) e ∙ take_at old more (length old) refl

-- where what was there ends, the text may be cut
pub cut_kept : (old now : List ℕ) (n : ℕ) → n ≡ length old → IsUtf8 old → IsUtf8 now → take (length old) now ≡ old → IsCharBoundary now n
cut_kept old now n e u v k =
    let low : length old ≤ length now = omega (arith, ap length k, length-take (length old) now) in
    let t : IsUtf8 (take (length old) now) = subst IsUtf8 (sym k) u in
    subst (IsCharBoundary now) (sym e) (IsCharBoundary-from_take now (length old) v low t)

-- the characters of what was appended
pub chars_appended : (old now content : List ℕ) → IsUtf8 old → IsUtf8 now → now ≡ old ++ encodes content → chars now ≡ chars old ++ content
chars_appended old now content u v e =
    encodes_same (chars now) (chars old ++ content) (encodes-chars now v ∙ e ∙ ap (λ (l : List ℕ). l ++ encodes content) (sym (encodes-chars old u)) ∙ sym (encodes-append (chars old) content))
