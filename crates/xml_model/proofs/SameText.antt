-- Two texts are equal where their bytes are.
use Rattle.std.proofs.Common.{◌≡◌, ◌==◌, Bool, true, false, List, [], ◌∷◌, length, ℕ, arith, refl, sym, ◌∙◌, ap, subst}
use Rattle.std.specs.Str.{bytes_eq, IsUtf8, chars}
use Rattle.std.proofs.lemmas.Str.{encodes-chars, chars-nil}
use Rattle.std.proofs.lemmas.Bool.{eqb-true, eqb-false}
use Rattle.std.specs.Prelude.{encode_utf8_all}
use Rattle.std.proofs.lemmas.Slice.Eq.{bytes_eq-Decides}

pub same_bytes : (xs ys : List ℕ) → bytes_eq xs ys ≡ true → xs ≡ ys
same_bytes xs ys h = (bytes_eq-Decides xs ys).0 h

pub bytes_same : (xs : List ℕ) → bytes_eq xs xs ≡ true
bytes_same xs = (bytes_eq-Decides xs xs).1 refl

pub same_text : (xs ys : List ℕ) → IsUtf8 xs → IsUtf8 ys → bytes_eq xs ys ≡ bytes_eq (chars xs) (chars ys)
same_text xs ys u v = this (bytes_eq xs ys) (bytes_eq (chars xs) (chars ys)) refl refl
  where
    this : (x y : Bool) → bytes_eq xs ys ≡ x → bytes_eq (chars xs) (chars ys) ≡ y → x ≡ y
    this true true h k = refl
    this false false h k = refl
    this true false h k =
        let e = same_bytes xs ys h in
        let s = bytes_same (chars xs) in
        let r : bytes_eq (chars xs) (chars ys) ≡ true = subst (λ z. bytes_eq (chars xs) (chars z) ≡ true) e s in
        sym r ∙ k
    this false true h k =
        let e = same_bytes (chars xs) (chars ys) k in
        let w : xs ≡ ys = sym (encodes-chars xs u) ∙ ap encode_utf8_all e ∙ encodes-chars ys v in
        let r : bytes_eq xs ys ≡ true = subst (λ z. bytes_eq xs z ≡ true) w (bytes_same xs) in
        sym h ∙ r

pub same_empty : (xs : List ℕ) → IsUtf8 xs → (length xs == 0) ≡ (length (chars xs) == 0)
same_empty xs u = this (length xs == 0) (length (chars xs) == 0) refl refl
  where
    none : (ys : List ℕ) → length ys ≡ 0 → ys ≡ []
    none [] h = refl
    none (y ∷ ys) h = absurd (omega arith)

    this : (x y : Bool) → (length xs == 0) ≡ x → (length (chars xs) == 0) ≡ y → x ≡ y
    this true true h k = refl
    this false false h k = refl
    this true false h k =
        let e = none xs (eqb-true (length xs) 0 h) in
        let l : length (chars xs) ≡ 0 = ap (λ z. length (chars z)) e ∙ ap length chars-nil in
        absurd (eqb-false (length (chars xs)) 0 k l)
    this false true h k =
        let e = none (chars xs) (eqb-true (length (chars xs)) 0 k) in
        let l : length xs ≡ 0 = ap length (sym (encodes-chars xs u) ∙ ap encode_utf8_all e) in
        absurd (eqb-false (length xs) 0 h l)
