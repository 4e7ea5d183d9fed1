-- The fields of a line, and the characters that a field stands for.
use Rattle.std.proofs.Common.{◌≡◌, ℕ, ◌+◌, ◌-◌, ◌<◌, ◌≤◌, ◌==◌, false, List, [], ◌∷◌, ◌++◌, length, get_or, take, drop, Option, Some, None, option_map, refl}
use Rattle.std.proofs.Common.{sym}
use Rattle.std.proofs.Common.{ap, ◌∙◌, arith, inl, inr, append_assoc}
use Rattle.std.specs.List.{position_or_len, before_first, after_first}
use Rattle.std.proofs.lemmas.Bool.{cases_Bool}
use Rattle.std.proofs.lemmas.List.{append-nil, take_rest}
use Rattle.std.proofs.lemmas.List.Splits.{slice_split_first}
use Rattle.vtd_lines.specs.Fields.{fields, escape, then_with, unescaped}

-- where the first tab of a line is, or its length
abbrev pub tab_place : List ℕ → ℕ
tab_place line = position_or_len (λ b. b == 9) line

-- the one field of a line without a tab
pub one_field : (line : List ℕ) → tab_place line ≡ length line → fields line ≡ line ∷ []
one_field [] h = refl
one_field (b ∷ line) h = elim (cases_Bool (b == 9)) [
  | inl t ↦ absurd (let n : 0 ≡ length (b ∷ line) = (rw t at h) in omega arith)
  | inr f ↦
      let n : 1 + tab_place line ≡ length (b ∷ line) = (rw f at h) in
      let same : tab_place line ≡ length line = omega arith in
      rw (f, one_field line same) refl
]

-- the first of more fields
pub more_fields : (line field rest : List ℕ) → tab_place line < length line → field ≡ before_first (λ b. b == 9) line
    → rest ≡ after_first (λ b. b == 9) line → fields line ≡ field ∷ fields rest
more_fields line field rest l f r =
    slice_split_first (λ b. b == 9) line 0 l ∙ ap (λ (xs : List ℕ). xs ∷ fields (after_first (λ b. b == 9) line)) (sym f)
    ∙ ap (λ (xs : List ℕ). field ∷ fields xs) (sym r)

-- a character that is no backslash stands for itself
pub plain_char : (c : ℕ) (after : List ℕ) → (c == 92) ≡ false → unescaped (c ∷ after) ≡ option_map (λ cs. c ∷ cs) (unescaped after)
plain_char c [] e = rw e refl
plain_char c (d ∷ after) e = rw e refl

-- a letter after a backslash
pub escaped_char : (first d c : ℕ) (after : List ℕ) → first ≡ 92 → 1 ≤ length after → d ≡ get_or after 0 d → escape d ≡ Some c
    → unescaped (first ∷ after) ≡ option_map (λ cs. c ∷ cs) (unescaped (drop 1 after))
escaped_char first d c [] f l g e = absurd (omega arith)
escaped_char first d c (x ∷ after) f l g e =
    ap (λ (n : ℕ). unescaped (n ∷ x ∷ after)) f ∙ ap (λ (o : Option ℕ). then_with o (unescaped after)) (ap escape (sym g) ∙ e)

-- the loop over a field: nothing is read yet
pub none_read : (text : Option (List ℕ)) → text ≡ option_map (λ cs. [] ++ cs) text
none_read None = refl
none_read (Some cs) = refl

-- the first character of those that are left, and the others
split_first : (xs : List ℕ) (d : ℕ) → 1 ≤ length xs → d ≡ get_or xs 0 d → xs ≡ d ∷ drop 1 xs
split_first [] d l e = absurd (omega arith)
split_first (x ∷ xs) d l e = ap (λ (n : ℕ). n ∷ xs) (sym e)

pub split_taken : (xs : List ℕ) (d : ℕ) → 1 ≤ length xs → d ≡ get_or xs 0 d → unescaped xs ≡ unescaped (d ∷ take (length xs - 1) (drop 1 xs))
split_taken xs d l e = ap unescaped (split_first xs d l e ∙ ap (λ (ys : List ℕ). d ∷ ys) (sym (take_rest xs 1)))

pub none_left : (xs : List ℕ) → length xs < 1 → xs ≡ []
none_left [] l = refl
none_left (x ∷ xs) l = absurd (omega arith)

-- one character more is read
pub one_more : (whole : Option (List ℕ)) (so_far : List ℕ) (c : ℕ) (here rest : Option (List ℕ)) → whole ≡ option_map (λ cs. so_far ++ cs) here
    → here ≡ option_map (λ cs. c ∷ cs) rest
    → whole ≡ option_map (λ cs. (so_far ++ c ∷ []) ++ cs) rest
one_more whole so_far c here rest w h = w ∙ ap (option_map (λ cs. so_far ++ cs)) h ∙ joined rest
  where
    joined : (rest : Option (List ℕ)) → option_map (λ cs. so_far ++ cs) (option_map (λ cs. c ∷ cs) rest) ≡ option_map (λ cs. (so_far ++ c ∷ []) ++ cs) rest
    joined None = refl
    joined (Some cs) = ap (λ (xs : List ℕ). Some xs) (sym (append_assoc so_far (c ∷ []) cs))

-- no more can be read
pub wrong_here : (whole : Option (List ℕ)) (so_far : List ℕ) (here : Option (List ℕ)) → whole ≡ option_map (λ cs. so_far ++ cs) here → here ≡ None
    → whole ≡ None
wrong_here whole so_far here w h = w ∙ ap (option_map (λ cs. so_far ++ cs)) h

-- all is read
pub all_read : (whole : Option (List ℕ)) (so_far rest : List ℕ) → whole ≡ option_map (λ cs. so_far ++ cs) (unescaped rest) → rest ≡ [] → whole ≡ Some so_far
all_read whole so_far rest w e =
    w ∙ ap (λ (r : List ℕ). option_map (λ cs. so_far ++ cs) (unescaped r)) e ∙ ap (λ (xs : List ℕ). Some xs) (append-nil so_far)
