-- The fields of a line, and the escapes in them (this project's own).
use Rattle.std.specs.Prelude.{ℕ, cond, ◌==◌, List, [], ◌∷◌, Option, Some, None, option_map}
use Rattle.std.specs.List.{slice_split}

-- the fields of a line, which single tabs separate
abbrev pub fields : List ℕ → List (List ℕ)
fields line = slice_split (λ b. b == 9) line

-- the character that a letter after a backslash stands for: a tab, a line feed, a carriage return, a backslash
abbrev pub escape : ℕ → Option ℕ
escape c =
    cond (c == 116) (Some 9) (cond (c == 110) (Some 10) (cond (c == 114) (Some 13) (cond (c == 92) (Some 92) None)))

abbrev pub then_with : Option ℕ → Option (List ℕ) → Option (List ℕ)
then_with None rest = None
then_with (Some c) rest = option_map (λ cs. c ∷ cs) rest

-- the characters that those of a field stand for; None where a backslash begins no escape
abbrev pub unescaped : List ℕ → Option (List ℕ)
unescaped [] = Some []
unescaped (c ∷ []) = cond (c == 92) None (Some (c ∷ []))
unescaped (c ∷ d ∷ field) =
    cond (c == 92) (then_with (escape d) (unescaped field)) (option_map (λ cs. c ∷ cs) (unescaped (d ∷ field)))
