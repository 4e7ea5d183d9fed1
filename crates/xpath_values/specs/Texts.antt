-- Texts, as lists of code points: XPath 1.0, section 4.2.
use Rattle.std.specs.Prelude.{ℕ, suc, Bool, true, false, cond, ◌&&◌, ◌==◌, List, [], ◌∷◌, ◌++◌, Option, Some}
use Rattle.std.specs.Prelude.{◌||◌, bytes_eq, map, None, length, drop, filter, position, option_map, option_to_list}
use Rattle.std.specs.Prelude.{is_some}
use Rattle.std.specs.Char.{to_ascii_lowercase}
use Rattle.std.specs.List.{flat_map, slice_get}
use Rattle.xml_model.specs.Chars.{is_space, begins}
use Rattle.xpath_values.specs.declared.Number.{Number}
use Rattle.xpath_values.specs.Numbers.{reaches, is_before_sum, round}

-- a text cut at a piece of it: what is before and what after
abbrev pub Cut : Type 0
Cut = List ℕ × List ℕ

abbrev pub longer : ℕ → Option Cut → Option Cut
longer c None = None
longer c (Some x) = Some (c ∷ x.0, x.1)

-- a text cut at the first place where a piece is; none where it is nowhere
abbrev pub cut_at : List ℕ → List ℕ → Option Cut
cut_at piece [] = cond (begins piece []) (Some ([], [])) None
cut_at piece (c ∷ cs) =
    cond (begins piece (c ∷ cs)) (Some ([], drop (length piece) (c ∷ cs))) (longer c (cut_at piece cs))

abbrev pub before_cut : Option Cut → List ℕ
before_cut None = []
before_cut (Some x) = x.0

abbrev pub after_cut : Option Cut → List ℕ
after_cut None = []
after_cut (Some x) = x.1

abbrev pub starts_with : List ℕ → List ℕ → Bool
starts_with t piece = begins piece t

abbrev pub contains : List ℕ → List ℕ → Bool
contains t piece = is_some (cut_at piece t)

abbrev pub substring_before : List ℕ → List ℕ → List ℕ
substring_before t piece = before_cut (cut_at piece t)

abbrev pub substring_after : List ℕ → List ℕ → List ℕ
substring_after t piece = after_cut (cut_at piece t)

-- the characters at the positions that pass, where the first has the position p
abbrev pub at_positions : (ℕ → Bool) → ℕ → List ℕ → List ℕ
at_positions test p [] = []
at_positions test p (c ∷ cs) = cond (test p) (c ∷ at_positions test (suc p) cs) (at_positions test (suc p) cs)

-- whether a position is at least a number, and where a count is there, below the sum of the two
abbrev pub is_within : Number → Option Number → ℕ → Bool
is_within first None p = reaches first p
is_within first (Some count) p = reaches first p && is_before_sum first count p

-- both numbers are rounded
abbrev pub substring : List ℕ → Number → Option Number → List ℕ
substring t from count = at_positions (is_within (round from) (option_map round count)) 1 t

-- the parts of a text between single white space characters
abbrev pub put : ℕ → List (List ℕ) → List (List ℕ)
put c [] = (c ∷ []) ∷ []
put c (w ∷ ws) = (c ∷ w) ∷ ws

abbrev pub parts : List ℕ → List (List ℕ)
parts [] = [] ∷ []
parts (c ∷ cs) = cond (is_space c) ([] ∷ parts cs) (put c (parts cs))

abbrev pub is_some_text : List ℕ → Bool
is_some_text [] = false
is_some_text (c ∷ cs) = true

-- the words of a text, between white space
abbrev pub words : List ℕ → List (List ℕ)
words t = filter is_some_text (parts t)

-- words, each after a space
abbrev pub spaced : List (List ℕ) → List ℕ
spaced [] = []
spaced (w ∷ ws) = 32 ∷ (w ++ spaced ws)

-- one space between words
abbrev pub joined : List (List ℕ) → List ℕ
joined [] = []
joined (w ∷ ws) = w ++ spaced ws

abbrev pub normalize_space : List ℕ → List ℕ
normalize_space t = joined (words t)

-- a character that is found becomes the one at the same place in the other text, or goes
abbrev pub replaced : ℕ → List ℕ → Option ℕ → List ℕ
replaced c to None = c ∷ []
replaced c to (Some k) = option_to_list (slice_get to k)

abbrev pub translate : List ℕ → List ℕ → List ℕ → List ℕ
translate t from to = flat_map (λ c. replaced c to (position (λ d. d == c) from)) t

-- Languages: XPath 1.0, section 4.3.

-- a value of xml:lang is of a language: it is its name, or begins with it and a hyphen, the case of ASCII letters aside
abbrev pub is_language : List ℕ → List ℕ → Bool
is_language value language =
    bytes_eq (map to_ascii_lowercase value) (map to_ascii_lowercase language)
    || begins (map to_ascii_lowercase language ++ (45 ∷ [])) (map to_ascii_lowercase value)
