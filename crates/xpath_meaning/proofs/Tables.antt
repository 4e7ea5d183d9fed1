-- Rows that are sought in several tables.
use Rattle.std.proofs.Common.{◌≡◌, ℕ, Bool, true, false, cond, List, [], ◌∷◌, ◌++◌, Some, refl, ◌∙◌, ap}
use Rattle.std.specs.Str.{bytes_eq}
use Rattle.xpath_tokens.specs.Tokens.{find_named}
use Rattle.xpath_tokens.specs.Reading.{or_else}
use Rattle.xpath_meaning.specs.Functions.{node_functions, text_functions, seeking_functions, truth_functions, number_functions, function_named}

found_in_both : {X : Type 0} (ps qs : List (List ℕ × X)) (w : List ℕ) → find_named (ps ++ qs) w ≡ or_else (find_named ps w) (find_named qs w)
found_in_both [] qs w = refl
found_in_both (p ∷ ps) qs w = this (found_in_both ps qs w) (bytes_eq w p.0)
  where
    this : find_named (ps ++ qs) w ≡ or_else (find_named ps w) (find_named qs w) → (b : Bool) → cond b (Some p.1) (find_named (ps ++ qs) w) ≡ or_else (cond b (Some p.1) (find_named ps w)) (find_named qs w)
    this i true = refl
    this i false = i

pub function_parts : (f : List ℕ) → function_named f ≡ or_else (find_named node_functions f) (or_else (find_named text_functions f) (or_else (find_named seeking_functions f) (or_else (find_named truth_functions f) (find_named number_functions f))))
function_parts f =
    found_in_both node_functions (text_functions ++ (seeking_functions ++ (truth_functions ++ number_functions))) f
    ∙ ap (or_else (find_named node_functions f)) (found_in_both text_functions (seeking_functions ++ (truth_functions ++ number_functions)) f
    ∙ ap (or_else (find_named text_functions f)) (found_in_both seeking_functions (truth_functions ++ number_functions) f
    ∙ ap (or_else (find_named seeking_functions f)) (found_in_both truth_functions number_functions f)))
