-- Rows that are sought in several tables.
use Rattle.std.proofs.Common.{◌≡◌, ℕ, Bool, true, false, cond, List, [], ◌∷◌, ◌++◌, Some, refl, ◌∙◌, ap}
use Rattle.std.specs.Str.{bytes_eq}
use Rattle.xpath_tokens.specs.Tokens.{find_named}
use Rattle.xpath_tokens.specs.Reading.{or_else}
use Rattle.xpath_grammar.specs.Functions.{node_set_functions, string_functions, finding_functions, boolean_functions, number_functions, signature_of}

find_named-append : {X : Type 0} (ps qs : List (List ℕ × X)) (w : List ℕ) → find_named (ps ++ qs) w ≡ or_else (find_named ps w) (find_named qs w)
find_named-append [] qs w = refl
find_named-append (p ∷ ps) qs w = this (find_named-append ps qs w) (bytes_eq w p.0)
  where
    this : find_named (ps ++ qs) w ≡ or_else (find_named ps w) (find_named qs w) → (b : Bool) → cond b (Some p.1) (find_named (ps ++ qs) w) ≡ or_else (cond b (Some p.1) (find_named ps w)) (find_named qs w)
    this i true = refl
    this i false = i

pub signature_parts : (f : List ℕ) → signature_of f ≡ or_else (find_named node_set_functions f) (or_else (find_named string_functions f) (or_else (find_named finding_functions f) (or_else (find_named boolean_functions f) (find_named number_functions f))))
signature_parts f =
    find_named-append node_set_functions (string_functions ++ (finding_functions ++ (boolean_functions ++ number_functions))) f
    ∙ ap (or_else (find_named node_set_functions f)) (find_named-append string_functions (finding_functions ++ (boolean_functions ++ number_functions)) f
    ∙ ap (or_else (find_named string_functions f)) (find_named-append finding_functions (boolean_functions ++ number_functions) f
    ∙ ap (or_else (find_named finding_functions f)) (find_named-append boolean_functions number_functions f)))
