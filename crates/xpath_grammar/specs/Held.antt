-- What a map of bindings shows.
use Rattle.std.specs.Prelude.{ℕ, List, map, string_bytes, String}
use Rattle.std.specs.Str.{chars}

-- the bindings of a map, in its order, each prefix as its code points
abbrev pub shown : {Z : Type 0} → List (String Z × List ℕ) → List (List ℕ × List ℕ)
shown es = map (λ e. (chars (string_bytes e.0), e.1)) es
