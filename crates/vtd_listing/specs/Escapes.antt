-- What is printed of a string (this project's own): one line, in which a tab, a line feed, a carriage return and a
-- backslash are written as in the fields of a script.
use Rattle.std.specs.Prelude.{ℕ, cond, ◌==◌, List, [], ◌∷◌, ◌++◌, codes, encode_utf8_all}
use Rattle.std.specs.List.{flat_map}
use Rattle.vtd_listing.specs.Listing.{line_feed}

-- how a character is written in a field
abbrev pub escaped_char : ℕ → List ℕ
escaped_char c =
    cond (c == 9) (codes "\\t")
    (cond (c == 10) (codes "\\n") (cond (c == 13) (codes "\\r") (cond (c == 92) (codes "\\\\") (c ∷ []))))

-- how the characters of a string are written in a field
abbrev pub escaped : List ℕ → List ℕ
escaped text = flat_map escaped_char text

-- the line of a string, by its characters
unfoldable pub value_line : List ℕ → List ℕ
value_line text = codes "value " ++ encode_utf8_all (escaped text) ++ line_feed

-- What private functions promise.

-- how a character other than a tab, a line feed and a carriage return is written
abbrev pub doubled_char : ℕ → List ℕ
doubled_char c = cond (c == 92) (codes "\\\\") (c ∷ [])
