-- How text is written so that a document says it (XML 1.0, sections 2.4, 2.11 and 3.3.3): what a byte of it becomes.
-- All that is escaped is ASCII, which is a byte each in UTF-8.
use Rattle.std.specs.Prelude.{ℕ, cond, ◌==◌, ◌&&◌, List, [], ◌∷◌, codes}
use Rattle.std.specs.List.{flat_map}
use Rattle.vtd_modifier.specs.declared.escaping.Escape.{Escape}
use Rattle.vtd_modifier.specs.declared.escaping.Escape.TheVariants.{Text, Value}

-- in a text: &, <, > and the carriage return
abbrev pub escaped_in_text : ℕ → List ℕ
escaped_in_text b =
    cond (b == 38) (codes "&amp;")
    (cond (b == 60) (codes "&lt;") (cond (b == 62) (codes "&gt;") (cond (b == 13) (codes "&#13;") (b ∷ []))))

-- in the value of an attribute: &, <, its own quote, TAB, line feed and carriage return
abbrev pub escaped_in_value : ℕ → ℕ → List ℕ
escaped_in_value quote b =
    cond (b == 38) (codes "&amp;")
    (cond (b == 60) (codes "&lt;")
    (cond (b == 34 && quote == 34) (codes "&quot;")
    (cond (b == 39 && quote == 39) (codes "&apos;")
    (cond (b == 9) (codes "&#9;") (cond (b == 10) (codes "&#10;") (cond (b == 13) (codes "&#13;") (b ∷ [])))))))

abbrev pub escaped_byte : Escape → ℕ → List ℕ
escaped_byte Text b = escaped_in_text b
escaped_byte (Value quote) b = escaped_in_value quote b

abbrev pub escaped : Escape → List ℕ → List ℕ
escaped escape text = flat_map (escaped_byte escape) text
