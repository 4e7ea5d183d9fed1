-- A plain text in the place of a text or of a value: the pieces that it is written with (XML 1.0, sections 2.4, 2.11
-- and 3.3.3).
use Rattle.std.specs.Prelude.{ℕ, cond, List, [], ◌∷◌, map, codes, ◌==◌}
use Rattle.xml_model.specs.Items.{Piece, literal, entity, decimal, Quote, Attribute, Leaf}

-- a character of a text: & as &amp;, < as &lt;, > as &gt;, a carriage return as &#13;
abbrev pub in_text : ℕ → Piece
in_text c =
    cond (c == 38) (entity (codes "amp"))
    (cond (c == 60) (entity (codes "lt"))
    (cond (c == 62) (entity (codes "gt")) (cond (c == 13) (decimal (codes "13")) (literal c))))

-- the quote of a value, as a reference
abbrev pub quote_name : Quote → List ℕ
quote_name Quote.single = codes "apos"
quote_name Quote.double = codes "quot"

abbrev pub quote_code : Quote → ℕ
quote_code Quote.single = 39
quote_code Quote.double = 34

-- a character of a value in quotes
abbrev pub in_value : Quote → ℕ → Piece
in_value q c =
    cond (c == 38) (entity (codes "amp"))
    (cond (c == 60) (entity (codes "lt"))
    (cond (c == quote_code q) (entity (quote_name q))
    (cond (c == 9) (decimal (codes "9"))
    (cond (c == 10) (decimal (codes "10")) (cond (c == 13) (decimal (codes "13")) (literal c))))))

-- the leaves of a text node whose content is set: one text, or none
abbrev pub set_text : List ℕ → List Leaf
set_text [] = []
set_text (c ∷ cs) = Leaf.text (map in_text (c ∷ cs)) ∷ []

-- an attribute whose value is set
abbrev pub set_value : List ℕ → Attribute → Attribute
set_value cs a = record a { value = map (in_value a.quote) cs }
