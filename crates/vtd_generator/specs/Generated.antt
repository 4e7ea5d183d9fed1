-- The document and the script of a generated run (this project's own).
use Rattle.std.specs.Prelude.{ℕ, zero, suc, ◌*◌, ◌%◌, List, [], ◌∷◌, ◌++◌, codes}
use Rattle.std.specs.Fmt.{decimal}

-- what follows the number of an order: its item, which has the number's remainder by 7 as quantity, and as text the
-- remainder of 7 times the number by 100
unfoldable pub item : ℕ → List ℕ
item i = codes "\"><item qty=\"" ++ decimal (i % 7) ++ codes "\">" ++ decimal ((7 * i) % 100) ++ codes "</item></order>"

unfoldable pub order : ℕ → List ℕ
order i = codes "<order n=\"" ++ decimal i ++ item i

-- the orders of the numbers from 1 on, with nothing between them
abbrev pub orders : ℕ → List ℕ
orders zero = []
orders (suc n) = orders n ++ order (suc n)

-- the document of so many orders
unfoldable pub generated : ℕ → List ℕ
generated n = codes "<orders>" ++ orders n ++ codes "</orders>"

abbrev tab : List ℕ
tab = 9 ∷ []

abbrev line_feed : List ℕ
line_feed = 10 ∷ []

-- a command of one field
abbrev asked : List ℕ → List ℕ → List ℕ
asked word field = word ++ tab ++ field ++ line_feed

-- The script: it counts, sums, stages an edit, applies it, and asks again.
unfoldable pub generated_script : List ℕ
generated_script =
    asked (codes "value") (codes "count(//order)")
    ++ asked (codes "value") (codes "sum(//@qty)")
    ++ asked (codes "value") (codes "count(//item[@qty = 3])")
    ++ asked (codes "set") (codes "//item[@qty = 3]/@qty" ++ tab ++ codes "9")
    ++ (codes "apply" ++ line_feed)
    ++ asked (codes "value") (codes "sum(//@qty)")
    ++ asked (codes "value") (codes "count(//item[. > 50])")
