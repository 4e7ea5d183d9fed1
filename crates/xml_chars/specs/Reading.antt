-- What callers read: what the functions over texts read, of names, white space and references.
use Rattle.std.specs.Prelude.{ℕ, Bool, true, false, cond, ◌==◌, List, [], ◌∷◌, codes, get_or, nat_lt}
use Rattle.std.specs.Char.{is_digit}
use Rattle.xml_model.specs.Chars.{is_space, is_name_start, is_name_char}
use Rattle.xml_model.specs.Items.{Piece, entity, decimal, hexadecimal, is_number}
use Rattle.xml_chars.specs.Readers.{Reader, both, mapped, kept, run, one_of, word, choose_by}

-- the first character, where it is ASCII; 0 at the end, and 128 where it is not ASCII
unfoldable pub ascii_head : List ℕ → ℕ
ascii_head [] = 0
ascii_head (c ∷ text) = cond (nat_lt c 128) c 128

abbrev pub begins_name : List ℕ → Bool
begins_name [] = false
begins_name (c ∷ text) = is_name_start c

unfoldable pub read_char : Reader ℕ
read_char = one_of (λ c. true)

-- XML 1.0, productions 5 and 3, as long as they can be
unfoldable pub read_name : Reader (List ℕ)
read_name = kept begins_name (run is_name_char)

unfoldable pub read_space : Reader (List ℕ)
read_space = run is_space

-- the digits of a reference to a character, which name a Char (XML 1.0, production 66)
unfoldable pub read_digits : ℕ → Reader (List ℕ)
read_digits base = kept (is_number base) (run (λ c. is_digit c base))

abbrev pub read_number : ℕ → Reader (List ℕ × Unit {0})
read_number base = both (read_digits base) (λ _. word (codes ";"))

pub data ReferenceForm : Type 0 where
  named in_decimal in_hexadecimal : ReferenceForm

unfoldable pub reference_form : List ℕ → ReferenceForm
reference_form text = cond (get_or text 1 0 == 35) (cond (get_or text 2 0 == 120) in_hexadecimal in_decimal) named

abbrev pub read_form : ReferenceForm → Reader Piece
read_form named = mapped (λ p. entity p.1.0) (both (word (codes "&")) (λ _. both read_name (λ _. word (codes ";"))))
read_form in_decimal = mapped (λ p. decimal p.1.0) (both (word (codes "&#")) (λ _. read_number 10))
read_form in_hexadecimal = mapped (λ p. hexadecimal p.1.0) (both (word (codes "&#x")) (λ _. read_number 16))

-- XML 1.0, production 67
unfoldable pub read_reference : Reader Piece
read_reference = choose_by reference_form read_form
