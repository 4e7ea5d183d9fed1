-- What callers read: what a reference refers to, a character or a name.
use Rattle.std.specs.Prelude.{ℕ, List}
use Rattle.std.specs.Str.{chars}
use Rattle.xml_model.specs.Items.{Piece, literal, entity, decimal, hexadecimal, number_of}
use Rattle.xml_chars.specs.declared.references.Referred.{Referred}
use Rattle.xml_chars.specs.declared.references.Referred.TheVariants.{Char, Named}

pub data Shown : Type 0 where
  character : ℕ → Shown
  name : List ℕ → Shown

abbrev pub shown : Piece → Shown
shown (literal c) = character c
shown (entity n) = name n
shown (decimal digits) = character (number_of 10 digits)
shown (hexadecimal digits) = character (number_of 16 digits)

-- what the value that code hands out refers to
abbrev pub referred : Referred → Shown
referred (Char c) = character c
referred (Named n) = name (chars n.now)
