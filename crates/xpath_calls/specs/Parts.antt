-- The count of a part of a text, where it is written (this project's own).
use Rattle.std.specs.Prelude.{Option, Some, None, Ok}
use Rattle.xpath_values.specs.declared.Number.{Number}
use Rattle.xpath_values.specs.Answers.{Answer, with}
use Rattle.xpath_values.specs.Values.{Meant, number_of}

-- the number of a value that may be there
abbrev pub number_if : Option Meant → Answer (Option Number)
number_if None = Ok None
number_if (Some v) = with (number_of v) Some
