-- Minus signs before an expression: XPath 1.0, section 3.5. Two of them make a number of a value, and a third is as one.
use Rattle.std.specs.Prelude.{Bool, true, false}
use Rattle.xpath_grammar.specs.Tree.{Tree, negate}
use Rattle.xpath_values.specs.Answers.{Answer, and_then, with}
use Rattle.xpath_values.specs.Numbers.{negative}
use Rattle.xpath_values.specs.Values.{Meant, number, number_of}

-- an expression with one minus sign before it, or with two
abbrev pub signed : Bool → Tree → Tree
signed true e = negate e
signed false e = negate (negate e)

-- the opposite of a value as a number
abbrev pub opposite : Meant → Answer Meant
opposite v = with (number_of v) (λ x. number (negative x))

-- a value with one minus sign before it, or with two
abbrev pub signed_value : Bool → Meant → Answer Meant
signed_value true v = opposite v
signed_value false v = and_then (opposite v) opposite
