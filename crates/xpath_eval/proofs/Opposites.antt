-- Three minus signs are as one.
use Rattle.std.proofs.Common.{◌≡◌, Bool, true, false, not, refl, sym, ap, Ok, Err}
use Rattle.std.proofs.Math.IntN.{neg_ℤ-neg_ℤ}
use Rattle.xpath_grammar.specs.Tree.{Tree, negate}
use Rattle.xpath_values.specs.declared.Number.{Number}
use Rattle.xpath_values.specs.declared.Number.TheVariants.{Nan, Millionths}
use Rattle.xpath_values.specs.declared.ValueFault.{ValueFault}
use Rattle.xpath_values.specs.Answers.{Answer, and_then, with}
use Rattle.xpath_values.specs.Numbers.{negative}
use Rattle.xpath_values.specs.Values.{Meant, number, number_of}
use Rattle.xpath_meaning.specs.Context.{Context}
use Rattle.xpath_meaning.specs.Meaning.{mean}
use Rattle.xpath_eval.specs.Signs.{signed, opposite}

twice : (x : Number) → negative (negative x) ≡ x
twice Nan = refl
twice (Millionths z) = ap Millionths (neg_ℤ-neg_ℤ z)

three_numbers : (r : Answer Number) → and_then (and_then (with r (λ x. number (negative x))) opposite) opposite ≡ with r (λ x. number (negative x))
three_numbers (Ok x) = ap (λ y. Ok (number y)) (twice (negative x))
three_numbers (Err e) = refl

three : (m : Answer Meant) → and_then (and_then (and_then m opposite) opposite) opposite ≡ and_then m opposite
three (Ok v) = three_numbers (number_of v)
three (Err e) = refl

-- one more minus sign
pub one_more_sign : (b : Bool) (e : Tree) (c : Context) → mean (signed (not b) e) c ≡ mean (signed b (negate e)) c
one_more_sign true e c = refl
one_more_sign false e c = sym (three (mean e c))
