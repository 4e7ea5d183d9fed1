-- What conversions to numbers give is in range.
use Rattle.std.proofs.Common.{◌≡◌, ℕ, ◌≤◌, Bool, true, false, cond, List, [], ◌∷◌, Result, Ok, Err, refl, sym, subst, arith}
use Rattle.std.specs.Prelude.{ℤ, neg_ℤ, nat_abs, nat_le, nat_lt, IfOk, ◌==◌}
use Rattle.std.proofs.lemmas.Bool.{leb-true, ltb-false}
use Rattle.xpath_tokens.specs.declared.numbers.NumberFault.{NumberFault}
use Rattle.xpath_tokens.specs.declared.numbers.NumberFault.TheVariants as spelling
use Rattle.xpath_tokens.specs.Numbers.{greatest, number_value, millionths, is_finer}
use Rattle.xpath_values.specs.declared.Number.{Number}
use Rattle.xpath_values.specs.declared.Number.TheVariants.{Nan, Millionths}
use Rattle.xpath_values.specs.declared.Value.{Value}
use Rattle.xpath_values.specs.declared.ValueFault.TheVariants as fault
use Rattle.xpath_values.specs.Answers.{Answer, with}
use Rattle.xpath_values.specs.Numbers.{IsNumber, in_range, number_held, is_number, unsigned, signed, negative, number_of_text, without_spaces, without_last_spaces}
use Rattle.xpath_values.specs.Values.{Meant, nodes, truth, number, text, held_as, number_of, number_of_truth, first_string, IsHeld}
use Rattle.xpath_meaning.specs.Context.{Context}
use Rattle.xpath_meaning.specs.Scope.{ScopeOf, Fits, IsOf, HasValue, IsScope, root_context}
use Rattle.vtd_location.specs.Nav.{IsNav}
use Rattle.xpath_meaning.proofs.Nodes.{some_scope}

abbrev Fit : Answer Number → Type 0
Fit r = IfOk r IsNumber

pub in_range_fits : (z : ℤ) → Fit (in_range z)
in_range_fits z = this (nat_le (nat_abs z) greatest) refl
  where
    this : (b : Bool) → nat_le (nat_abs z) greatest ≡ b → Fit (cond b (Ok (Millionths z)) (Err fault.Range))
    this true e = leb-true (nat_abs z) greatest e
    this false e = tt

value_fits : (t : List ℕ) → IfOk (number_value t) (λ n. n ≤ greatest)
value_fits t = by (is_finer t) (nat_lt greatest (millionths t)) refl
  where
    by : (a b : Bool) → nat_lt greatest (millionths t) ≡ b → IfOk (cond a (Err spelling.Fraction) (cond b (Err spelling.Range) (Ok (millionths t)))) (λ n. n ≤ greatest)
    by true b e = tt
    by false true e = tt
    by false false e = ltb-false greatest (millionths t) e

pub held_fits : (r : Result ℕ NumberFault) → IfOk r (λ n. n ≤ greatest) → Fit (number_held r)
held_fits (Ok n) h = h
held_fits (Err spelling.Fraction) h = tt
held_fits (Err spelling.Range) h = tt

pub spelled_fits : (t : List ℕ) → Fit (number_held (number_value t))
spelled_fits t = held_fits (number_value t) (value_fits t)

unsigned_fits : (t : List ℕ) → Fit (unsigned t)
unsigned_fits t = by (is_number t)
  where
    by : (b : Bool) → Fit (cond b (number_held (number_value t)) (Ok Nan))
    by true = spelled_fits t
    by false = tt

neg_fits : (z : ℤ) → nat_abs z ≤ greatest → nat_abs (neg_ℤ z) ≤ greatest
neg_fits z h = grind arith

negative_fits : (r : Answer Number) → Fit r → Fit (with r negative)
negative_fits (Ok Nan) h = tt
negative_fits (Ok (Millionths z)) h = neg_fits z h
negative_fits (Err e) h = tt

signed_fits : (t : List ℕ) → Fit (signed t)
signed_fits [] = tt
signed_fits (c ∷ cs) = by (c == 45)
  where
    by : (b : Bool) → Fit (cond b (with (unsigned cs) negative) (unsigned (c ∷ cs)))
    by true = negative_fits (unsigned cs) (unsigned_fits cs)
    by false = unsigned_fits (c ∷ cs)

pub text_fits : (t : List ℕ) → Fit (number_of_text t)
text_fits t = signed_fits (without_last_spaces (without_spaces t))

truth_fits : (b : Bool) → IsNumber (number_of_truth b)
truth_fits true = omega arith
truth_fits false = omega arith

pub meant_fits : (v : Meant) → Fits (held_as v) → Fit (number_of v)
meant_fits (nodes es) h = text_fits (first_string es)
meant_fits (truth b) h = truth_fits b
meant_fits (number x) h = h
meant_fits (text t) h = text_fits t

-- a number that is what a value of a document means is in range
pub number_fits : (s : ScopeOf) (x : Value) (r : Answer Number) → IsNav s.bytes s.lists → IsOf s x → ((c : Context) → IsScope s c → (v : Meant) → IsHeld c.document x v → r ≡ number_of v) → Fit r
number_fits s x r n k f =
    let c = root_context s.bytes n.nest s.bindings in
    let v : HasValue c.document x = k.each c (some_scope s n) in
    subst Fit (sym (f c (some_scope s n) v.value v.held)) (meant_fits v.value (subst Fits v.held.same k.fits))
