-- Numbers of nodes, one after another.
use Rattle.std.proofs.Common.{◌≡◌, ℕ, suc, ◌<◌, ◌≤◌, ◌+◌, Bool, true, false, cond, List, ◌∷◌, drop, length, Ok, Err, refl, sym, ◌∙◌, ap, subst, arith}
use Rattle.std.specs.Prelude.{IfOk, fold}
use Rattle.xml_model.specs.declared.Node.{Node}
use Rattle.xml_model.specs.Tree.{Entry, Identifies}
use Rattle.vtd_words.specs.Lists.{Lists}
use Rattle.vtd_location.specs.Nav.{IsNav}
use Rattle.vtd_location.proofs.NavLaws.{nest_of_table}
use Rattle.xpath_values.specs.declared.Number.{Number}
use Rattle.xpath_values.specs.declared.Number.TheVariants.{Nan}
use Rattle.xpath_values.specs.declared.sums.Sum.{Sum}
use Rattle.xpath_values.specs.declared.ValueFault.{ValueFault}
use Rattle.xpath_values.specs.Answers.{Answer, and_then, with}
use Rattle.xpath_values.specs.Numbers.{IsNumber, number_of_text, sum_of}
use Rattle.xpath_values.specs.Seen.{HasString}
use Rattle.xpath_values.specs.Sums.{sum_start, sum_next, sum_value}
use Rattle.xpath_values.specs.Values.{string_value, numbers_of_nodes, sum_of_nodes}
use Rattle.xpath_values.proofs.SumLemmas.{sum_found}
use Rattle.xpath_meaning.specs.declared.scope.Place.{Place}
use Rattle.xpath_meaning.specs.Context.{Context}
use Rattle.xpath_meaning.specs.Scope.{ScopeOf, IsScope, IsPlace, HasEntry, AreNodes, IsAt, root_context}
use Rattle.xpath_meaning.proofs.Nodes.{some_scope}
use Rattle.xpath_meaning.proofs.NumberLemmas.{text_fits}
use Rattle.xpath_meaning.proofs.Lists.{none_left}
use Rattle.xpath_meaning.proofs.PlaceLemmas.{Here, here, stands_here}

-- the string-value of an entry is that of its node
pub has_string : (s : ScopeOf) (bytes : List ℕ) (lists : Lists) (n : Node) → bytes ≡ s.bytes → lists ≡ s.lists → (c : Context) → IsScope s c →
    (e : Entry) → Identifies n.kind n.at e c.document →
    HasString bytes lists n (string_value e)
has_string s bytes lists n e1 e2 c h e k = rw (e1, e2) (record {
  nest = h.nest;
  shown = nest_of_table s.bytes s.lists h.nest h.shown;
  entry = e;
  holds = subst (λ es. Identifies n.kind n.at e es) h.document k;
  same = refl;
})

abbrev pub IsNumberOf : ScopeOf → Node → Answer Number → Type 0
IsNumberOf s n r = (c : Context) → IsScope s c → (e : Entry) → Identifies n.kind n.at e c.document → r ≡ number_of_text (string_value e)

pub there_fits : (s : ScopeOf) (p : Place) (r : Answer Number) → IsNav s.bytes s.lists → IsPlace s p → IsNumberOf s p.node r → IfOk r IsNumber
there_fits s p r n a f =
    let c : Context = root_context s.bytes n.nest s.bindings in
    let x : HasEntry c.document p = a.each c (some_scope s n) in
    subst (λ m. IfOk m IsNumber) (sym (f c (some_scope s n) x.entry x.stands)) (text_fits (string_value x.entry))

-- what the sum comes to with nodes that are left
abbrev rest : Sum → List Entry → Answer Number
rest t es = and_then (numbers_of_nodes es) (λ xs. sum_value (fold sum_next t xs))

-- the whole sum is what is there, with the nodes from an index on
pub record IsSoFar (s : ScopeOf) (ns : List Node) (i : ℕ) (t : Sum) : Type 0 where
  pub fits : IfOk t.total IsNumber
  pub whole : (c : Context) → IsScope s c → (es : List Entry) → AreNodes c.document ns es → sum_of_nodes es ≡ rest t (drop i es)

then_same : (r : Answer (List Number)) (f g : List Number → Answer Number) → ((xs : List Number) → f xs ≡ g xs) → and_then r f ≡ and_then r g
then_same (Ok xs) f g k = k xs
then_same (Err e) f g k = refl

pub begins : (s : ScopeOf) (ns : List Node) (t : Sum) → t ≡ sum_start → IfOk t.total IsNumber → IsSoFar s ns 0 t
begins s ns t e f = record {
  fits = f;
  whole = λ c h es a. then_same (numbers_of_nodes es) sum_of (λ xs. sum_value (fold sum_next t xs)) (λ xs. sym (sum_found xs)
      ∙ sym (ap (λ u. sum_value (fold sum_next u xs)) e));
}

one_more : (r : Answer (List Number)) (t : Sum) (x : Number) →
    and_then (with r (λ ys. x ∷ ys)) (λ xs. sum_value (fold sum_next t xs)) ≡ and_then r (λ xs. sum_value (fold sum_next (sum_next t x) xs))
one_more (Ok xs) t x = refl
one_more (Err e) t x = refl

step : (t : Sum) (x : Number) (e : Entry) (es : List Entry) → Ok x ≡ number_of_text (string_value e) → rest t (e ∷ es) ≡ rest (sum_next t x) es
step t x e es h =
    sym (ap (λ r. and_then (and_then r (λ y. with (numbers_of_nodes es) (λ ys. y ∷ ys))) (λ xs. sum_value (fold sum_next t xs))) h)
    ∙ one_more (numbers_of_nodes es) t x

fault : (t : Sum) (f : ValueFault) (e : Entry) (es : List Entry) → Err f ≡ number_of_text (string_value e) → rest t (e ∷ es) ≡ Err f
fault t f e es h =
    sym (ap (λ r. and_then (and_then r (λ y. with (numbers_of_nodes es) (λ ys. y ∷ ys))) (λ xs. sum_value (fold sum_next t xs))) h)

pub goes_on : (s : ScopeOf) (ns : List Node) (i : ℕ) (t u : Sum) (p : Place) (x : Number) → i < length ns → IsAt ns i p → IsSoFar s ns i t →
    IsNumberOf s p.node (Ok x) →
    u ≡ sum_next t x → IfOk u.total IsNumber → IsSoFar s ns (i + 1) u
goes_on s ns i t u p x l at k f e g =
    let one : suc i ≡ i + 1 = omega arith in
    subst (λ j. IsSoFar s ns j u) one (record {
      fits = g;
      whole = λ c h es a.
          let y : Here c es i p = here c ns es i p a l at in
          k.whole c h es a ∙ ap (rest t) y.front ∙ step t x y.entry (drop (suc i) es) (f c h y.entry (stands_here c es i p y))
          ∙ sym (ap (λ v. rest v (drop (suc i) es)) e);
    })

pub stops : (s : ScopeOf) (ns : List Node) (i : ℕ) (t : Sum) (p : Place) (f : ValueFault) → i < length ns → IsAt ns i p → IsSoFar s ns i t →
    IsNumberOf s p.node (Err f) →
    (c : Context) → IsScope s c → (es : List Entry) → AreNodes c.document ns es → Err f ≡ sum_of_nodes es
stops s ns i t p f l at k g c h es a =
    let y : Here c es i p = here c ns es i p a l at in
    sym (k.whole c h es a ∙ ap (rest t) y.front ∙ fault t f y.entry (drop (suc i) es) (g c h y.entry (stands_here c es i p y)))

pub ends : (s : ScopeOf) (ns : List Node) (i : ℕ) (t : Sum) (r : Answer Number) → length ns ≤ i → IsSoFar s ns i t → r ≡ sum_value t →
    (c : Context) → IsScope s c → (es : List Entry) → AreNodes c.document ns es → r ≡ sum_of_nodes es
ends s ns i t r l k e c h es a = e ∙ sym (k.whole c h es a ∙ ap (rest t) (none_left c.document ns es i a l))

sum_fits : (t : Sum) → IfOk t.total IsNumber → IfOk (sum_value t) IsNumber
sum_fits t h = this t.nan
  where
    this : (b : Bool) → IfOk (cond b (Ok Nan) t.total) IsNumber
    this true = tt
    this false = h

pub end_fits : (t : Sum) (r : Answer Number) → IfOk t.total IsNumber → r ≡ sum_value t → IfOk r IsNumber
end_fits t r h e = subst (λ m. IfOk m IsNumber) (sym e) (sum_fits t h)
