-- The first node of an argument.
use Rattle.std.proofs.Common.{◌≡◌, ℕ, ◌<◌, ◌==◌, false, drop, length, arith, List, [], ◌∷◌, map, Some, None, Ok, Err, refl, sym, subst}
use Rattle.std.specs.Prelude.{IfOk, IfSome, IfNone, Option}
use Rattle.std.specs.List.{slice_get}
use Rattle.std.proofs.lemmas.Bool.{false≢true}
use Rattle.xml_model.specs.declared.Node.{Node}
use Rattle.xml_model.specs.Tree.{Entry, Identifies}
use Rattle.vtd_words.specs.Table.{node_of}
use Rattle.xpath_values.specs.declared.Value.{Value}
use Rattle.xpath_values.specs.Answers.{Answer}
use Rattle.xpath_values.specs.Values.{Meant}
use Rattle.xpath_meaning.specs.declared.scope.Place.{Place}
use Rattle.xpath_meaning.specs.Context.{Context, nodes_in}
use Rattle.xpath_meaning.specs.Functions.{argument, own, of_first}
use Rattle.xpath_meaning.specs.Scope.{ScopeOf, IsScope, IsContext, AreNodes, AreHeld, IsAt}
use Rattle.xpath_meaning.proofs.PlaceLemmas.{Here, here, stands_here}
use Rattle.xpath_calls.proofs.OwnLemmas.{own_is_first}
use Rattle.xpath_calls.specs.Firsts.{IsFirst}
use Rattle.xpath_calls.proofs.Told.{Each}

-- the node of the first place is the first
pub first_place_is : (ns : List Node) (n : Node) (p : Place) → 0 < length ns → IsAt ns 0 p → n ≡ p.node → (c : Context) → (es : List Entry) →
    AreNodes c.document ns es → IsFirst c.document n es
first_place_is ns n p l at q c es a =
    let y : Here c es 0 p = here c ns es 0 p a l at in
    record {
      entry = y.entry;
      others = drop 1 es;
      parts = y.front;
      stands = subst (λ m. Identifies m.kind m.at y.entry c.document) (sym q) (stands_here c es 0 p y);
    }

pub some_there : (ns : List Node) → false ≡ (length ns == 0) → 0 < length ns
some_there [] h = absurd (false≢true h)
some_there (n ∷ ns) h = omega arith

-- the context node is the first of itself
pub own_first : (s : ScopeOf) (p : Place) (hs : List Value) (n : Node) → n ≡ p.node → (c : Context) → IsContext s p c → IsFirst c.document n (c.node ∷ [])
own_first s p hs n e c d = record { entry = c.node; others = []; parts = refl; stands = subst (λ m. Identifies m.kind m.at c.node c.document) (sym e) d.stands }

-- what the first has
pub first_has : (s : ScopeOf) (p : Place) (hs : List Value) (r : Answer (List ℕ)) (n : Node) (has : Entry → List ℕ) →
    Each s p hs (λ c vs. IsFirst c.document n (nodes_in (own c vs))) →
    IfOk r (λ t. (c : Context) → IsScope s c → (e : Entry) → Identifies n.kind n.at e c.document → t ≡ has e) →
    IfOk r (λ t. Each s p hs (λ c vs. t ≡ of_first has (nodes_in (own c vs))))
first_has s p hs (Err x) n has f k = tt
first_has s p hs (Ok t) n has f k = λ c d vs a. let g : IsFirst c.document n (nodes_in (own c vs)) = f c d vs a in
    subst (λ es. t ≡ of_first has es) (sym g.parts) (k c d.scope g.entry g.stands)

pub none_has : (s : ScopeOf) (p : Place) (hs : List Value) (r : Answer (List ℕ)) (has : Entry → List ℕ) → Each s p hs (λ c vs. nodes_in (own c vs) ≡ []) →
    IfOk r (λ t. t ≡ []) → IfOk r (λ t. Each s p hs (λ c vs. t ≡ of_first has (nodes_in (own c vs))))
none_has s p hs (Err x) has f k = tt
none_has s p hs (Ok t) has f k = λ c d vs a. subst (λ es. t ≡ of_first has es) (sym (f c d vs a)) k

-- the first of the first argument's nodes
pub first_some : (s : ScopeOf) (p : Place) (hs : List Value) (h : Value) (ns : List Node) (r : Option Node) → slice_get hs 0 ≡ Some h →
    ((document : List Entry) (vs : List Meant) → AreHeld document hs vs → AreNodes document ns (nodes_in (argument 0 vs))) →
    IfSome r (λ n. (c : Context) → IsScope s c → (es : List Entry) → AreNodes c.document ns es → IsFirst c.document n es) →
    IfSome r (λ n. Each s p hs (λ c vs. IsFirst c.document n (nodes_in (own c vs))))
first_some s p hs h ns None e f k = tt
first_some s p hs h ns (Some n) e f k = λ c d vs a. subst (λ v. IsFirst c.document n (nodes_in v)) (own_is_first c hs vs h e a) (k c d.scope (nodes_in
    (argument 0 vs)) (f c.document vs a))

no_entries : (document : List Entry) (es : List Entry) → AreNodes document [] es → es ≡ []
no_entries document [] a = refl
no_entries document (e ∷ es) a = let h : [] ≡ node_of e ∷ map node_of es = a.same in absurd (cc)

pub first_none : (s : ScopeOf) (p : Place) (hs : List Value) (h : Value) (ns : List Node) (r : Option Node) → slice_get hs 0 ≡ Some h →
    ((document : List Entry) (vs : List Meant) → AreHeld document hs vs → AreNodes document ns (nodes_in (argument 0 vs))) →
    IfNone r (ns ≡ []) → IfNone r (Each s p hs (λ c vs. nodes_in (own c vs) ≡ []))
first_none s p hs h ns (Some n) e f k = tt
first_none s p hs h ns None e f k = λ c d vs a. subst (λ v. nodes_in v ≡ []) (own_is_first c hs vs h e a)
    (no_entries c.document (nodes_in (argument 0 vs)) (subst (λ ms. AreNodes c.document ms (nodes_in (argument 0 vs))) k (f c.document vs a)))
