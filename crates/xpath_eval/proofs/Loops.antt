-- Loops over nodes: what was found so far, and what is still to come.
use Rattle.std.proofs.Common.{◌≡◌, ℕ, Bool, suc, ◌<◌, ◌≤◌, List, [], ◌∷◌, ◌++◌, ◌+◌, length, drop, refl, sym, ◌∙◌, ap, subst, arith, Ok, Err, append_assoc}
use Rattle.xml_model.specs.declared.Node.{Node}
use Rattle.xml_model.specs.Tree.{Entry, Identifies}
use Rattle.xpath_tokens.specs.declared.StepAxis.{StepAxis}
use Rattle.xpath_grammar.specs.declared.expr.StepTest.{StepTest}
use Rattle.xpath_values.specs.declared.Value.{Value}
use Rattle.xpath_values.specs.declared.ValueFault.{ValueFault}
use Rattle.xpath_values.specs.declared.ValueFault.TheVariants.{Fraction, Infinite, Range, NoMemory}
use Rattle.xpath_values.specs.Answers.{Answer, and_then, with}
use Rattle.xpath_meaning.specs.Meets.{Meets, IsHeldFor, gathered}
use Rattle.xpath_values.specs.Values.{Meant, held_as}
use Rattle.xpath_meaning.specs.declared.scope.Place.{Place}
use Rattle.xpath_meaning.specs.Context.{Context, at, is_passed, stepped, in_order}
use Rattle.xpath_meaning.specs.Meaning.{kept, one_if, step_from}
use Rattle.xpath_meaning.specs.Scope.{ScopeOf, IsScope, AreNodes, AreOf, Finds, IsAt, node_if}
use Rattle.xpath_predicates.specs.Asks.{PassesAt, PassesLike}
use Rattle.xpath_sweeps.specs.Sweeps.{fewer}
use Rattle.xpath_meaning.proofs.Lists.{none_left, joined}
use Rattle.xpath_meaning.proofs.PlaceLemmas.{here, inner, stands_here, there, one_node}

-- more of the nodes that are found: what was found so far and what is still to come are the whole
pub record Continues (document : List Entry) (found : List Node) (rest whole : Answer (List Entry)) : Type 0 where
  pub entries : List Entry
  pub nodes : AreNodes document found entries
  pub split : whole ≡ with rest (λ zs. entries ++ zs)

-- what is found from some nodes, where i of them are done
pub record SoFar (s : ScopeOf) (ns : List Node) (rest : Context → List Entry → ℕ → Answer (List Entry)) (i : ℕ) (found : List Node) : Type 0 where
  pub continues : (c : Context) → IsScope s c → (es : List Entry) → AreNodes c.document ns es → Continues c.document found (rest c es i) (rest c es 0)

abbrev pub kept_rest : (Context → Answer Meant) → Context → List Entry → ℕ → Answer (List Entry)
kept_rest f c es i = kept f c (length es) (suc i) (drop i es)

abbrev pub step_rest : (Context → Entry → Answer (List Entry)) → Context → List Entry → ℕ → Answer (List Entry)
step_rest f c es i = gathered (f c) (drop i es)

with_none : (m : Answer (List Entry)) → m ≡ with m (λ zs. [] ++ zs)
with_none (Ok xs) = refl
with_none (Err e) = refl

with_more : (m : Answer (List Entry)) (xs ys : List Entry) → with (with m (λ zs. ys ++ zs)) (λ zs. xs ++ zs) ≡ with m (λ zs. (xs ++ ys) ++ zs)
with_more (Ok zs) xs ys = ap Ok (sym (append_assoc xs ys zs))
with_more (Err e) xs ys = refl

-- nothing is done
pub begins : (s : ScopeOf) (ns : List Node) (rest : Context → List Entry → ℕ → Answer (List Entry)) → SoFar s ns rest 0 []
begins s ns rest = record { continues = λ c h es k. record { entries = []; nodes = record { same = refl; within = tt }; split = with_none (rest c es 0) } }

-- a fault stays, whatever it is of
pub same_fault : {X Y V W : Type 0} (R : X → V → Type 0) (S : Y → W → Type 0) (e : ValueFault) (m : Answer V) (n : Answer W) → ((d : ValueFault) → m ≡ Err d → n ≡ Err d) → Meets R (Err e) m → Meets S (Err e) n
same_fault R S Fraction m n f y = f Fraction y
same_fault R S Infinite m n f y = f Infinite y
same_fault R S Range m n f y = f Range y
same_fault R S NoMemory m n f y = tt

-- one more is done
pub goes_on : (document : List Entry) (found ms : List Node) (xs : List Entry) (rest next whole : Answer (List Entry)) → Continues document found rest whole → rest ≡ with next (λ zs. xs ++ zs) → AreNodes document ms xs → Continues document (found ++ ms) next whole
goes_on document found ms xs rest next whole k e a = record {
  entries = k.entries ++ xs;
  nodes = joined document found ms k.entries xs k.nodes a;
  split = k.split ∙ ap (λ r. with r (λ zs. k.entries ++ zs)) e ∙ with_more next k.entries xs;
}

-- all are done
pub ends : (document : List Entry) (found : List Node) (rest whole : Answer (List Entry)) → Continues document found rest whole → rest ≡ Ok [] → Meets (AreNodes document) (Ok found) whole
ends document found rest whole k e = record {
  value = k.entries ++ [];
  meant_is = k.split ∙ ap (λ r. with r (λ zs. k.entries ++ zs)) e;
  held = subst (λ ns. AreNodes document ns (k.entries ++ [])) (append_nil found) (joined document found [] k.entries [] k.nodes (record { same = refl; within = tt }));
}
  where
    append_nil : (ns : List Node) → ns ++ [] ≡ ns
    append_nil [] = refl
    append_nil (n ∷ ns) = ap (λ ms. n ∷ ms) (append_nil ns)

-- Predicates.

pub kept_fault : (s : ScopeOf) (ns : List Node) (f : Context → Answer Meant) (i : ℕ) (p : Place) (found : List Node) (e : ValueFault) → SoFar s ns (kept_rest f) i found → i < length ns → IsAt ns i p → PassesAt s p (Err e) f → Finds s ns (Err e) (λ c es. kept f c (length es) 1 es)
kept_fault s ns f i p found e sofar h at m = record { yields = λ c hc es a. this c hc es a }
  where
    this : (c : Context) → IsScope s c → (es : List Entry) → AreNodes c.document ns es → Meets (AreNodes c.document) (Err e) (kept f c (length es) 1 es)
    this c hc es a =
        let k = here c ns es i p a h at in
        let y = m.yields (inner c es i p k) (there s c es i p hc at.position k) in
        let b = sofar.continues c hc es a in
        same_fault (PassesLike p.position) (AreNodes c.document) e (f (inner c es i p k)) (kept f c (length es) 1 es)
        (λ x q. b.split ∙ ap (λ r. with (kept f c (length es) (suc i) r) (λ zs. b.entries ++ zs)) k.front ∙ ap (λ r. with (and_then r (λ v. with (kept f c (length es) (suc (suc i)) (drop (suc i) es)) (λ zs. one_if (is_passed v (suc i)) k.entry ++ zs))) (λ zs. b.entries ++ zs)) q) y

pub kept_on : (s : ScopeOf) (ns : List Node) (f : Context → Answer Meant) (i : ℕ) (p : Place) (found next : List Node) (v : Value) → SoFar s ns (kept_rest f) i found → i < length ns → IsAt ns i p → PassesAt s p (Ok v) f
    → ((w : Meant) → v ≡ held_as w → next ≡ found ++ node_if (is_passed w p.position) p.node) → SoFar s ns (kept_rest f) (i + 1) next
kept_on s ns f i p found next v sofar h at m kept_is = record { continues = λ c hc es a. this c hc es a }
  where
    this : (c : Context) → IsScope s c → (es : List Entry) → AreNodes c.document ns es → Continues c.document next (kept_rest f c es (i + 1)) (kept_rest f c es 0)
    this c hc es a =
        let k = here c ns es i p a h at in
        let y = m.yields (inner c es i p k) (there s c es i p hc at.position k) in
        let n : i + 1 ≡ suc i = omega arith in
        let q : next ≡ found ++ node_if (is_passed y.value (suc i)) p.node = kept_is y.held.shown y.held.held ∙ ap (λ b. found ++ node_if b p.node) y.held.alike ∙ ap (λ x. found ++ node_if (is_passed y.value x) p.node) (at.position ∙ n) in
        let rest = kept_rest f c es (suc i) in
        let e = ap (λ r. kept f c (length es) (suc i) r) k.front ∙ ap (λ r. and_then r (λ w. with rest (λ zs. one_if (is_passed w (suc i)) k.entry ++ zs))) y.meant_is in
        subst (λ j. Continues c.document next (kept_rest f c es j) (kept_rest f c es 0)) (sym n) (subst (λ ms. Continues c.document ms rest (kept_rest f c es 0)) (sym q)
        (goes_on c.document found (node_if (is_passed y.value (suc i)) p.node) (one_if (is_passed y.value (suc i)) k.entry) (kept_rest f c es i) rest (kept_rest f c es 0) (sofar.continues c hc es a) e (one_node c.document p.node k.entry (is_passed y.value (suc i)) k.node k.inside)))

pub kept_end : (s : ScopeOf) (ns : List Node) (f : Context → Answer Meant) (i : ℕ) (found : List Node) → SoFar s ns (kept_rest f) i found → length ns ≤ i → Finds s ns (Ok found) (λ c es. kept f c (length es) 1 es)
kept_end s ns f i found sofar h = record { yields = λ c hc es a. ends c.document found (kept_rest f c es i) (kept_rest f c es 0) (sofar.continues c hc es a) (ap (λ r. kept f c (length es) (suc i) r) (none_left c.document ns es i a h)) }

-- Steps.

pub step_fault : (s : ScopeOf) (ns : List Node) (g : Context → List Entry → Answer (List Entry)) (axis : StepAxis) (test : StepTest) (i : ℕ) (p : Place) (found list : List Node) (e : ValueFault) (b : Bool) → ((c : Context) (es : List Entry) → g c (fewer b es) ≡ g c es) → SoFar s ns (step_rest (λ c x. g c (stepped axis test c x))) i found → i < length ns → IsAt ns i p
    → ((c : Context) → IsScope s c → (x : Entry) → Identifies p.node.kind p.node.at x c.document → AreNodes c.document list (fewer b (stepped axis test c x))) → Finds s list (Err e) g → Finds s ns (Err e) (step_from g axis test)
step_fault s ns g axis test i p found list e b same sofar h at steps m = record { yields = λ c hc es a. this c hc es a }
  where
    this : (c : Context) → IsScope s c → (es : List Entry) → AreNodes c.document ns es → Meets (AreNodes c.document) (Err e) (step_from g axis test c es)
    this c hc es a =
        let k = here c ns es i p a h at in
        let x = stepped axis test c k.entry in
        let l : AreNodes c.document list (fewer b x) = steps c hc k.entry (stands_here c es i p k) in
        let y = subst (Meets (AreNodes c.document) (Err e)) (same c x) (m.yields c hc (fewer b x) l) in
        let o = sofar.continues c hc es a in
        let rest = gathered (λ z. g c (stepped axis test c z)) (drop (suc i) es) in
        same_fault (AreNodes c.document) (AreNodes c.document) e (g c x) (step_from g axis test c es)
        (λ d q. ap (λ r. with r (in_order c.document)) (o.split ∙ ap (λ r. with (gathered (λ z. g c (stepped axis test c z)) r) (λ zs. o.entries ++ zs)) k.front ∙ ap (λ r. with (and_then r (λ ys. with rest (λ zs. ys ++ zs))) (λ zs. o.entries ++ zs)) q)) y

pub step_on : (s : ScopeOf) (ns : List Node) (g : Context → List Entry → Answer (List Entry)) (axis : StepAxis) (test : StepTest) (i : ℕ) (p : Place) (found list passed next : List Node) (b : Bool) → ((c : Context) (es : List Entry) → g c (fewer b es) ≡ g c es) → SoFar s ns (step_rest (λ c x. g c (stepped axis test c x))) i found → i < length ns → IsAt ns i p
    → ((c : Context) → IsScope s c → (x : Entry) → Identifies p.node.kind p.node.at x c.document → AreNodes c.document list (fewer b (stepped axis test c x))) → Finds s list (Ok passed) g → next ≡ found ++ passed → SoFar s ns (step_rest (λ c x. g c (stepped axis test c x))) (i + 1) next
step_on s ns g axis test i p found list passed next b same sofar h at steps m q = record { continues = λ c hc es a. this c hc es a }
  where
    this : (c : Context) → IsScope s c → (es : List Entry) → AreNodes c.document ns es → Continues c.document next (step_rest (λ c x. g c (stepped axis test c x)) c es (i + 1)) (step_rest (λ c x. g c (stepped axis test c x)) c es 0)
    this c hc es a =
        let k = here c ns es i p a h at in
        let x = stepped axis test c k.entry in
        let l : AreNodes c.document list (fewer b x) = steps c hc k.entry (stands_here c es i p k) in
        let y : IsHeldFor (AreNodes c.document) passed (g c x) = subst (IsHeldFor (AreNodes c.document) passed) (same c x) (m.yields c hc (fewer b x) l) in
        let n : i + 1 ≡ suc i = omega arith in
        let whole = step_rest (λ c x. g c (stepped axis test c x)) c es 0 in
        let rest = step_rest (λ c x. g c (stepped axis test c x)) c es (suc i) in
        let e = ap (λ r. gathered (λ z. g c (stepped axis test c z)) r) k.front ∙ ap (λ r. and_then r (λ ys. with rest (λ zs. ys ++ zs))) y.meant_is in
        subst (λ j. Continues c.document next (step_rest (λ c x. g c (stepped axis test c x)) c es j) whole) (sym n) (subst (λ ms. Continues c.document ms rest whole) (sym q)
        (goes_on c.document found passed y.value (step_rest (λ c x. g c (stepped axis test c x)) c es i) rest whole (sofar.continues c hc es a) e y.held))

-- all nodes are done; what was found is put in order
pub step_end : (s : ScopeOf) (ns : List Node) (g : Context → List Entry → Answer (List Entry)) (axis : StepAxis) (test : StepTest) (i : ℕ) (found : List Node) (r : List Node) → SoFar s ns (step_rest (λ c x. g c (stepped axis test c x))) i found → length ns ≤ i
    → ((c : Context) → IsScope s c → (es : List Entry) → AreNodes c.document found es → AreNodes c.document r (in_order c.document es)) → Finds s ns (Ok r) (step_from g axis test)
step_end s ns g axis test i found r sofar h sorts = record { yields = λ c hc es a. this c hc es a }
  where
    this : (c : Context) → IsScope s c → (es : List Entry) → AreNodes c.document ns es → Meets (AreNodes c.document) (Ok r) (step_from g axis test c es)
    this c hc es a =
        let w : IsHeldFor (AreNodes c.document) found (gathered (λ z. g c (stepped axis test c z)) es) = all_done c hc es a in
        record { value = in_order c.document w.value; meant_is = ap (λ m. with m (in_order c.document)) w.meant_is; held = sorts c hc w.value w.held }
      where
        all_done : (c : Context) → IsScope s c → (es : List Entry) → AreNodes c.document ns es → IsHeldFor (AreNodes c.document) found (gathered (λ z. g c (stepped axis test c z)) es)
        all_done c hc es a = ends c.document found (step_rest (λ c x. g c (stepped axis test c x)) c es i) (step_rest (λ c x. g c (stepped axis test c x)) c es 0) (sofar.continues c hc es a) (ap (λ r. gathered (λ z. g c (stepped axis test c z)) r) (none_left c.document ns es i a h))

pub found_of : (s : ScopeOf) (ns : List Node) (rest : Context → List Entry → ℕ → Answer (List Entry)) (i : ℕ) (found : List Node) → AreOf s ns → SoFar s ns rest i found → AreOf s found
found_of s ns rest i found a sofar = record { each = λ c hc. let es = a.each c hc in let b = sofar.continues c hc es.entries es.nodes in record { entries = b.entries; nodes = b.nodes } }
