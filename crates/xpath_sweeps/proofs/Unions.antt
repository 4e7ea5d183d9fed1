-- Steps from whole lists of nodes: what is found is of the document.
use Rattle.std.proofs.Common.{◌≡◌, ℕ, suc, ◌<◌, ◌≤◌, ◌^◌, Bool, true, false, ◌&&◌, nat_le, List, [], ◌∷◌, map, filter, length, Ok, Err, refl, sym, ◌∙◌, ap}
use Rattle.std.proofs.Common.{subst, arith}
use Rattle.std.specs.Prelude.{IfErr, IfOk, Result}
use Rattle.std.specs.List.{AllByRecursion, Contains, flat_map}
use Rattle.std.proofs.lemmas.List.{length-map}
use Rattle.xml_model.specs.declared.Axis.{Axis}
use Rattle.xml_model.specs.declared.Axis.TheVariants as axes
use Rattle.xml_model.specs.declared.Node.{Node}
use Rattle.xml_model.specs.Contexts.{AreContexts, Rises, on_any, union_list}
use Rattle.xml_model.specs.Items.{first_place}
use Rattle.xml_model.specs.Names.{Test, passes}
use Rattle.xml_model.specs.Records.{records, word}
use Rattle.xml_model.specs.Tree.{Entry}
use Rattle.xml_model.proofs.Each.{each_at}
use Rattle.vtd_words.specs.Lists.{Lists}
use Rattle.vtd_words.specs.Table.{node_of, nodes_of}
use Rattle.vtd_location.specs.Nav.{IsNav}
use Rattle.vtd_location.proofs.NavLaws.{nest_of_table}
use Rattle.xpath_axes.specs.Tests as tests
use Rattle.xpath_steps.specs.Steps.{AreNodesOf, ForEachContexts, step_nodes}
use Rattle.xpath_tokens.specs.declared.StepAxis.{StepAxis}
use Rattle.xpath_tokens.specs.declared.StepAxis.TheVariants.{Known, Namespace}
use Rattle.xpath_grammar.specs.declared.expr.StepTest.{StepTest}
use Rattle.xpath_grammar.specs.Tree.{none}
use Rattle.xpath_values.specs.declared.ValueFault.{ValueFault}
use Rattle.xpath_values.specs.declared.ValueFault.TheVariants.{NoMemory}
use Rattle.xpath_values.specs.Answers.{Answer}
use Rattle.xpath_meaning.specs.Context.{Context, in_order, is_attribute_axis, stepped, test_of}
use Rattle.xpath_meaning.specs.Meaning.{filtered, step_from}
use Rattle.xpath_meaning.specs.Scope.{ScopeOf, IsScope, AreFewOf, AreNodes, Finds, HaveEntries, root_context}
use Rattle.xpath_meaning.proofs.Lists.{node_at, same_length}
use Rattle.xpath_meaning.proofs.Nodes.{some_scope}
use Rattle.xpath_nodes.proofs.OrderingLemmas.{few_nodes, filter_length, all_from, kept_of}
use Rattle.xpath_laws.specs.Fused.{IsTree}
use Rattle.xpath_laws.proofs.Trees.{tree_of_nest}
use Rattle.xpath_laws.proofs.AtOnce.{bare_step, union_step}
use Rattle.xpath_sweeps.specs.Sweeps.{are_in_order, rise_from}

left_of : (a b : Bool) → (a && b) ≡ true → a ≡ true
left_of true b h = refl
left_of false b h = h

right_of : (a b : Bool) → (a && b) ≡ true → b ≡ true
right_of true b h = h
right_of false b h = absurd cc

le_true : (m n : ℕ) → nat_le m n ≡ true → m ≤ n
le_true m n h = grind arith

-- nodes whose indexes rise from a number on are not below it
all_above : (low : ℕ) (es : List Entry) → rise_from low (map node_of es) ≡ true → AllByRecursion (λ e. low ≤ e.index) es
all_above low [] h = tt
all_above low (e ∷ es) h =
    let k : low ≤ e.index = le_true low e.index (left_of _ _ h) in
    (k, more es (all_above (suc e.index) es (right_of (nat_le low e.index) _ h)))
  where
    more : (ys : List Entry) → AllByRecursion (λ y. suc e.index ≤ y.index) ys → AllByRecursion (λ y. low ≤ y.index) ys
    more [] a = tt
    more (y ∷ ys) a = (let k : low ≤ e.index = le_true low e.index (left_of _ _ h) in omega (arith, k, a.0), more ys a.1)

below : (n : ℕ) (es : List Entry) → AllByRecursion (λ e. suc n ≤ e.index) es → AllByRecursion (λ e. n < e.index) es
below n [] h = tt
below n (e ∷ es) h = (omega (arith, h.0), below n es h.1)

entries_rise : (low : ℕ) (es : List Entry) → rise_from low (map node_of es) ≡ true → Rises es
entries_rise low [] h = tt
entries_rise low (e ∷ es) h =
    let k = right_of (nat_le low e.index) _ h in
    (below e.index es (all_above (suc e.index) es k), entries_rise (suc e.index) es k)

contexts_of : (document : List Entry) (ns : List Node) (es : List Entry) → AreNodes document ns es → are_in_order ns ≡ true → AreContexts es document
contexts_of document ns es a h = record {
  among = λ x c. each_at (λ y. Contains document y) es x a.within c;
  rise = entries_rise 0 es (subst (λ ms. are_in_order ms ≡ true) a.same h);
}

-- each node of a list is of the document
pub nodes_known : (s : ScopeOf) (bytes : List ℕ) (lists : Lists) (ns : List Node) → bytes ≡ s.bytes → lists ≡ s.lists → IsNav s.bytes s.lists →
    AreFewOf s ns → AreNodesOf bytes lists ns
nodes_known s bytes lists ns e1 e2 n a = rw (e1, e2) this
  where
    this : AreNodesOf s.bytes s.lists ns
    this = λ k d h.
        let x : HaveEntries (nodes_of s.bytes n.nest) ns = a.of.each (root_context s.bytes n.nest s.bindings) (some_scope s n) in
        let y = node_at (nodes_of s.bytes n.nest) k ns x.entries d x.nodes h in
        rw y.is (record { nest = n.nest; shown = nest_of_table s.bytes s.lists n.nest n.shown; entry = y.entry; holds = (y.inside, refl, refl) })

same_axis : (axis : Axis) → tests.is_attribute_axis axis ≡ is_attribute_axis axis
same_axis axes.Child = refl
same_axis axes.Descendant = refl
same_axis axes.Parent = refl
same_axis axes.Ancestor = refl
same_axis axes.FollowingSibling = refl
same_axis axes.PrecedingSibling = refl
same_axis axes.Following = refl
same_axis axes.Preceding = refl
same_axis axes.Attribute = refl
same_axis axes.Itself = refl
same_axis axes.DescendantOrSelf = refl
same_axis axes.AncestorOrSelf = refl

-- what a step finds from many nodes
abbrev pub found_in : Axis → Test → List Entry → List Entry → List Entry
found_in axis t es document = filter (passes t (is_attribute_axis axis)) (union_list axis es document)

same_nodes : (axis : Axis) (t : Test) (cs es : List Entry) → step_nodes axis t cs es ≡ map node_of (found_in axis t cs es)
same_nodes axis t cs es = ap (λ b. map node_of (filter (passes t b) (union_list axis cs es))) (same_axis axis)

found_within : (axis : Axis) (t : Test) (es document : List Entry) → AllByRecursion (λ x. Contains document x) (found_in axis t es document)
unfolding union_list
found_within axis t es document = all_from (λ x. Contains document x) (found_in axis t es document)
    (λ x c. (kept_of (on_any axis es) document x (kept_of (passes t (is_attribute_axis axis)) (filter (on_any axis es) document) x c).there).there)

found_length : (axis : Axis) (t : Test) (es document : List Entry) → length (found_in axis t es document) ≤ length document
unfolding union_list
found_length axis t es document =
    omega (arith, filter_length (passes t (is_attribute_axis axis)) (filter (on_any axis es) document), filter_length (on_any axis es) document)

abbrev pub IsUnion : ScopeOf → List Node → Axis → Test → List Node → Type 0
IsUnion s ns axis t list = (c : Context) → IsScope s c → (es : List Entry) → AreNodes c.document ns es → AreNodes c.document list (found_in axis t es c.document)

union_known : (s : ScopeOf) (bytes : List ℕ) (lists : Lists) (ns : List Node) (axis : Axis) (t : Test) (list : List Node) → bytes ≡ s.bytes →
    lists ≡ s.lists → are_in_order ns ≡ true →
    ForEachContexts bytes lists ns (λ nest cs. list ≡ step_nodes axis t cs (nodes_of bytes nest)) → IsUnion s ns axis t list
union_known s bytes lists ns axis t list e1 e2 o f c h es a =
    let Q : List ℕ → Lists → Type 0 = λ b m. ForEachContexts b m ns (λ nest cs. list ≡ step_nodes axis t cs (nodes_of b nest)) in
    let g : Q s.bytes s.lists = subst (λ b. Q b s.lists) e1 (subst (λ m. Q bytes m) e2 f) in
    let b : AreNodes (nodes_of s.bytes h.nest) ns es = subst (λ d. AreNodes d ns es) h.document a in
    let q : list ≡ step_nodes axis t es c.document =
    subst (λ d. list ≡ step_nodes axis t es d) (sym h.document)
    (g h.nest (nest_of_table s.bytes s.lists h.nest h.shown) es (sym a.same) (contexts_of (nodes_of s.bytes h.nest) ns es b o)) in
    record { same = q ∙ same_nodes axis t es c.document; within = found_within axis t es c.document }

pub if_union : {E : Type 0} (s : ScopeOf) (bytes : List ℕ) (lists : Lists) (ns : List Node) (axis : Axis) (t : Test) (q : Result (List Node) E) (list : List Node) (r : Answer (List Node)) → q ≡ Ok list → r ≡ Ok list → bytes ≡ s.bytes → lists ≡ s.lists → are_in_order ns ≡ true →
    IfOk q (λ l. ForEachContexts bytes lists ns (λ nest cs. l ≡ step_nodes axis t cs (nodes_of bytes nest))) → IfOk r (IsUnion s ns axis t)
if_union {E} s bytes lists ns axis t q list r a b e1 e2 o f = subst (λ x. IfOk x (IsUnion s ns axis t)) (sym b)
    (union_known s bytes lists ns axis t list e1 e2 o (subst (λ x. IfOk x (λ l. ForEachContexts bytes lists ns (λ nest cs. l ≡ step_nodes axis t cs (nodes_of bytes nest)))) a f))

pub no_list : {X : Type 0} (P : X → Type 0) (r : Answer X) (e : ValueFault) → r ≡ Err e → IfOk r P
no_list {X} P r e h = subst (λ x. IfOk x P) (sym h) tt

few_known : (s : ScopeOf) (ns : List Node) (axis : Axis) (t : Test) (list : List Node) → IsNav s.bytes s.lists → length s.lists.records < 2 ^ 32 →
    AreFewOf s ns → IsUnion s ns axis t list → AreFewOf s list
few_known s ns axis t list n l a f =
    let c : Context = root_context s.bytes n.nest s.bindings in
    let x : HaveEntries (nodes_of s.bytes n.nest) ns = a.of.each c (some_scope s n) in
    let g : AreNodes (nodes_of s.bytes n.nest) list (found_in axis t x.entries (nodes_of s.bytes n.nest)) = f c (some_scope s n) x.entries x.nodes in
    let u = same_length (nodes_of s.bytes n.nest) list (found_in axis t x.entries (nodes_of s.bytes n.nest)) g in
    let v = found_length axis t x.entries (nodes_of s.bytes n.nest) in
    let r = few_nodes n.nest (first_place s.bytes) n.shown.accepted.document.nests in
    let w : length s.lists.records ≡ length (records n.nest (first_place s.bytes)) = ap length n.shown.recorded ∙ length-map (records n.nest (first_place s.bytes)) word in
    record {
      of = record { each = λ d h. let y = a.of.each d h in record { entries = found_in axis t y.entries d.document; nodes = f d h y.entries y.nodes } };
      few = omega (arith, u, v, r, w, l);
    }

pub if_few : (s : ScopeOf) (ns : List Node) (axis : Axis) (t : Test) (r : Answer (List Node)) → IsNav s.bytes s.lists → length s.lists.records < 2 ^ 32 →
    AreFewOf s ns → IfOk r (IsUnion s ns axis t) → IfOk r (AreFewOf s)
if_few s ns axis t (Ok list) n l a f = few_known s ns axis t list n l a f
if_few s ns axis t (Err x) n l a f = tt

pub tree_of_scope : (s : ScopeOf) (c : Context) → IsScope s c → IsTree c.document
tree_of_scope s c h = subst IsTree (sym h.document) (tree_of_nest h.nest (first_place s.bytes) h.shown.accepted.document.nests)

-- a step along an axis without predicates
pub finds_union : (s : ScopeOf) (ns : List Node) (a : StepAxis) (axis : Axis) (test : StepTest) (b : List (List ℕ × List ℕ)) (t : Test) (r : Answer (List Node)) → a ≡ Known axis → t ≡ test_of b test → b ≡ s.bindings →
    IfOk r (IsUnion s ns axis t) → IfErr r (λ e. e ≡ NoMemory) → Finds s ns r (step_from (filtered none) a test)
finds_union s ns a axis test b t (Ok list) q k h f e = record {
  yields = λ c hc es n.
      let same : t ≡ test_of c.bindings test = k ∙ ap (λ x. test_of x test) (h ∙ sym hc.bindings) in
      record {
        value = found_in axis t es c.document;
        meant_is = ap (λ x. step_from (filtered none) x test c es) q ∙ union_step c axis test es (tree_of_scope s c hc)
            ∙ ap (λ u. Ok (found_in axis u es c.document)) (sym same);
        held = f c hc es n;
      };
}
finds_union s ns a axis test b t (Err x) q k h f e = record { yields = λ c hc es n. rw e tt }

flat_none : (c : Context) (test : StepTest) (es : List Entry) → flat_map (stepped Namespace test c) es ≡ []
unfolding stepped
flat_none c test [] = refl
flat_none c test (e ∷ es) = flat_none c test es

order_none : (document : List Entry) → in_order document [] ≡ []
unfolding in_order
order_none [] = refl
order_none (e ∷ es) = order_none es

-- a step along the axis that has no nodes here
pub finds_none : (s : ScopeOf) (ns : List Node) (a : StepAxis) (test : StepTest) (list : List Node) → a ≡ Namespace → list ≡ [] →
    Finds s ns (Ok list) (step_from (filtered none) a test)
finds_none s ns a test list q k = record {
  yields = λ c hc es n. record {
    value = [];
    meant_is = ap (λ x. step_from (filtered none) x test c es) q ∙ bare_step Namespace test c es
        ∙ ap (λ xs. Ok (in_order c.document xs)) (flat_none c test es) ∙ ap Ok (order_none c.document);
    held = record { same = k; within = tt };
  };
}
