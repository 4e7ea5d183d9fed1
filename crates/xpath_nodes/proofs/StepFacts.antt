-- Steps from a node: what is found is of the document.
use Rattle.std.proofs.Common.{◌≡◌, ℕ, ◌<◌, ◌≤◌, ◌^◌, Bool, true, false, List, [], map, filter, reverse, length, Ok, Err, refl, sym, ◌∙◌, ap, subst, arith}
use Rattle.std.specs.Prelude.{IfOk}
use Rattle.std.specs.List.{AllByRecursion, Contains}
use Rattle.std.proofs.lemmas.List.{length-map, length-reverse}
use Rattle.std.proofs.lemmas.List.Sorted.{Contains-permutation, IsPermutation-sym, IsPermutation-reverse}
use Rattle.xml_model.specs.declared.Axis.{Axis}
use Rattle.xml_model.specs.declared.Axis.TheVariants as axes
use Rattle.xml_model.specs.declared.Node.{Node}
use Rattle.xml_model.specs.Items.{first_place}
use Rattle.xml_model.specs.Names.{Test, passes}
use Rattle.xml_model.specs.Records.{records, word}
use Rattle.xml_model.specs.Tree.{Entry, Identifies, axis_list, is_reverse, reverse_if, on_axis as is_on}
use Rattle.vtd_words.specs.Lists.{Lists}
use Rattle.vtd_words.specs.Table.{ForEachEntry, node_of, nodes_of}
use Rattle.vtd_location.specs.Nav.{IsNav}
use Rattle.vtd_location.proofs.NavLaws.{nest_of_table}
use Rattle.xpath_axes.specs.Tests.{nodes_on}
use Rattle.xpath_axes.specs.Tests as tests
use Rattle.xpath_values.specs.Answers.{Answer}
use Rattle.xpath_meaning.specs.declared.scope.Place.{Place}
use Rattle.xpath_tokens.specs.declared.StepAxis.{StepAxis}
use Rattle.xpath_tokens.specs.declared.StepAxis.TheVariants.{Known, Namespace}
use Rattle.xpath_grammar.specs.declared.expr.StepTest.{StepTest}
use Rattle.xpath_meaning.specs.Context.{Context, on_axis, is_attribute_axis, stepped, test_of}
use Rattle.xpath_meaning.specs.Scope.{ScopeOf, IsScope, IsPlace, HasEntry, AreNodes, AreFewOf, root_context}
use Rattle.xpath_meaning.proofs.Lists.{same_length}
use Rattle.xpath_meaning.proofs.Nodes.{some_scope}
use Rattle.xpath_nodes.proofs.OrderingLemmas.{few_nodes, filter_length, all_from, kept_of}

same_axis : (axis : Axis) → tests.is_attribute_axis axis ≡ is_attribute_axis axis
same_axis axes.Child = refl
same_axis axes.Descendant = refl
same_axis axes.Parent = refl
same_axis axes.Ancestor = refl
same_axis axes.FollowingSibling = refl
same_axis axes.PrecedingSibling = refl
same_axis axes.Following = refl
same_axis axes.Preceding = refl
same_axis axes.Attribute = refl
same_axis axes.Itself = refl
same_axis axes.DescendantOrSelf = refl
same_axis axes.AncestorOrSelf = refl

same_nodes_on : (axis : Axis) (t : Test) (e : Entry) (es : List Entry) → nodes_on axis t e es ≡ map node_of (on_axis axis t e es)
same_nodes_on axis t e es = ap (λ b. map node_of (filter (passes t b) (axis_list axis e.path es))) (same_axis axis)

reversed : (xs : List Entry) (x : Entry) → Contains (reverse xs) x → Contains xs x
reversed xs x c = Contains-permutation (reverse xs) xs x (IsPermutation-sym xs (reverse xs) (IsPermutation-reverse xs)) c

maybe_reversed : (b : Bool) (xs : List Entry) (x : Entry) → Contains (reverse_if b xs) x → Contains xs x
maybe_reversed true xs x c = reversed xs x c
maybe_reversed false xs x c = c

maybe_length : (b : Bool) (xs : List Entry) → length (reverse_if b xs) ≡ length xs
maybe_length true xs = length-reverse xs
maybe_length false xs = refl

list_within : (axis : Axis) (e : Entry) (es : List Entry) (x : Entry) → Contains (axis_list axis e.path es) x → Contains es x
unfolding axis_list
list_within axis e es x c = (kept_of (λ y. is_on axis e.path y.path) es x (maybe_reversed (is_reverse axis) (filter (λ y. is_on axis e.path y.path) es) x c)).there

list_length : (axis : Axis) (e : Entry) (es : List Entry) → length (axis_list axis e.path es) ≤ length es
unfolding axis_list
list_length axis e es =
    omega (arith, maybe_length (is_reverse axis) (filter (λ y. is_on axis e.path y.path) es), filter_length (λ y. is_on axis e.path y.path) es)

axis_within : (axis : Axis) (t : Test) (e : Entry) (es : List Entry) → AllByRecursion (λ x. Contains es x) (on_axis axis t e es)
axis_within axis t e es =
    all_from (λ x. Contains es x) (on_axis axis t e es) (λ x c. list_within axis e es x (kept_of (passes t (is_attribute_axis axis)) (axis_list axis e.path es) x c).there)

axis_length : (axis : Axis) (t : Test) (e : Entry) (es : List Entry) → length (on_axis axis t e es) ≤ length es
axis_length axis t e es = omega (arith, list_length axis e es, filter_length (passes t (is_attribute_axis axis)) (axis_list axis e.path es))

pub found_on_axis : (s : ScopeOf) (bytes : List ℕ) (lists : Lists) (n : Node) (axis : Axis) (t : Test) (list : List Node) → bytes ≡ s.bytes → lists ≡ s.lists →
    ForEachEntry bytes lists n (λ nest e. list ≡ nodes_on axis t e (nodes_of bytes nest)) →
    (c : Context) → IsScope s c → (e : Entry) → Identifies n.kind n.at e c.document → AreNodes c.document list (on_axis axis t e c.document)
found_on_axis s bytes lists n axis t list e1 e2 f c h e k =
    let Q : List ℕ → Lists → Type 0 = λ b m. ForEachEntry b m n (λ nest x. list ≡ nodes_on axis t x (nodes_of b nest)) in
    let g : Q s.bytes s.lists = subst (λ b. Q b s.lists) e1 (subst (λ m. Q bytes m) e2 f) in
    let q : list ≡ nodes_on axis t e c.document =
    subst (λ es. list ≡ nodes_on axis t e es) (sym h.document) (g h.nest (nest_of_table s.bytes s.lists h.nest h.shown) e (subst (λ es. Identifies n.kind n.at e es) h.document k)) in
    record { same = q ∙ same_nodes_on axis t e c.document; within = axis_within axis t e c.document }

pub few_on_axis : (s : ScopeOf) (p : Place) (axis : Axis) (t : Test) (list : List Node) → IsNav s.bytes s.lists → length s.lists.records < 2 ^ 32 → IsPlace s p →
    ((c : Context) → IsScope s c → (e : Entry) → Identifies p.node.kind p.node.at e c.document → AreNodes c.document list (on_axis axis t e c.document)) → AreFewOf s list
few_on_axis s p axis t list n l a f =
    let c : Context = root_context s.bytes n.nest s.bindings in
    let x : HasEntry (nodes_of s.bytes n.nest) p = a.each c (some_scope s n) in
    let g : AreNodes (nodes_of s.bytes n.nest) list (on_axis axis t x.entry (nodes_of s.bytes n.nest)) = f c (some_scope s n) x.entry x.stands in
    let u = same_length (nodes_of s.bytes n.nest) list (on_axis axis t x.entry (nodes_of s.bytes n.nest)) g in
    let v = axis_length axis t x.entry (nodes_of s.bytes n.nest) in
    let r = few_nodes n.nest (first_place s.bytes) n.shown.accepted.document.nests in
    let w : length s.lists.records ≡ length (records n.nest (first_place s.bytes)) = ap length n.shown.recorded ∙ length-map (records n.nest (first_place s.bytes)) word in
    record {
      of = record { each = λ d h. let y = a.each d h in record { entries = on_axis axis t y.entry d.document; nodes = f d h y.entry y.stands } };
      few = omega (arith, u, v, r, w, l);
    }

-- from a node of a place along an axis
abbrev pub IsFoundAlong : ScopeOf → Node → Axis → Test → List Node → Type 0
IsFoundAlong s n axis t list = (c : Context) → IsScope s c → (e : Entry) → Identifies n.kind n.at e c.document → AreNodes c.document list (on_axis axis t e c.document)

pub if_found : (s : ScopeOf) (bytes : List ℕ) (lists : Lists) (n : Node) (axis : Axis) (t : Test) (r : Answer (List Node)) → bytes ≡ s.bytes → lists ≡ s.lists →
    IfOk r (λ list. ForEachEntry bytes lists n (λ nest e. list ≡ nodes_on axis t e (nodes_of bytes nest))) → IfOk r (IsFoundAlong s n axis t)
if_found s bytes lists n axis t (Ok list) e1 e2 f = found_on_axis s bytes lists n axis t list e1 e2 f
if_found s bytes lists n axis t (Err x) e1 e2 f = tt

pub if_few : (s : ScopeOf) (p : Place) (axis : Axis) (t : Test) (r : Answer (List Node)) → IsNav s.bytes s.lists → length s.lists.records < 2 ^ 32 → IsPlace s p →
    IfOk r (IsFoundAlong s p.node axis t) → IfOk r (AreFewOf s)
if_few s p axis t (Ok list) n l a f = few_on_axis s p axis t list n l a f
if_few s p axis t (Err x) n l a f = tt

step_is : (a : StepAxis) (axis : Axis) (test : StepTest) (b : List (List ℕ × List ℕ)) (t : Test) (c : Context) (e : Entry) → a ≡ Known axis → t ≡ test_of b test → b ≡ c.bindings → on_axis axis t e c.document ≡ stepped a test c e
unfolding stepped
step_is a axis test b t c e q k h = ap (λ u. on_axis axis u e c.document) (k ∙ ap (λ x. test_of x test) h) ∙ sym (ap (λ x. stepped x test c e) q)

none_is : (a : StepAxis) (test : StepTest) (c : Context) (e : Entry) → a ≡ Namespace → [] ≡ stepped a test c e
unfolding stepped
none_is a test c e q = sym (ap (λ x. stepped x test c e) q)

pub stepped_known : (s : ScopeOf) (n : Node) (a : StepAxis) (axis : Axis) (test : StepTest) (b : List (List ℕ × List ℕ)) (t : Test) (r : Answer (List Node)) → a ≡ Known axis → t ≡ test_of b test → b ≡ s.bindings →
    IfOk r (IsFoundAlong s n axis t) → IfOk r (λ list. (c : Context) → IsScope s c → (e : Entry) → Identifies n.kind n.at e c.document → AreNodes c.document list (stepped a test c e))
stepped_known s n a axis test b t (Ok list) q k h f = λ c i e j. subst (AreNodes c.document list) (step_is a axis test b t c e q k (h ∙ sym i.bindings)) (f c i e j)
stepped_known s n a axis test b t (Err x) q k h f = tt

pub stepped_none : (s : ScopeOf) (n : Node) (a : StepAxis) (test : StepTest) (list : List Node) → a ≡ Namespace → list ≡ [] →
    (c : Context) → IsScope s c → (e : Entry) → Identifies n.kind n.at e c.document → AreNodes c.document list (stepped a test c e)
stepped_none s n a test list q k c i e j = subst (AreNodes c.document list) (none_is a test c e q) (record { same = k; within = tt })
