-- Steps of which the first node alone is asked for.
use Rattle.std.proofs.Common.{◌≡◌, ℕ, suc, ◌<◌, ◌^◌, Bool, true, false, List, [], ◌∷◌, ◌++◌, map, filter, take, length, Option, Some, None, Ok}
use Rattle.std.proofs.Common.{Err, refl, sym, ◌∙◌, ap, subst, arith}
use Rattle.std.specs.Prelude.{IfNone, IfOk, option_to_list}
use Rattle.std.specs.List.{AllByRecursion, Contains}
use Rattle.xml_model.specs.declared.Axis.{Axis}
use Rattle.xml_model.specs.declared.Axis.TheVariants as axes
use Rattle.xml_model.specs.declared.Node.{Node}
use Rattle.xml_model.specs.Names.{Test, passes}
use Rattle.xml_model.specs.Nest.{Forest}
use Rattle.xml_model.specs.Tree.{Entry, Identifies, axis_list}
use Rattle.vtd_words.specs.Lists.{Lists}
use Rattle.vtd_words.specs.Table.{ForEachEntry, ForEachNest, IsNestOf, node_of, nodes_of}
use Rattle.vtd_location.proofs.NavLaws.{nest_of_table}
use Rattle.xpath_axes.specs.Tests.{nodes_on}
use Rattle.xpath_axes.specs.Tests as tests
use Rattle.xpath_tokens.specs.declared.StepAxis.{StepAxis}
use Rattle.xpath_tokens.specs.declared.StepAxis.TheVariants.{Known, Namespace}
use Rattle.xpath_grammar.specs.declared.expr.StepTest.{StepTest}
use Rattle.xpath_grammar.specs.Tree.{Tree, Trees, more}
use Rattle.xpath_values.specs.Answers.{Answer, and_then, with}
use Rattle.xpath_values.specs.Numbers.{counted}
use Rattle.xpath_values.specs.Values.{Meant, number}
use Rattle.xpath_meaning.specs.declared.scope.Place.{Place}
use Rattle.xpath_meaning.specs.Context.{Context, at, is_attribute_axis, is_passed, on_axis, stepped, test_of}
use Rattle.xpath_meaning.specs.Meaning.{filtered, kept, mean, one_if}
use Rattle.xpath_meaning.specs.Scope.{ScopeOf, AreFewOf, AreNodes, IsPlace, IsScope}
use Rattle.xpath_laws.specs.Fused.{Among, here}
use Rattle.xpath_laws.proofs.AtOnce.{is_found_on}
use Rattle.xpath_laws.proofs.Numbered.{numbered}
use Rattle.xpath_laws.proofs.Trees.{among_contains}
use Rattle.xpath_sweeps.specs.Sweeps.{fewer}

kept_alike : (p : Tree) (m : Answer Meant) (c : Context) (n q : ℕ) (es : List Entry) → ((d : Context) → mean p d ≡ m) →
    kept (mean p) c n q es ≡ kept (λ d. m) c n q es
kept_alike p m c n q [] h = refl
kept_alike p m c n q (e ∷ es) h =
    ap (λ k. and_then k (λ v. with (kept (mean p) c n (suc q) es) (λ zs. one_if (is_passed v q) e ++ zs))) (h (at c e q n))
    ∙ ap (λ r. and_then m (λ v. with r (λ zs. one_if (is_passed v q) e ++ zs))) (kept_alike p m c n (suc q) es h)

one_of : (p : Tree) (c : Context) (n : ℕ) (es : List Entry) → ((d : Context) → mean p d ≡ Ok (number (counted 1))) → kept (mean p) c n 1 es ≡ Ok (take 1 es)
one_of p c n es h = kept_alike p (Ok (number (counted 1))) c n 1 es h ∙ numbered c n 1 0 es

take_twice : (es : List Entry) → take 1 (take 1 es) ≡ take 1 es
take_twice [] = refl
take_twice (e ∷ es) = refl

pub one_first : (p : Tree) (ps : Trees) (b : Bool) → (b ≡ true → (d : Context) → mean p d ≡ Ok (number (counted 1))) → (c : Context) (es : List Entry) →
    filtered (more p ps) c (fewer b es) ≡ filtered (more p ps) c es
one_first p ps false h c es = refl
one_first p ps true h c es =
    ap (λ m. and_then m (filtered ps c)) (one_of p c (length (take 1 es)) (take 1 es) (h refl) ∙ ap Ok (take_twice es) ∙ sym (one_of p c (length es) es (h refl)))

-- Along an axis.

same_axis : (axis : Axis) → tests.is_attribute_axis axis ≡ is_attribute_axis axis
same_axis axes.Child = refl
same_axis axes.Descendant = refl
same_axis axes.Parent = refl
same_axis axes.Ancestor = refl
same_axis axes.FollowingSibling = refl
same_axis axes.PrecedingSibling = refl
same_axis axes.Following = refl
same_axis axes.Preceding = refl
same_axis axes.Attribute = refl
same_axis axes.Itself = refl
same_axis axes.DescendantOrSelf = refl
same_axis axes.AncestorOrSelf = refl

first_of : (xs : List Entry) (r : Option Node) (rest : List Node) → map node_of xs ≡ option_to_list r ++ rest → IfNone r (rest ≡ []) →
    option_to_list r ≡ map node_of (take 1 xs)
first_of [] None rest e h = refl
first_of [] (Some n) rest e h = absurd cc
first_of (x ∷ xs) None rest e h = absurd (no (e ∙ h))
  where
    no : node_of x ∷ map node_of xs ≡ [] → ⊥
    no q = cc
first_of (x ∷ xs) (Some n) rest e h = cc

within_one : (axis : Axis) (t : Test) (e : Entry) (document xs : List Entry) → xs ≡ on_axis axis t e document →
    AllByRecursion (λ x. Contains document x) (take 1 xs)
within_one axis t e document [] h = tt
within_one axis t e document (x ∷ xs) h =
    (among_contains document x (is_found_on axis t e document x (subst (Among x) h (here x xs))).there, tt)

-- the first node from a node of a place along an axis
abbrev pub IsFirstAlong : ScopeOf → Node → Axis → Test → List Node → Type 0
IsFirstAlong s n axis t list = (c : Context) → IsScope s c → (e : Entry) → Identifies n.kind n.at e c.document → AreNodes c.document list (take 1 (on_axis axis t e c.document))

first_along : (s : ScopeOf) (bytes : List ℕ) (lists : Lists) (n : Node) (axis : Axis) (t : Test) (list : List Node) (r : Option Node) (old new : Forest → List Node) → bytes ≡ s.bytes → lists ≡ s.lists →
    ForEachEntry bytes lists n (λ nest e. old nest ≡ nodes_on axis t e (nodes_of bytes nest)) → ForEachNest bytes lists (λ nest. old nest ≡ option_to_list r ++ new nest) →
    IfNone r (ForEachNest bytes lists (λ nest. new nest ≡ [])) → list ≡ option_to_list r → IsFirstAlong s n axis t list
first_along s bytes lists n axis t list r old new e1 e2 f g h q c hc e k =
    let d : c.document ≡ nodes_of bytes hc.nest = hc.document ∙ ap (λ b. nodes_of b hc.nest) (sym e1) in
    let nest = subst (λ b. IsNestOf b lists hc.nest) (sym e1) (subst (λ m. IsNestOf s.bytes m hc.nest) (sym e2) (nest_of_table s.bytes s.lists hc.nest hc.shown)) in
    let on : nodes_on axis t e (nodes_of bytes hc.nest) ≡ map node_of (on_axis axis t e c.document) =
    ap (λ b. map node_of (filter (passes t b) (axis_list axis e.path (nodes_of bytes hc.nest)))) (same_axis axis) ∙ ap (λ xs. map node_of (on_axis axis t e xs)) (sym d) in
    let whole = sym (f hc.nest nest e (subst (Identifies n.kind n.at e) d k) ∙ on) ∙ g hc.nest nest in
    record {
      same = q ∙ first_of (on_axis axis t e c.document) r (new hc.nest) whole (at_end r h hc.nest nest);
      within = within_one axis t e c.document (on_axis axis t e c.document) refl;
    }
  where
    at_end : (r : Option Node) → IfNone r (ForEachNest bytes lists (λ nest. new nest ≡ [])) → (nest : Forest) → IsNestOf bytes lists nest →
        IfNone r (new nest ≡ [])
    at_end None h nest i = h nest i
    at_end (Some n) h nest i = tt

pub if_first : (s : ScopeOf) (bytes : List ℕ) (lists : Lists) (n : Node) (axis : Axis) (t : Test) (a : Answer (List Node)) (r : Option Node) (old new : Forest → List Node) → bytes ≡ s.bytes → lists ≡ s.lists →
    ForEachEntry bytes lists n (λ nest e. old nest ≡ nodes_on axis t e (nodes_of bytes nest)) → ForEachNest bytes lists (λ nest. old nest ≡ option_to_list r ++ new nest) →
    IfNone r (ForEachNest bytes lists (λ nest. new nest ≡ [])) → IfOk a (λ list. list ≡ option_to_list r) → IfOk a (IsFirstAlong s n axis t)
if_first s bytes lists n axis t (Ok list) r old new e1 e2 f g h q = first_along s bytes lists n axis t list r old new e1 e2 f g h q
if_first s bytes lists n axis t (Err x) r old new e1 e2 f g h q = tt

few_first : (s : ScopeOf) (p : Place) (axis : Axis) (t : Test) (list : List Node) (r : Option Node) → IsPlace s p → list ≡ option_to_list r →
    IsFirstAlong s p.node axis t list → AreFewOf s list
few_first s p axis t list r a q f = record {
  of = record { each = λ d h. let y = a.each d h in record { entries = take 1 (on_axis axis t y.entry d.document); nodes = f d h y.entry y.stands } };
  few = subst (λ l. length l < 2 ^ 32) (sym q) (short r);
}
  where
    short : (r : Option Node) → length (option_to_list r) < 2 ^ 32
    short None = omega arith
    short (Some n) = omega arith

pub if_few_first : (s : ScopeOf) (p : Place) (axis : Axis) (t : Test) (a : Answer (List Node)) (r : Option Node) → IsPlace s p →
    IfOk a (λ list. list ≡ option_to_list r) → IfOk a (IsFirstAlong s p.node axis t) → IfOk a (AreFewOf s)
if_few_first s p axis t (Ok list) r k q f = few_first s p axis t list r k q f
if_few_first s p axis t (Err x) r k q f = tt

step_is : (a : StepAxis) (axis : Axis) (test : StepTest) (b : List (List ℕ × List ℕ)) (t : Test) (c : Context) (e : Entry) → a ≡ Known axis →
    t ≡ test_of b test → b ≡ c.bindings → on_axis axis t e c.document ≡ stepped a test c e
unfolding stepped
step_is a axis test b t c e q k h = ap (λ u. on_axis axis u e c.document) (k ∙ ap (λ x. test_of x test) h) ∙ sym (ap (λ x. stepped x test c e) q)

none_is : (a : StepAxis) (test : StepTest) (c : Context) (e : Entry) → a ≡ Namespace → [] ≡ stepped a test c e
unfolding stepped
none_is a test c e q = sym (ap (λ x. stepped x test c e) q)

abbrev pub IsFewer : ScopeOf → Node → StepAxis → StepTest → Bool → List Node → Type 0
IsFewer s n a test b list = (c : Context) → IsScope s c → (e : Entry) → Identifies n.kind n.at e c.document → AreNodes c.document list (fewer b (stepped a test c e))

pub first_known : (s : ScopeOf) (n : Node) (a : StepAxis) (axis : Axis) (test : StepTest) (b : List (List ℕ × List ℕ)) (t : Test) (first : Bool) (r : Answer (List Node)) → a ≡ Known axis → t ≡ test_of b test → b ≡ s.bindings → first ≡ true →
    IfOk r (IsFirstAlong s n axis t) → IfOk r (IsFewer s n a test first)
first_known s n a axis test b t first (Ok list) q k h o f = λ c i e j.
    subst (λ x. AreNodes c.document list (fewer x (stepped a test c e))) (sym o)
    (subst (λ xs. AreNodes c.document list (take 1 xs)) (step_is a axis test b t c e q k (h ∙ sym i.bindings)) (f c i e j))
first_known s n a axis test b t first (Err x) q k h o f = tt

pub first_none : (s : ScopeOf) (n : Node) (a : StepAxis) (test : StepTest) (first : Bool) (list : List Node) → a ≡ Namespace → list ≡ [] → first ≡ true →
    IsFewer s n a test first list
first_none s n a test first list q k o c i e j =
    subst (λ x. AreNodes c.document list (fewer x (stepped a test c e))) (sym o)
    (subst (λ xs. AreNodes c.document list (take 1 xs)) (none_is a test c e q) (record { same = k; within = tt }))

pub all_stepped : (s : ScopeOf) (n : Node) (a : StepAxis) (test : StepTest) (first : Bool) (r : Answer (List Node)) → first ≡ false →
    IfOk r (λ list. (c : Context) → IsScope s c → (e : Entry) → Identifies n.kind n.at e c.document → AreNodes c.document list (stepped a test c e)) → IfOk r (IsFewer s n a test first)
all_stepped s n a test first (Ok list) o f = λ c i e j. subst (λ x. AreNodes c.document list (fewer x (stepped a test c e))) (sym o) (f c i e j)
all_stepped s n a test first (Err x) o f = tt

pub one_asked : (whole : Trees) (p p' : Tree) (ps : Trees) (b : Bool) → whole ≡ more p ps → p' ≡ p →
    (b ≡ true → (d : Context) → mean p' d ≡ Ok (number (counted 1))) → (c : Context) (es : List Entry) →
    filtered whole c (fewer b es) ≡ filtered whole c es
one_asked whole p p' ps b e q h c es = subst (λ w. filtered w c (fewer b es) ≡ filtered w c es) (sym e)
    (one_first p ps b (subst (λ x. b ≡ true → (d : Context) → mean x d ≡ Ok (number (counted 1))) q h) c es)

-- what is said of every nest, of other names for the same lists
pub next_left : (b1 b2 : List ℕ) (l1 l2 : Lists) (P : Forest → Type 0) → b1 ≡ b2 → l1 ≡ l2 → ForEachNest b1 l1 P → ForEachNest b2 l2 P
next_left b1 b2 l1 l2 P e1 e2 f = subst (λ b. ForEachNest b l2 P) e1 (subst (λ l. ForEachNest b1 l P) e2 f)

pub ended : (b1 b2 : List ℕ) (l1 l2 : Lists) (P : Forest → Type 0) (r : Option Node) → b1 ≡ b2 → l1 ≡ l2 → IfNone r (ForEachNest b1 l1 P) →
    IfNone r (ForEachNest b2 l2 P)
ended b1 b2 l1 l2 P None e1 e2 f = next_left b1 b2 l1 l2 P e1 e2 f
ended b1 b2 l1 l2 P (Some n) e1 e2 f = tt
