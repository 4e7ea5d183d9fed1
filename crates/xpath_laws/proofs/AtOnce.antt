-- A step from many nodes whose predicates do not ask for the position: first all nodes that the step finds, then the
-- predicates, once.
use Rattle.std.proofs.Common.{◌≡◌, ℕ, suc, length, Bool, true, false, cond, not, ◌&&◌, ◌⊎◌, inl, inr, List, [], ◌∷◌, ◌++◌, filter, reverse, Ok, Err}
use Rattle.std.proofs.Common.{refl, sym, ◌∙◌, ap, subst, arith, Contains}
use Rattle.std.specs.List.{flat_map, list_any}
use Rattle.std.proofs.lemmas.List.Sorted.{Contains-permutation, IsPermutation-sym, IsPermutation-reverse}
use Rattle.xml_model.specs.declared.Axis.{Axis}
use Rattle.xml_model.specs.declared.Axis.TheVariants.{Child, Descendant, DescendantOrSelf}
use Rattle.xml_model.specs.Contexts.{union_list, on_any}
use Rattle.xml_model.specs.Tree.{Entry, steps, is_self, axis_list, is_reverse, reverse_if, on_axis as is_on}
use Rattle.xml_model.specs.Names.{Test, passes}
use Rattle.xml_model.proofs.Filters.{any_out, any_in}
use Rattle.xpath_tokens.specs.declared.StepAxis.{StepAxis}
use Rattle.xpath_tokens.specs.declared.StepAxis.TheVariants.{Known, Namespace}
use Rattle.xpath_grammar.specs.declared.expr.StepTest.{StepTest}
use Rattle.xpath_grammar.specs.declared.expr.StepTest.TheVariants as written
use Rattle.xpath_grammar.specs.declared.functions.ValueType.{ValueType}
use Rattle.xpath_grammar.specs.declared.functions.ValueType.TheVariants as type
use Rattle.xpath_grammar.specs.Tree.{Tree, Trees, none, more, stop, go}
use Rattle.xpath_values.specs.Answers.{Answer, and_then, with}
use Rattle.xpath_values.specs.Values.{Meant, nodes, truth, number, text, truth_of}
use Rattle.xpath_meaning.specs.Meets.{gathered}
use Rattle.xpath_meaning.specs.Context.{Context, at, is_in, in_order, stepped, test_of, is_attribute_axis, is_passed, on_axis}
use Rattle.xpath_meaning.specs.Meaning.{mean, filtered, kept, walked, step_from, one_if}
use Rattle.xpath_laws.specs.Analysis.{reads_position}
use Rattle.xpath_laws.specs.Faults.{kind, kind_of, is_number}
use Rattle.xpath_laws.specs.Fused.{Among, here, next, IsTree, are_positionless}
use Rattle.xpath_laws.proofs.Faults.{Before, then_before, has_kind}
use Rattle.xpath_laws.proofs.Fused.{iff, both, left_of, right_of, InOne, Found, among_filter, filter_among, among_flat, flat_among, found, is_found}
use Rattle.xpath_laws.proofs.Fused.{filter_alike, filter_twice, gathered_plain, one_more, fused}
use Rattle.xpath_laws.proofs.Positions.{one_value}
use Rattle.xpath_laws.proofs.Trees.{contains_among, among_contains}

not_true : (b : Bool) → not b ≡ true → b ≡ false
not_true true h = absurd cc
not_true false h = refl

pub ok_same : {X : Type 0} (x y : X) → ◌≡◌ {A = Answer X} (Ok x) (Ok y) → x ≡ y
ok_same x y h = cc

-- One predicate.

-- whether an answer is true
abbrev is_true : Answer Meant → Bool
is_true (Ok v) = truth_of v
is_true (Err e) = false

-- a predicate has a value at a node
record Fine (p : Tree) (c : Context) (x : Entry) : Type 0 where
  value : Meant
  is : mean p (at c x 1 1) ≡ Ok value

pub plainly : (v : Meant) (n : ℕ) → is_number (kind v) ≡ false → is_passed v n ≡ truth_of v
plainly (nodes es) n h = refl
plainly (truth b) n h = refl
plainly (number x) n h = absurd cc
plainly (text t) n h = refl

record Split {X : Type 0} (m : Answer (List X)) (ys zs : List X) : Type 0 where
  rest : List X
  is : m ≡ Ok rest

with_split : {X : Type 0} (m : Answer (List X)) (ys zs : List X) → with m (λ rs. ys ++ rs) ≡ Ok zs → Split m ys zs
with_split (Ok rs) ys zs h = record { rest = rs; is = refl }
with_split (Err e) ys zs h = absurd cc

all_fine : (p : Tree) (c : Context) (n k : ℕ) (xs zs : List Entry) → reads_position p ≡ false → kept (mean p) c n k xs ≡ Ok zs →
    (x : Entry) → Among x xs → Fine p c x
all_fine p c n k _ zs r h x (here _ xs) =
    let b = then_before (mean p (at c x k n)) (λ v. with (kept (mean p) c n (suc k) xs) (λ rs. one_if (is_passed v k) x ++ rs)) zs h in
    record { value = b.value; is = one_value p c x 1 1 k n r ∙ b.is }
all_fine p c n k _ zs r h x (next _ y xs m) =
    let b = then_before (mean p (at c y k n)) (λ v. with (kept (mean p) c n (suc k) xs) (λ rs. one_if (is_passed v k) y ++ rs)) zs h in
    let s = with_split (kept (mean p) c n (suc k) xs) (one_if (is_passed b.value k) y) zs b.gives in
    all_fine p c n (suc k) xs s.rest r s.is x m

abbrev holds : Tree → Context → Entry → Bool
holds p c x = is_true (mean p (at c x 1 1))

kept_fine : (p : Tree) (c : Context) (n k : ℕ) (ys : List Entry) → reads_position p ≡ false → is_number (kind_of p) ≡ false →
    ((x : Entry) → Among x ys → Fine p c x) → kept (mean p) c n k ys ≡ Ok (filter (holds p c) ys)
kept_fine p c n k [] r t f = refl
kept_fine p c n k (e ∷ ys) r t f =
    let a = f e (here e ys) in
    let v : mean p (at c e k n) ≡ Ok a.value = one_value p c e k n 1 1 r ∙ a.is in
    let b : is_passed a.value k ≡ holds p c e = plainly a.value k (ap is_number (has_kind p (at c e 1 1) a.value a.is) ∙ t) ∙ sym (ap is_true a.is) in
    ap (λ m. and_then m (λ w. with (kept (mean p) c n (suc k) ys) (λ zs. one_if (is_passed w k) e ++ zs))) v
    ∙ ap (λ q. with (kept (mean p) c n (suc k) ys) (λ zs. one_if q e ++ zs)) b
    ∙ ap (λ m. with m (λ zs. one_if (holds p c e) e ++ zs)) (kept_fine p c n (suc k) ys r t (λ x m. f x (next x e ys m)))
    ∙ ap Ok (one_more (holds p c e) e (filter (holds p c) ys))

-- All predicates.

-- predicates that left something of a list leave, of any nodes of it, those that one test passes
record Leave (ps : Trees) (c : Context) (xs : List Entry) : Type 0 where
  test : Entry → Bool
  leave : (ys : List Entry) → ((x : Entry) → Among x ys → Among x xs) → filtered ps c ys ≡ Ok (filter test ys)

filter_all : (xs : List Entry) → filter (λ x. true) xs ≡ xs
filter_all [] = refl
filter_all (x ∷ xs) = ap (λ ys. x ∷ ys) (filter_all xs)

within_filter : (p : Entry → Bool) (ys xs : List Entry) → ((x : Entry) → Among x ys → Among x xs) →
    (x : Entry) → Among x (filter p ys) → Among x (filter p xs)
within_filter p ys xs f x m = let r = among_filter p ys x m in filter_among p xs x (f x r.0) r.1

all_leave : (ps : Trees) (c : Context) (xs zs : List Entry) → are_positionless ps ≡ true → filtered ps c xs ≡ Ok zs → Leave ps c xs
all_leave none c xs zs h k = record { test = λ x. true; leave = λ ys f. ap Ok (sym (filter_all ys)) }
all_leave (more p ps) c xs zs h k =
    let r : reads_position p ≡ false = not_true _ (left_of _ _ h) in
    let h' = right_of (not (reads_position p)) _ h in
    let t : is_number (kind_of p) ≡ false = not_true _ (left_of _ _ h') in
    let b = then_before (kept (mean p) c (length xs) 1 xs) (filtered ps c) zs k in
    let fine : (x : Entry) → Among x xs → Fine p c x = all_fine p c (length xs) 1 xs b.value r b.is in
    let same : b.value ≡ filter (holds p c) xs = ok_same _ _ (sym b.is ∙ kept_fine p c (length xs) 1 xs r t fine) in
    let l = all_leave ps c b.value zs (right_of (not (is_number (kind_of p))) _ h') b.gives in
    record {
      test = λ x. holds p c x && l.test x;
      leave = λ ys f.
          ap (λ m. and_then m (filtered ps c)) (kept_fine p c (length ys) 1 ys r t (λ x m. fine x (f x m)))
          ∙ l.leave (filter (holds p c) ys) (λ x m. subst (Among x) (sym same) (within_filter (holds p c) ys xs f x m))
          ∙ ap Ok (filter_twice (holds p c) l.test ys);
    }

-- Steps.

turned : (xs : List Entry) (x : Entry) → Among x (reverse xs) → Among x xs
turned xs x m =
    contains_among xs x (Contains-permutation (reverse xs) xs x (IsPermutation-sym xs (reverse xs) (IsPermutation-reverse xs)) (among_contains (reverse xs) x m))

turned_back : (xs : List Entry) (x : Entry) → Among x xs → Among x (reverse xs)
turned_back xs x m = contains_among (reverse xs) x (Contains-permutation xs (reverse xs) x (IsPermutation-reverse xs) (among_contains xs x m))

maybe_turned : (b : Bool) (xs : List Entry) (x : Entry) → Among x (reverse_if b xs) → Among x xs
maybe_turned true xs x m = turned xs x m
maybe_turned false xs x m = m

maybe_back : (b : Bool) (xs : List Entry) (x : Entry) → Among x xs → Among x (reverse_if b xs)
maybe_back true xs x m = turned_back xs x m
maybe_back false xs x m = m

-- a node is on an axis and passes a test
pub record IsOn (axis : Axis) (t : Test) (e : Entry) (es : List Entry) (x : Entry) : Type 0 where
  pub there : Among x es
  pub on : is_on axis e.path x.path ≡ true
  pub passed : passes t (is_attribute_axis axis) x ≡ true

pub is_found_on : (axis : Axis) (t : Test) (e : Entry) (es : List Entry) (x : Entry) → Among x (on_axis axis t e es) → IsOn axis t e es x
unfolding axis_list
is_found_on axis t e es x m =
    let r = among_filter (passes t (is_attribute_axis axis)) (axis_list axis e.path es) x m in
    let q = among_filter (λ y. is_on axis e.path y.path) es x (maybe_turned (is_reverse axis) (filter (λ y. is_on axis e.path y.path) es) x r.0) in
    record { there = q.0; on = q.1; passed = r.1 }

found_on : (axis : Axis) (t : Test) (e : Entry) (es : List Entry) (x : Entry) → IsOn axis t e es x → Among x (on_axis axis t e es)
unfolding axis_list
found_on axis t e es x k =
    filter_among (passes t (is_attribute_axis axis)) (axis_list axis e.path es) x
    (maybe_back (is_reverse axis) (filter (λ y. is_on axis e.path y.path) es) x (filter_among (λ y. is_on axis e.path y.path) es x k.there k.on)) k.passed

pub stepped_within : (axis : StepAxis) (test : StepTest) (c : Context) (e x : Entry) → Among x (stepped axis test c e) → Among x c.document
unfolding stepped
stepped_within (Known axis) test c e x m = (is_found_on axis (test_of c.bindings test) e c.document x m).there
stepped_within Namespace test c e x m = elim m [ ]

gathered_among : (f g : Entry → Answer (List Entry)) (xs : List Entry) → ((x : Entry) → Among x xs → f x ≡ g x) → gathered f xs ≡ gathered g xs
gathered_among f g [] h = refl
gathered_among f g (x ∷ xs) h = ap (λ m. and_then m (λ ys. with (gathered f xs) (λ zs. ys ++ zs))) (h x (here x xs))
    ∙ ap (λ n. and_then (g x) (λ ys. with n (λ zs. ys ++ zs))) (gathered_among f g xs (λ y m. h y (next y x xs m)))

-- lists of nodes of a document, joined in document order, and a test
ordered_filter : (document es : List Entry) (f : Entry → List Entry) (q : Entry → Bool) → IsTree document →
    ((e x : Entry) → Among x (f e) → Among x document) →
    in_order document (flat_map (λ e. filter q (f e)) es) ≡ filter q (in_order document (flat_map f es))
unfolding in_order
ordered_filter document es f q t w =
    filter_alike (is_in (flat_map (λ e. filter q (f e)) es)) (λ d. is_in (flat_map f es) d && q d) document (λ d m. iff _ _ (one d m) (two d m))
    ∙ sym (filter_twice (is_in (flat_map f es)) q document)
  where
    one : (d : Entry) → Among d document → is_in (flat_map (λ e. filter q (f e)) es) d ≡ true → (is_in (flat_map f es) d && q d) ≡ true
    one d m h =
        let z = found (flat_map (λ e. filter q (f e)) es) d h in
        let o = among_flat (λ e. filter q (f e)) es z.node z.there in
        let r = among_filter q (f o.from) z.node o.inside in
        let same : z.node ≡ d = t.one z.node d (w o.from z.node r.0) m z.same in
        both _ _ (is_found (flat_map f es) d (flat_among f es o.from d o.there (subst (λ y. Among y (f o.from)) same r.0))) (ap q (sym same) ∙ r.1)

    two : (d : Entry) → Among d document → (is_in (flat_map f es) d && q d) ≡ true → is_in (flat_map (λ e. filter q (f e)) es) d ≡ true
    two d m h =
        let z = found (flat_map f es) d (left_of _ _ h) in
        let o = among_flat f es z.node z.there in
        let same : z.node ≡ d = t.one z.node d (w o.from z.node o.inside) m z.same in
        is_found (flat_map (λ e. filter q (f e)) es) d (flat_among (λ e. filter q (f e)) es o.from d o.there
        (filter_among q (f o.from) d (subst (λ y. Among y (f o.from)) same o.inside) (right_of (is_in (flat_map f es) d) _ h)))

pub bare_step : (axis : StepAxis) (test : StepTest) (c : Context) (es : List Entry) →
    step_from (filtered none) axis test c es ≡ Ok (in_order c.document (flat_map (stepped axis test c) es))
bare_step axis test c es = ap (λ m. with m (in_order c.document)) (gathered_plain (stepped axis test c) es)

pub in_ordered : (document xs : List Entry) (x : Entry) → Among x document → Among x xs → Among x (in_order document xs)
unfolding in_order
in_ordered document xs x m k = filter_among (is_in xs) document x m (is_found xs x k)

-- predicates that do not ask for the position, over all that a step finds from many nodes
pub at_once : (c : Context) (axis : StepAxis) (test : StepTest) (ps : Trees) (es xs zs : List Entry) → IsTree c.document → are_positionless ps ≡ true →
    step_from (filtered none) axis test c es ≡ Ok xs → filtered ps c xs ≡ Ok zs → step_from (filtered ps) axis test c es ≡ Ok zs
at_once c axis test ps es xs zs t h one two =
    let f : Entry → List Entry = stepped axis test c in
    let is : xs ≡ in_order c.document (flat_map f es) = ok_same _ _ (sym one ∙ bare_step axis test c es) in
    let l : Leave ps c xs = all_leave ps c xs zs h two in
    let end : zs ≡ filter l.test xs = ok_same _ _ (sym two ∙ l.leave xs (λ x m. m)) in
    let each : (e : Entry) → Among e es → filtered ps c (f e) ≡ Ok (filter l.test (f e)) =
    λ e m. l.leave (f e) (λ x k. subst (Among x) (sym is)
    (in_ordered c.document (flat_map f es) x (stepped_within axis test c e x k) (flat_among f es e x m k))) in
    ap (λ m. with m (in_order c.document)) (gathered_among (λ e. filtered ps c (f e)) (λ e. Ok (filter l.test (f e))) es each ∙ gathered_plain (λ e. filter l.test (f e)) es)
    ∙ ap Ok (ordered_filter c.document es f l.test t (λ e x k. stepped_within axis test c e x k) ∙ ap (filter l.test) (sym is) ∙ sym end)

abbrev asked_for : Context → Axis → StepTest → Entry → Bool
asked_for c axis test = passes (test_of c.bindings test) (is_attribute_axis axis)

abbrev on_one : Context → Axis → StepTest → Entry → List Entry
on_one c axis test e = on_axis axis (test_of c.bindings test) e c.document

union_one : (c : Context) (axis : Axis) (test : StepTest) (es : List Entry) → IsTree c.document → (d : Entry) → Among d c.document →
    is_in (flat_map (on_one c axis test) es) d ≡ true → (on_any axis es d && asked_for c axis test d) ≡ true
union_one c axis test es t d m h =
    let z = found (flat_map (on_one c axis test) es) d h in
    let o = among_flat (on_one c axis test) es z.node z.there in
    let k = is_found_on axis (test_of c.bindings test) o.from c.document z.node o.inside in
    let same : z.node ≡ d = t.one z.node d k.there m z.same in
    both _ _ (any_in (λ e. is_on axis e.path d.path) es o.from (among_contains es o.from o.there) (subst (λ y. is_on axis o.from.path y.path ≡ true) same k.on))
    (ap (asked_for c axis test) (sym same) ∙ k.passed)

union_two : (c : Context) (axis : Axis) (test : StepTest) (es : List Entry) → IsTree c.document → (d : Entry) → Among d c.document →
    (on_any axis es d && asked_for c axis test d) ≡ true → is_in (flat_map (on_one c axis test) es) d ≡ true
union_two c axis test es t d m h =
    let o = any_out (λ e. is_on axis e.path d.path) es (left_of _ _ h) in
    is_found (flat_map (on_one c axis test) es) d (flat_among (on_one c axis test) es o.entry d (contains_among es o.entry o.there)
    (found_on axis (test_of c.bindings test) o.entry c.document d (record { there = m; on = o.passes; passed = right_of (on_any axis es d) _ h })))

-- a step without predicates is a part of the nodes on the axis of some node
pub union_step : (c : Context) (axis : Axis) (test : StepTest) (es : List Entry) → IsTree c.document →
    step_from (filtered none) (Known axis) test c es ≡ Ok (filter (passes (test_of c.bindings test) (is_attribute_axis axis)) (union_list axis es c.document))
unfolding stepped in_order union_list
union_step c axis test es t =
    bare_step (Known axis) test c es
    ∙ ap Ok (filter_alike (is_in (flat_map (on_one c axis test) es)) (λ d. on_any axis es d && asked_for c axis test d) c.document
    (λ d m. iff _ _ (union_one c axis test es t d m) (union_two c axis test es t d m)) ∙ sym (filter_twice (on_any axis es) (asked_for c axis test) c.document))

-- descendant-or-self::node()/child::T[p], where the predicates do not ask for the position, over all that descendant::T finds
pub scan_at_once : (c : Context) (test : StepTest) (ps : Trees) (es xs zs : List Entry) → IsTree c.document → are_positionless ps ≡ true →
    step_from (filtered none) (Known Descendant) test c es ≡ Ok xs → filtered ps c xs ≡ Ok zs →
    and_then (step_from (filtered none) (Known DescendantOrSelf) written.Node c es) (step_from (filtered ps) (Known Child) test c) ≡ Ok zs
scan_at_once c test ps es xs zs t h one two =
    let ds = in_order c.document (flat_map (stepped (Known DescendantOrSelf) written.Node c) es) in
    let first : step_from (filtered none) (Known DescendantOrSelf) written.Node c es ≡ Ok ds = bare_step (Known DescendantOrSelf) written.Node c es in
    let ys = in_order c.document (flat_map (stepped (Known Child) test c) ds) in
    let second : step_from (filtered none) (Known Child) test c ds ≡ Ok ys = bare_step (Known Child) test c ds in
    let same : ◌≡◌ {A = Answer (List Entry)} (Ok ys) (Ok xs) =
    sym (ap (λ m. and_then m (λ zs. Ok zs)) second)
    ∙ sym (ap (λ m. and_then m (λ es. and_then (step_from (filtered none) (Known Child) test c es) (λ zs. Ok zs))) first)
    ∙ fused c test es t
    ∙ ap (λ m. and_then m (λ zs. Ok zs)) one in
    ap (λ m. and_then m (step_from (filtered ps) (Known Child) test c)) first ∙ at_once c (Known Child) test ps ds xs zs t h (second ∙ same) two
