-- The first refusal, by the part at the start of an expression and what is after it.
use Rattle.std.proofs.Common.{◌≡◌, ℕ, ◌<◌, ◌≤◌, Bool, true, false, cond, not, ◌&&◌, List, [], ◌∷◌, ◌++◌, Option, Some, None, refl, sym, ◌∙◌, ap, subst, arith}
use Rattle.std.specs.Prelude.{unwrap_or, is_some}
use Rattle.std.specs.List.{flat_map}
use Rattle.std.proofs.lemmas.List.{append-nil}
use Rattle.std.proofs.lemmas.Grind.{flat_map-append}
use Rattle.xml_model.specs.declared.Axis.TheVariants.{Child, Descendant, Parent, Ancestor, FollowingSibling, PrecedingSibling, Following, Preceding, Attribute, Itself, DescendantOrSelf, AncestorOrSelf}
use Rattle.xpath_tokens.specs.declared.StepAxis.{StepAxis}
use Rattle.xpath_tokens.specs.declared.StepAxis.TheVariants.{Known, Namespace}
use Rattle.xpath_tokens.specs.Reading.{or_else}
use Rattle.xpath_grammar.specs.declared.faults.StaticFault.{StaticFault}
use Rattle.xpath_grammar.specs.declared.faults.StaticFault.TheVariants as fault
use Rattle.xpath_grammar.specs.declared.expr.StepTest.{StepTest}
use Rattle.xpath_grammar.specs.Tree.{Tree, Trees, Walk, or, and, union, compare, arithmetic, negate, path, from, filter, literal, number, variable, call, more, stop, go}
use Rattle.xpath_grammar.specs.Functions.{gives_nodes}
use Rattle.xpath_grammar.specs.Static.{Word, other_word, function_word, number_word, Mark, word_fault, listed, refused_at, plain, marked, wanted, axis_marks, axis_fault, test_fault, test_word, begun, marks, list_marks, step_marks, IsFirst}
use Rattle.xpath_grammar.specs.Checking.{head, first_in, prefix_of, inner_of, needs_nodes, tail_marks, prefix_marks, own_fault, first_word, needed_fault, weight, list_weight, step_weight}

pub or_else_assoc : {X : Type 0} (a b c : Option X) → or_else (or_else a b) c ≡ or_else a (or_else b c)
or_else_assoc (Some x) b c = refl
or_else_assoc None b c = refl

pub or_else_none : {X : Type 0} (a : Option X) → or_else a None ≡ a
or_else_none (Some x) = refl
or_else_none None = refl

head-append : (fs gs : List StaticFault) → head (fs ++ gs) ≡ or_else (head fs) (head gs)
head-append [] gs = refl
head-append (f ∷ fs) gs = refl

pub first_in-append : (bs : List (List ℕ × List ℕ)) (ms ns : List Mark) → first_in bs (ms ++ ns) ≡ or_else (first_in bs ms) (first_in bs ns)
first_in-append bs ms ns = ap head (flat_map-append (refused_at bs) ms ns) ∙ head-append (flat_map (refused_at bs) ms) (flat_map (refused_at bs) ns)

-- one token, and what is after it
head_listed : (o : Option StaticFault) (fs : List StaticFault) → head ((listed o ++ []) ++ fs) ≡ or_else o (head fs)
head_listed (Some f) fs = refl
head_listed None fs = refl

pub first_in-plain : (bs : List (List ℕ × List ℕ)) (w : Word) (ms : List Mark) → first_in bs (plain w ∷ ms) ≡ or_else (word_fault bs w) (first_in bs ms)
first_in-plain bs w ms = head_listed (word_fault bs w) (flat_map (refused_at bs) ms)

-- parts are smaller
pub prefix_smaller : (e p : Tree) → prefix_of e ≡ Some p → weight p < weight e
prefix_smaller (or a b) p h = let k : a ≡ p = cc in subst (λ x. weight x < weight (or a b)) k (omega arith)
prefix_smaller (and a b) p h = let k : a ≡ p = cc in subst (λ x. weight x < weight (and a b)) k (omega arith)
prefix_smaller (compare how a b) p h = let k : a ≡ p = cc in subst (λ x. weight x < weight (compare how a b)) k (omega arith)
prefix_smaller (arithmetic op a b) p h = let k : a ≡ p = cc in subst (λ x. weight x < weight (arithmetic op a b)) k (omega arith)
prefix_smaller (union a b) p h = let k : a ≡ p = cc in subst (λ x. weight x < weight (union a b)) k (omega arith)
prefix_smaller (from a w) p h = let k : a ≡ p = cc in subst (λ x. weight x < weight (from a w)) k (omega arith)
prefix_smaller (filter a ps) p h = let k : a ≡ p = cc in subst (λ x. weight x < weight (filter a ps)) k (omega arith)
prefix_smaller (negate a) p h = absurd cc
prefix_smaller (path b w) p h = absurd cc
prefix_smaller (literal t) p h = absurd cc
prefix_smaller (number t) p h = absurd cc
prefix_smaller (variable n) p h = absurd cc
prefix_smaller (call f es) p h = absurd cc

pub inner_smaller : (e p : Tree) → inner_of e ≡ Some p → weight p < weight e
inner_smaller (negate a) p h = let k : a ≡ p = cc in subst (λ x. weight x < weight (negate a)) k (omega arith)
inner_smaller e p h = prefix_smaller e p h

-- the first token
pub prefix_word : (e p : Tree) → prefix_of e ≡ Some p → first_word e ≡ first_word p
prefix_word (or a b) p h = let k : a ≡ p = cc in ap first_word k
prefix_word (and a b) p h = let k : a ≡ p = cc in ap first_word k
prefix_word (compare how a b) p h = let k : a ≡ p = cc in ap first_word k
prefix_word (arithmetic op a b) p h = let k : a ≡ p = cc in ap first_word k
prefix_word (union a b) p h = let k : a ≡ p = cc in ap first_word k
prefix_word (from a w) p h = let k : a ≡ p = cc in ap first_word k
prefix_word (filter a ps) p h = let k : a ≡ p = cc in ap first_word k
prefix_word (negate a) p h = absurd cc
prefix_word (path b w) p h = absurd cc
prefix_word (literal t) p h = absurd cc
prefix_word (number t) p h = absurd cc
prefix_word (variable n) p h = absurd cc
prefix_word (call f es) p h = absurd cc

record Begins (ms : List Mark) (w : Word) : Type 0 where
  flag : Bool
  rest : List Mark
  whole : ms ≡ record { word = w; not_nodes = flag } ∷ rest

begins_plain : (w : Word) (ms : List Mark) → Begins (plain w ∷ ms) w
begins_plain w ms = record { flag = false; rest = ms; whole = refl }

begins_append : {ms : List Mark} {w : Word} (ns : List Mark) → Begins ms w → Begins (ms ++ ns) w
begins_append ns b = record { flag = b.flag; rest = b.rest ++ ns; whole = ap (λ x. x ++ ns) b.whole }

begins_marked : {ms : List Mark} {w : Word} → Begins ms w → Begins (marked ms) w
begins_marked b = record { flag = true; rest = b.rest; whole = ap marked b.whole }

begins_wanted : (nodes : Bool) (e : Tree) {ms : List Mark} {w : Word} → Begins ms w → Begins (wanted nodes e ms) w
begins_wanted nodes e {ms} {w} b = this (nodes && not (gives_nodes e))
  where
    this : (x : Bool) → Begins (cond x (marked ms) ms) w
    this true = begins_marked b
    this false = b

begins_step : (a : StepAxis) (t : StepTest) (ps : Trees) (w : Walk) → Begins (begun (step_marks (go a t ps w))) (first_word (path false (go a t ps w)))
begins_step (Known Child) t ps w = begins_plain _ _
begins_step (Known Descendant) t ps w = begins_plain _ _
begins_step (Known Parent) t ps w = begins_plain _ _
begins_step (Known Ancestor) t ps w = begins_plain _ _
begins_step (Known FollowingSibling) t ps w = begins_plain _ _
begins_step (Known PrecedingSibling) t ps w = begins_plain _ _
begins_step (Known Following) t ps w = begins_plain _ _
begins_step (Known Preceding) t ps w = begins_plain _ _
begins_step (Known Attribute) t ps w = begins_plain _ _
begins_step (Known Itself) t ps w = begins_plain _ _
begins_step (Known DescendantOrSelf) t ps w = begins_plain _ _
begins_step (Known AncestorOrSelf) t ps w = begins_plain _ _
begins_step Namespace t ps w = begins_plain _ _

begins : (e : Tree) → Begins (marks e) (first_word e)
begins (or a b) = begins_append (marks b) (begins a)
begins (and a b) = begins_append (marks b) (begins a)
begins (compare how a b) = begins_append (marks b) (begins a)
begins (arithmetic op a b) = begins_append (marks b) (begins a)
begins (negate a) = begins_plain other_word (marks a)
begins (union a b) = begins_append (wanted true b (marks b)) (begins_wanted true a (begins a))
begins (path true w) = begins_plain other_word (step_marks w)
begins (path false stop) = begins_plain other_word []
begins (path false (go a t ps w)) = begins_step a t ps w
begins (from e w) = begins_append (step_marks w) (begins_wanted true e (begins e))
begins (filter e ps) = begins_append (list_marks false ps) (begins_wanted true e (begins e))
begins (literal t) = begins_plain _ []
begins (number t) = begins_plain _ []
begins (variable n) = begins_plain _ []
begins (call f es) = begins_plain _ _

-- an expression that gives no nodes where they are needed
head_needed : (o : Option StaticFault) (fs : List StaticFault) → head ((listed o ++ fault.NotNodes ∷ []) ++ fs) ≡ Some (unwrap_or o fault.NotNodes)
head_needed (Some f) fs = refl
head_needed None fs = refl

first_marked : (bs : List (List ℕ × List ℕ)) (e : Tree) → first_in bs (marked (marks e)) ≡ Some (needed_fault bs e)
first_marked bs e =
    let b = begins e in
    ap (λ x. first_in bs (marked x)) b.whole ∙ head_needed (word_fault bs (first_word e)) (flat_map (refused_at bs) b.rest)

pub wanted_lacking : (bs : List (List ℕ × List ℕ)) (nodes : Bool) (e : Tree) → (nodes && not (gives_nodes e)) ≡ true → first_in bs (wanted nodes e (marks e)) ≡ Some (needed_fault bs e)
wanted_lacking bs nodes e h = rw h (first_marked bs e)

pub wanted_fine : (nodes : Bool) (e : Tree) (ms : List Mark) → (nodes && not (gives_nodes e)) ≡ false → wanted nodes e ms ≡ ms
wanted_fine nodes e ms h = rw h refl

-- an expression is its prefix and what is after it
pub begun_step : (a : StepAxis) (t : StepTest) (ps : Trees) (w : Walk) → begun (step_marks (go a t ps w)) ≡ step_marks (go a t ps w)
begun_step (Known Child) t ps w = refl
begun_step (Known Descendant) t ps w = refl
begun_step (Known Parent) t ps w = refl
begun_step (Known Ancestor) t ps w = refl
begun_step (Known FollowingSibling) t ps w = refl
begun_step (Known PrecedingSibling) t ps w = refl
begun_step (Known Following) t ps w = refl
begun_step (Known Preceding) t ps w = refl
begun_step (Known Attribute) t ps w = refl
begun_step (Known Itself) t ps w = refl
begun_step (Known DescendantOrSelf) t ps w = refl
begun_step (Known AncestorOrSelf) t ps w = refl
begun_step Namespace t ps w = refl

split : (e : Tree) → marks e ≡ prefix_marks e ++ tail_marks e
split (or a b) = refl
split (and a b) = refl
split (compare how a b) = refl
split (arithmetic op a b) = refl
split (negate a) = ap (λ x. plain other_word ∷ x) (sym (append-nil (marks a)))
split (union a b) = refl
split (path true w) = refl
split (path false stop) = refl
split (path false (go a t ps w)) = begun_step a t ps w
split (from e w) = refl
split (filter e ps) = refl
split (literal t) = refl
split (number t) = refl
split (variable n) = refl
split (call f es) = refl

pub split_first : (bs : List (List ℕ × List ℕ)) (e : Tree) → first_in bs (marks e) ≡ or_else (first_in bs (prefix_marks e)) (first_in bs (tail_marks e))
split_first bs e = ap (first_in bs) (split e) ∙ first_in-append bs (prefix_marks e) (tail_marks e)

pub prefix_first : (bs : List (List ℕ × List ℕ)) (e p : Tree) → inner_of e ≡ Some p → first_in bs (prefix_marks e) ≡ first_in bs (wanted (needs_nodes e) p (marks p))
prefix_first bs (or a b) p h = let k : a ≡ p = cc in ap (λ x. first_in bs (marks x)) k
prefix_first bs (and a b) p h = let k : a ≡ p = cc in ap (λ x. first_in bs (marks x)) k
prefix_first bs (compare how a b) p h = let k : a ≡ p = cc in ap (λ x. first_in bs (marks x)) k
prefix_first bs (arithmetic op a b) p h = let k : a ≡ p = cc in ap (λ x. first_in bs (marks x)) k
prefix_first bs (negate a) p h = let k : a ≡ p = cc in ap (λ x. first_in bs (marks x)) k
prefix_first bs (union a b) p h = let k : a ≡ p = cc in ap (λ x. first_in bs (wanted true x (marks x))) k
prefix_first bs (from e w) p h = let k : e ≡ p = cc in ap (λ x. first_in bs (wanted true x (marks x))) k
prefix_first bs (filter e ps) p h = let k : e ≡ p = cc in ap (λ x. first_in bs (wanted true x (marks x))) k
prefix_first bs (path b w) p h = absurd cc
prefix_first bs (literal t) p h = absurd cc
prefix_first bs (number t) p h = absurd cc
prefix_first bs (variable n) p h = absurd cc
prefix_first bs (call f es) p h = absurd cc

pub prefix_own : (bs : List (List ℕ × List ℕ)) (e : Tree) → inner_of e ≡ None → first_in bs (prefix_marks e) ≡ own_fault e
prefix_own bs (or a b) h = absurd cc
prefix_own bs (and a b) h = absurd cc
prefix_own bs (compare how a b) h = absurd cc
prefix_own bs (arithmetic op a b) h = absurd cc
prefix_own bs (negate a) h = absurd cc
prefix_own bs (union a b) h = absurd cc
prefix_own bs (from e w) h = absurd cc
prefix_own bs (filter e ps) h = absurd cc
prefix_own bs (path true w) h = refl
prefix_own bs (path false stop) h = refl
prefix_own bs (path false (go a t ps w)) h = refl
prefix_own bs (literal t) h = refl
prefix_own bs (number t) h = first_in-plain bs (number_word t) [] ∙ or_else_none (own_fault (number t))
prefix_own bs (variable n) h = refl
prefix_own bs (call f es) h = first_in-plain bs (function_word f es) [] ∙ or_else_none (own_fault (call f es))

pub none_left : {X : Type 0} (o : Option X) → ((x : X) → o ≡ Some x → ⊥) → o ≡ None
none_left None h = refl
none_left (Some x) h = absurd (h x refl)

-- what the working function knows that goes down the prefixes
pub record Descends (bs : List (List ℕ × List ℕ)) (whole prefix : Tree) (found : Option StaticFault) : Type 0 where
  pub same : first_in bs (marks whole) ≡ or_else (first_in bs (prefix_marks prefix)) found
  pub smaller : weight prefix ≤ weight whole

pub descends_begin : (bs : List (List ℕ × List ℕ)) (e : Tree) {found : Option StaticFault} → found ≡ first_in bs (tail_marks e) → Descends bs e e found
descends_begin bs e h = record { same = split_first bs e ∙ ap (or_else (first_in bs (prefix_marks e))) (sym h); smaller = omega arith }

pub descends_on : (bs : List (List ℕ × List ℕ)) {whole prefix : Tree} {found tail : Option StaticFault} (p : Tree) → Descends bs whole prefix found → inner_of prefix ≡ Some p → (needs_nodes prefix && not (gives_nodes p)) ≡ false → tail ≡ first_in bs (tail_marks p) → Descends bs whole p (or_else tail found)
descends_on bs {whole} {prefix} {found} {tail} p d h fine t =
    let s = inner_smaller prefix p h in
    let m = d.smaller in
    let f : first_in bs (prefix_marks prefix) ≡ or_else (first_in bs (prefix_marks p)) tail = prefix_first bs prefix p h ∙ ap (first_in bs) (wanted_fine (needs_nodes prefix) p (marks p) fine) ∙ split_first bs p ∙ ap (or_else (first_in bs (prefix_marks p))) (sym t) in
    record {
      same = d.same ∙ ap (λ x. or_else x found) f ∙ or_else_assoc (first_in bs (prefix_marks p)) tail found;
      smaller = omega (arith, s, m);
    }

pub descends_lacking : (bs : List (List ℕ × List ℕ)) {whole prefix : Tree} {found : Option StaticFault} (p : Tree) → Descends bs whole prefix found → inner_of prefix ≡ Some p → (needs_nodes prefix && not (gives_nodes p)) ≡ true → Some (needed_fault bs p) ≡ first_in bs (marks whole)
descends_lacking bs {whole} {prefix} {found} p d h n =
    sym (d.same ∙ ap (λ x. or_else x found) (prefix_first bs prefix p h ∙ wanted_lacking bs (needs_nodes prefix) p n))

pub descends_end : (bs : List (List ℕ × List ℕ)) {whole prefix : Tree} {found : Option StaticFault} → Descends bs whole prefix found → inner_of prefix ≡ None → or_else (own_fault prefix) found ≡ first_in bs (marks whole)
descends_end bs {whole} {prefix} {found} d h = sym (d.same ∙ ap (λ x. or_else x found) (prefix_own bs prefix h))

-- lists and steps
pub list_first : (bs : List (List ℕ × List ℕ)) (nodes : Bool) (e : Tree) (es : Trees) → first_in bs (list_marks nodes (more e es)) ≡ or_else (first_in bs (wanted nodes e (marks e))) (first_in bs (list_marks false es))
list_first bs nodes e es = first_in-append bs (wanted nodes e (marks e)) (list_marks false es)

axis_first : (bs : List (List ℕ × List ℕ)) (a : StepAxis) → first_in bs (axis_marks a) ≡ axis_fault a
axis_first bs (Known Child) = refl
axis_first bs (Known Descendant) = refl
axis_first bs (Known Parent) = refl
axis_first bs (Known Ancestor) = refl
axis_first bs (Known FollowingSibling) = refl
axis_first bs (Known PrecedingSibling) = refl
axis_first bs (Known Following) = refl
axis_first bs (Known Preceding) = refl
axis_first bs (Known Attribute) = refl
axis_first bs (Known Itself) = refl
axis_first bs (Known DescendantOrSelf) = refl
axis_first bs (Known AncestorOrSelf) = refl
axis_first bs Namespace = refl

pub steps_first : (bs : List (List ℕ × List ℕ)) (a : StepAxis) (t : StepTest) (ps : Trees) (w : Walk) → first_in bs (step_marks (go a t ps w)) ≡ or_else (or_else (or_else (axis_fault a) (test_fault bs t)) (first_in bs (list_marks false ps))) (first_in bs (step_marks w))
steps_first bs a t ps w =
    first_in-append bs (axis_marks a) (plain (test_word t) ∷ (list_marks false ps ++ step_marks w))
    ∙ ap (λ x. or_else x (first_in bs (plain (test_word t) ∷ (list_marks false ps ++ step_marks w)))) (axis_first bs a)
    ∙ ap (or_else (axis_fault a)) (first_in-plain bs (test_word t) (list_marks false ps ++ step_marks w) ∙ ap (or_else (test_fault bs t)) (first_in-append bs (list_marks false ps) (step_marks w)))
    ∙ sym (or_else_assoc (or_else (axis_fault a) (test_fault bs t)) (first_in bs (list_marks false ps)) (first_in bs (step_marks w)) ∙ or_else_assoc (axis_fault a) (test_fault bs t) (or_else (first_in bs (list_marks false ps)) (first_in bs (step_marks w))))

-- the head of all refusals
pub no_refusal : (fs : List StaticFault) → head fs ≡ None → fs ≡ []
no_refusal [] h = refl
no_refusal (f ∷ fs) h = absurd cc

pub first_refusal : (fs : List StaticFault) (f : StaticFault) → head fs ≡ Some f → IsFirst f fs
first_refusal [] f h = absurd cc
first_refusal (g ∷ fs) f h = let k : g ≡ f = cc in (fs, ap (λ x. x ∷ fs) k)

-- lists and steps that go on
is_none : (o : Option StaticFault) {b : Bool} → b ≡ is_some o → b ≡ false → o ≡ None
is_none None h k = refl
is_none (Some x) h k = absurd cc

is_there : (o p : Option StaticFault) {b : Bool} → b ≡ is_some o → b ≡ true → or_else o p ≡ o
is_there None p h k = absurd cc
is_there (Some x) p h k = refl

pub record ListOn (bs : List (List ℕ × List ℕ)) (nodes : Bool) (rest es : Trees) : Type 0 where
  pub same : first_in bs (list_marks nodes rest) ≡ first_in bs (list_marks false es)
  pub smaller : list_weight es ≤ list_weight rest

pub list_on : (bs : List (List ℕ × List ℕ)) (nodes : Bool) (e : Tree) (es rest : Trees) {o : Option StaticFault} {b : Bool} → rest ≡ more e es → o ≡ first_in bs (wanted nodes e (marks e)) → b ≡ is_some o → b ≡ false → ListOn bs nodes rest es
list_on bs nodes e es rest {o} h k i j = record {
  same = ap (λ x. first_in bs (list_marks nodes x)) h ∙ list_first bs nodes e es ∙ ap (λ x. or_else x (first_in bs (list_marks false es))) (sym k ∙ is_none o i j);
  smaller = subst (λ x. list_weight es ≤ list_weight x) (sym h) (omega arith);
}

pub steps_there : (bs : List (List ℕ × List ℕ)) (a : StepAxis) (t : StepTest) (ps : Trees) (w rest : Walk) {o : Option StaticFault} {b : Bool} → rest ≡ go a t ps w → o ≡ or_else (or_else (axis_fault a) (test_fault bs t)) (first_in bs (list_marks false ps)) → b ≡ is_some o → b ≡ true → o ≡ first_in bs (step_marks rest)
steps_there bs a t ps w rest {o} h k i j =
    sym (ap (λ x. first_in bs (step_marks x)) h ∙ steps_first bs a t ps w ∙ ap (λ x. or_else x (first_in bs (step_marks w))) (sym k) ∙ is_there o (first_in bs (step_marks w)) i j)

pub record StepsOn (bs : List (List ℕ × List ℕ)) (rest w : Walk) : Type 0 where
  pub same : first_in bs (step_marks rest) ≡ first_in bs (step_marks w)
  pub smaller : step_weight w ≤ step_weight rest

pub steps_on : (bs : List (List ℕ × List ℕ)) (a : StepAxis) (t : StepTest) (ps : Trees) (w rest : Walk) {o : Option StaticFault} {b : Bool} → rest ≡ go a t ps w → o ≡ or_else (or_else (axis_fault a) (test_fault bs t)) (first_in bs (list_marks false ps)) → b ≡ is_some o → b ≡ false → StepsOn bs rest w
steps_on bs a t ps w rest {o} h k i j = record {
  same = ap (λ x. first_in bs (step_marks x)) h ∙ steps_first bs a t ps w ∙ ap (λ x. or_else x (first_in bs (step_marks w))) (sym k ∙ is_none o i j);
  smaller = subst (λ x. step_weight w ≤ step_weight x) (sym h) (omega arith);
}
