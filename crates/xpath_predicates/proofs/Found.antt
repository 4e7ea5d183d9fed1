-- A loop over the nodes on an axis: those that were asked, and those that are still to come.
use Rattle.std.proofs.Common.{◌≡◌, ℕ, Bool, true, false, ◌||◌, List, [], ◌∷◌, ◌++◌, map, filter, Option, Some, None, refl, sym, ◌∙◌, ap, subst}
use Rattle.std.proofs.Common.{append_assoc, append-nil}
use Rattle.std.specs.Prelude.{option_to_list, IfSome}
use Rattle.std.specs.List.{Contains, list_any}
use Rattle.xml_model.proofs.Each.{contains_here, contains_next}
use Rattle.xml_model.specs.declared.Axis.{Axis}
use Rattle.xml_model.specs.declared.Axis.TheVariants as axes
use Rattle.xml_model.specs.declared.Node.{Node}
use Rattle.xml_model.specs.Names.{Test, passes}
use Rattle.xml_model.specs.Tree.{Entry, Identifies, axis_list, kind_of}
use Rattle.vtd_words.specs.Lists.{Lists}
use Rattle.vtd_words.specs.Table.{node_of}
use Rattle.xpath_axes.specs.Tests.{nodes_on}
use Rattle.xpath_axes.specs.Tests as tests
use Rattle.xpath_tokens.specs.declared.StepAxis.{StepAxis}
use Rattle.xpath_tokens.specs.declared.StepAxis.TheVariants.{Known}
use Rattle.xpath_grammar.specs.declared.expr.StepTest.{StepTest}
use Rattle.xpath_grammar.specs.Tree.{Walk, Trees, stop, go}
use Rattle.xpath_meaning.specs.Context.{Context, is_attribute_axis, on_axis, stepped, test_of}
use Rattle.xpath_laws.proofs.AtOnce.{is_found_on}
use Rattle.xpath_laws.proofs.Trees.{among_contains, contains_among}
use Rattle.xpath_predicates.specs.declared.asked.Asked.{Asked}
use Rattle.xpath_predicates.specs.declared.asked.Asked.TheVariants as asked
use Rattle.xpath_predicates.specs.Asks.{is_bad, is_right, is_sure, any_found, Decides, ForEachContext}

pub any_append : (q : Entry → Bool) (xs ys : List Entry) → list_any q (xs ++ ys) ≡ (list_any q xs || list_any q ys)
any_append q [] ys = refl
any_append q (x ∷ xs) ys = by (q x) (any_append q xs ys)
  where
    by : (b : Bool) → list_any q (xs ++ ys) ≡ (list_any q xs || list_any q ys) → (b || list_any q (xs ++ ys)) ≡ ((b || list_any q xs) || list_any q ys)
    by true e = refl
    by false e = e

-- of a list some were asked, and these are still to come
pub record Asking (a : Asked) (f : (Entry → Bool) → Entry → Bool) (list : List Entry) (coming : List Node) (b : Bool) : Type 0 where
  pub done : List Entry
  pub todo : List Entry
  pub whole : list ≡ done ++ todo
  pub shown : map node_of todo ≡ coming
  pub sound : list_any (f (is_bad a)) done ≡ false
  pub right : list_any (f (is_right a)) done ≡ b

pub asking_none : (a : Asked) (f : (Entry → Bool) → Entry → Bool) (list : List Entry) (coming : List Node) → coming ≡ map node_of list →
    Asking a f list coming false
asking_none a f list coming e = record { done = []; todo = list; whole = refl; shown = sym e; sound = refl; right = refl }

-- the first that is still to come
pub record Next (list : List Entry) (done todo : List Entry) (node : Node) (coming : List Node) : Type 0 where
  pub entry : Entry
  pub rest : List Entry
  pub is : todo ≡ entry ∷ rest
  pub node_is : node_of entry ≡ node
  pub shown : map node_of rest ≡ coming

next_of : (todo : List Entry) (node : Node) (coming : List Node) → map node_of todo ≡ node ∷ coming → Next todo [] todo node coming
next_of [] node coming h = absurd cc
next_of (x ∷ xs) node coming h = record { entry = x; rest = xs; is = refl; node_is = cc; shown = cc }

in_middle : (xs ys : List Entry) (x : Entry) → Contains (xs ++ x ∷ ys) x
in_middle [] ys x = contains_here x ys
in_middle (y ∷ xs) ys x = contains_next y (xs ++ x ∷ ys) x (in_middle xs ys x)

or_false : (a b : Bool) → a ≡ false → b ≡ false → (a || b) ≡ false
or_false a b p q = cc

-- one more was asked
pub asking_more : (a : Asked) (f : (Entry → Bool) → Entry → Bool) (list : List Entry) (node : Node) (coming next : List Node) (b d : Bool) →
    Asking a f list coming b → coming ≡ node ∷ next → ((e : Entry) → Contains list e → node_of e ≡ node → Decides a (λ q. f q e) d) →
    Asking a f list next (b || d)
asking_more a f list node coming next b d k e each =
    let n = next_of k.todo node next (k.shown ∙ e) in
    let whole : list ≡ k.done ++ n.entry ∷ n.rest = k.whole ∙ ap (λ ys. k.done ++ ys) n.is in
    let o = each n.entry (subst (λ xs. Contains xs n.entry) (sym whole) (in_middle k.done n.rest n.entry)) n.node_is in
    record {
      done = k.done ++ n.entry ∷ [];
      todo = n.rest;
      whole = whole ∙ sym (append_assoc k.done (n.entry ∷ []) n.rest);
      shown = n.shown;
      sound = any_append (f (is_bad a)) k.done (n.entry ∷ []) ∙ or_false _ _ k.sound (or_false (f (is_bad a) n.entry) false o.sound refl);
      right = any_append (f (is_right a)) k.done (n.entry ∷ []) ∙ both k.right (or_none (f (is_right a) n.entry) ∙ o.right);
    }
  where
    or_none : (x : Bool) → (x || false) ≡ x
    or_none true = refl
    or_none false = refl

    both : {p q : Bool} → p ≡ b → q ≡ d → (p || q) ≡ (b || d)
    both h g = cc

-- all were asked
pub asking_done : (a : Asked) (f : (Entry → Bool) → Entry → Bool) (list : List Entry) (coming : List Node) (b : Bool) → Asking a f list coming b →
    coming ≡ [] → Decides a (λ q. list_any (f q) list) b
asking_done a f list coming b k e =
    let n : k.todo ≡ [] = nothing k.todo (k.shown ∙ e) in
    let w : list ≡ k.done = k.whole ∙ ap (λ ys. k.done ++ ys) n ∙ append-nil k.done in
    record { sound = ap (list_any (f (is_bad a))) w ∙ k.sound; right = ap (list_any (f (is_right a))) w ∙ k.right }
  where
    nothing : (xs : List Entry) → map node_of xs ≡ [] → xs ≡ []
    nothing [] h = refl
    nothing (x ∷ xs) h = absurd cc

never : (q : Entry → Bool) (xs : List Entry) → ((x : Entry) → q x ≡ false) → list_any q xs ≡ false
never q [] h = refl
never q (x ∷ xs) h = or_false (q x) (list_any q xs) (h x) (never q xs h)

never_bad : (a : Asked) (e : Entry) → is_sure a ≡ true → is_bad a e ≡ false
never_bad asked.Any e h = refl
never_bad (asked.Text how t) e h = refl
never_bad (asked.Number how x) e h = absurd cc

never_found : (w : Walk) (c : Context) (q : Entry → Bool) (e : Entry) → ((x : Entry) → q x ≡ false) → any_found w c q e ≡ false
never_found stop c q e h = h e
never_found (go axis test ps w) c q e h = never (any_found w c q) (stepped axis test c e) (λ x. never_found w c q x h)

-- one was right, and none can be bad
pub asking_found : (a : Asked) (w : Walk) (c : Context) (list : List Entry) (coming : List Node) (b : Bool) → Asking a (any_found w c) list coming b →
    b ≡ true → is_sure a ≡ true →
    Decides a (λ q. list_any (any_found w c q) list) true
asking_found a w c list coming b k e h = record {
  sound = never (any_found w c (is_bad a)) list (λ x. never_found w c (is_bad a) x (λ y. never_bad a y h));
  right = ap (list_any (any_found w c (is_right a))) k.whole ∙ any_append (any_found w c (is_right a)) k.done k.todo ∙ first (k.right ∙ e);
}
  where
    first : {p : Bool} → p ≡ true → (p || list_any (any_found w c (is_right a)) k.todo) ≡ true
    first h = cc

-- Along an axis.

same_axis : (axis : Axis) → tests.is_attribute_axis axis ≡ is_attribute_axis axis
same_axis axes.Child = refl
same_axis axes.Descendant = refl
same_axis axes.Parent = refl
same_axis axes.Ancestor = refl
same_axis axes.FollowingSibling = refl
same_axis axes.PrecedingSibling = refl
same_axis axes.Following = refl
same_axis axes.Preceding = refl
same_axis axes.Attribute = refl
same_axis axes.Itself = refl
same_axis axes.DescendantOrSelf = refl
same_axis axes.AncestorOrSelf = refl

pub begins : (a : Asked) (f : (Entry → Bool) → Entry → Bool) (axis : Axis) (t : Test) (e : Entry) (document es : List Entry) (coming : List Node) →
    document ≡ es → coming ≡ nodes_on axis t e es →
    Asking a f (on_axis axis t e document) coming false
begins a f axis t e document es coming d h = asking_none a f (on_axis axis t e document) coming
    (h ∙ ap (λ b. map node_of (filter (passes t b) (axis_list axis e.path es))) (same_axis axis) ∙ ap (λ xs. map node_of (on_axis axis t e xs)) (sym d))

same_node : (x : Entry) (n : Node) → node_of x ≡ n → (kind_of x.what ≡ n.kind) × (x.index ≡ n.at)
same_node x n h = (ap (λ m. m.kind) h, ap (λ m. m.at) h)

pub goes_on : (a : Asked) (f : (Entry → Bool) → Entry → Bool) (axis : Axis) (t : Test) (e : Entry) (document : List Entry) (node : Node) (coming next : List Node) (r : Option Node) (b d g : Bool) →
    Asking a f (on_axis axis t e document) coming b → coming ≡ option_to_list r ++ next → r ≡ Some node →
    ((x : Entry) → Identifies node.kind node.at x document → Decides a (λ q. f q x) d) → g ≡ (b || d) → Asking a f (on_axis axis t e document) next g
goes_on a f axis t e document node coming next r b d g k h i each j =
    subst (Asking a f (on_axis axis t e document) next) (sym j)
    (asking_more a f (on_axis axis t e document) node coming next b d k (h ∙ ap (λ o. option_to_list o ++ next) i)
    (λ x c n. let s = same_node x node n in each x (among_contains document x (is_found_on axis t e document x (contains_among _ x c)).there, s.0, s.1)))

pub ends : (a : Asked) (f : (Entry → Bool) → Entry → Bool) (axis : Axis) (t : Test) (e : Entry) (document : List Entry) (coming next : List Node) (r : Option Node) (b : Bool) →
    Asking a f (on_axis axis t e document) coming b → coming ≡ option_to_list r ++ next → r ≡ None → next ≡ [] →
    Decides a (λ q. list_any (f q) (on_axis axis t e document)) b
ends a f axis t e document coming next r b k h i n =
    asking_done a f (on_axis axis t e document) coming b k (h ∙ ap (λ o. option_to_list o ++ next) i ∙ n)

step_is : (a : StepAxis) (axis : Axis) (test : StepTest) (b : List (List ℕ × List ℕ)) (t : Test) (c : Context) (e : Entry) → a ≡ Known axis →
    t ≡ test_of b test → c.bindings ≡ b → stepped a test c e ≡ on_axis axis t e c.document
unfolding stepped
step_is a axis test b t c e q k h = ap (λ x. stepped x test c e) q ∙ ap (λ u. on_axis axis u e c.document) (ap (λ x. test_of x test) h ∙ sym k)

-- a step along an axis
pub along : (bytes : List ℕ) (lists : Lists) (bindings : List (List ℕ × List ℕ)) (node : Node) (asked : Asked) (r : Option Bool) (whole w w' : Walk) (a a' : StepAxis) (axis : Axis) (test test' : StepTest) (ps : Trees) (t : Test) →
    whole ≡ go a test ps w → a' ≡ a → a' ≡ Known axis → test' ≡ test → t ≡ test_of bindings test' → w' ≡ w →
    IfSome r (λ b. ForEachContext bytes lists bindings node (λ c e. Decides asked (λ q. list_any (any_found w' c q) (on_axis axis t e c.document)) b)) →
    IfSome r (λ b. ForEachContext bytes lists bindings node (λ c e. Decides asked (λ q. any_found whole c q e) b))
along bytes lists bindings node asked None whole w w' a a' axis test test' ps t e1 e2 e3 e4 e5 e6 f = tt
along bytes lists bindings node asked (Some b) whole w w' a a' axis test test' ps t e1 e2 e3 e4 e5 e6 f = λ nest h c d k e i.
    let o = f nest h c d k e i in
    record { sound = same c e k (is_bad asked) ∙ o.sound; right = same c e k (is_right asked) ∙ o.right }
  where
    same : (c : Context) (e : Entry) → c.bindings ≡ bindings → (q : Entry → Bool) →
        any_found whole c q e ≡ list_any (any_found w' c q) (on_axis axis t e c.document)
    same c e k q = ap (λ x. any_found x c q e) e1
        ∙ ap (list_any (any_found w c q)) (step_is a axis test bindings t c e (sym e2 ∙ e3) (e5 ∙ ap (test_of bindings) e4) k)
        ∙ ap (λ x. list_any (any_found x c q) (on_axis axis t e c.document)) (sym e6)
