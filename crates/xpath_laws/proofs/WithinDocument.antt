-- The nodes of what an expression means are of the document.
use Rattle.std.proofs.Common.{◌≡◌, ℕ, suc, Bool, true, false, cond, List, [], ◌∷◌, ◌++◌, length, filter, Option, Some, None, Ok}
use Rattle.std.proofs.Common.{Err, subst}
use Rattle.std.specs.List.{AllByRecursion}
use Rattle.xml_model.specs.Tree.{Entry}
use Rattle.xpath_grammar.specs.Tree.{Tree, Trees, Walk, or, and, union, compare, arithmetic, negate, path, from}
use Rattle.xpath_grammar.specs.Tree.{filter as filtering, literal, variable, call, none, more, stop, go}
use Rattle.xpath_values.specs.Answers.{Answer, and_then, with}
use Rattle.xpath_values.specs.Values.{Meant, nodes, truth, number, text, truth_of}
use Rattle.xpath_meaning.specs.declared.function.Function.{Function}
use Rattle.xpath_meaning.specs.declared.function.Function.TheVariants as f
use Rattle.xpath_meaning.specs.Meets.{gathered}
use Rattle.xpath_meaning.specs.Context.{Context, at, in_order, start, is_in, is_root, is_passed, nodes_in, stepped}
use Rattle.std.specs.Prelude.{pos, ◌*◌}
use Rattle.std.specs.List.{slice_get}
use Rattle.xpath_tokens.specs.declared.Operator.{Operator}
use Rattle.xpath_tokens.specs.Numbers.{number_value}
use Rattle.xpath_values.specs.Numbers.{in_range, one, floor, ceiling, round, number_held, negative}
use Rattle.xpath_values.specs.Numbers as numbers
use Rattle.xpath_values.specs.Values as values
use Rattle.xpath_values.specs.Values.{string_of, number_of, sum_of_nodes}
use Rattle.xpath_meaning.specs.Functions.{called, function_named, argument, own, substring_of}
use Rattle.xpath_meaning.specs.Meaning.{mean, listed, filtered, walked, kept, one_if, step_from, either, both, operated, answered}
use Rattle.std.specs.List.{Contains}
use Rattle.xml_model.proofs.Each.{each_more, contains_here, contains_next}

-- all of a list are of another
abbrev AllIn : List Entry → List Entry → Type 0
AllIn document es = AllByRecursion (λ x. Contains document x) es

abbrev AreWithin : List Entry → Meant → Type 0
AreWithin document (nodes es) = AllIn document es
AreWithin document _ = Unit {0}

abbrev Within : List Entry → Answer Meant → Type 0
Within document (Ok v) = AreWithin document v
Within document (Err e) = Unit {0}

abbrev ListWithin : List Entry → Answer (List Entry) → Type 0
ListWithin document (Ok es) = AllIn document es
ListWithin document (Err e) = Unit {0}

then : {X : Type 0} (d : List Entry) (m : Answer X) (g : X → Answer Meant) → ((x : X) → Within d (g x)) → Within d (and_then m g)
then d (Ok x) g h = h x
then d (Err e) g h = tt

made : {X : Type 0} (d : List Entry) (m : Answer X) (g : X → Meant) → ((x : X) → AreWithin d (g x)) → Within d (with m g)
made d (Ok x) g h = h x
made d (Err e) g h = tt

then_meant : (d : List Entry) (m : Answer Meant) (g : Meant → Answer Meant) → Within d m → ((v : Meant) → AreWithin d v → Within d (g v)) →
    Within d (and_then m g)
then_meant d (Ok x) g o h = h x o
then_meant d (Err e) g o h = tt

then_list : (d : List Entry) (m : Answer (List Entry)) (g : List Entry → Answer (List Entry)) → ListWithin d m →
    ((es : List Entry) → AllIn d es → ListWithin d (g es)) → ListWithin d (and_then m g)
then_list d (Ok x) g o h = h x o
then_list d (Err e) g o h = tt

as_nodes : (d : List Entry) (m : Answer (List Entry)) → ListWithin d m → Within d (with m nodes)
as_nodes d (Ok es) o = o
as_nodes d (Err e) o = tt

in_nodes : (d : List Entry) (v : Meant) → AreWithin d v → AllIn d (nodes_in v)
in_nodes d (nodes es) o = o
in_nodes d (truth b) o = tt
in_nodes d (number x) o = tt
in_nodes d (text t) o = tt

all_of : (es : List Entry) → AllIn es es
all_of [] = tt
all_of (e ∷ es) = (contains_here e es, each_more (λ x. Contains es x) (λ x. Contains (e ∷ es) x) (λ x k. contains_next e es x k) es (all_of es))

filter_within : (d : List Entry) (p : Entry → Bool) (es : List Entry) → AllIn d es → AllIn d (filter p es)
filter_within d p [] h = tt
filter_within d p (e ∷ es) h = by (p e) (filter_within d p es h.1)
  where
    by : (b : Bool) → AllIn d (filter p es) → AllIn d (cond b (e ∷ filter p es) (filter p es))
    by true r = (h.0, r)
    by false r = r

order_within : (d es : List Entry) → AllIn d (in_order d es)
unfolding in_order
order_within d es = filter_within d (is_in es) d (all_of d)

kept_within : (d : List Entry) (g : Context → Answer Meant) (c : Context) (n p : ℕ) (es : List Entry) → AllIn d es → ListWithin d (kept g c n p es)
kept_within d g c n p [] h = tt
kept_within d g c n p (e ∷ es) h = by (g (at c e p n)) (kept g c n (suc p) es) (kept_within d g c n (suc p) es h.1)
  where
    put : (b : Bool) (zs : List Entry) → AllIn d zs → AllIn d (one_if b e ++ zs)
    put true zs a = (h.0, a)
    put false zs a = a

    by : (m : Answer Meant) (r : Answer (List Entry)) → ListWithin d r → ListWithin d (and_then m (λ v. with r (λ zs. one_if (is_passed v p) e ++ zs)))
    by (Err x) r a = tt
    by (Ok v) (Err x) a = tt
    by (Ok v) (Ok zs) a = put (is_passed v p) zs a

start_within : (absolute : Bool) (c : Context) → Contains c.document c.node → AllIn c.document (start absolute c)
start_within true c r = filter_within c.document is_root c.document (all_of c.document)
start_within false c r = (r, tt)

either_within : (d : List Entry) (b : Bool) (m : Answer Meant) → Within d (either b m)
either_within d true m = tt
either_within d false m = made d m (λ w. truth (truth_of w)) (λ x. tt)

both_within : (d : List Entry) (b : Bool) (m : Answer Meant) → Within d (both b m)
both_within d true m = made d m (λ w. truth (truth_of w)) (λ x. tt)
both_within d false m = tt

called_within : (g : Function) (c : Context) (vs : List Meant) → Within c.document (called g c vs)
called_within f.Last c vs = tt
called_within f.Position c vs = tt
called_within f.Count c vs = tt
called_within f.LocalName c vs = tt
called_within f.NamespaceUri c vs = tt
called_within f.Name c vs = tt
called_within f.AsString c vs = tt
called_within f.Concat c vs = tt
called_within f.StartsWith c vs = tt
called_within f.Contains c vs = tt
called_within f.SubstringBefore c vs = tt
called_within f.SubstringAfter c vs = tt
called_within f.Substring c vs =
    then c.document (number_of (argument 1 vs)) (λ from. with (substring_of (string_of (argument 0 vs)) from (slice_get vs 2)) text)
    (λ x. made c.document (substring_of (string_of (argument 0 vs)) x (slice_get vs 2)) text (λ y. tt))
called_within f.StringLength c vs = made c.document (in_range (pos (one * length (string_of (own c vs))))) number (λ y. tt)
called_within f.NormalizeSpace c vs = tt
called_within f.Translate c vs = tt
called_within f.AsBoolean c vs = tt
called_within f.Not c vs = tt
called_within f.IsTrue c vs = tt
called_within f.IsFalse c vs = tt
called_within f.Lang c vs = tt
called_within f.AsNumber c vs = made c.document (number_of (own c vs)) number (λ y. tt)
called_within f.Sum c vs = made c.document (sum_of_nodes (nodes_in (argument 0 vs))) number (λ y. tt)
called_within f.Floor c vs = made c.document (number_of (argument 0 vs)) (λ x. number (floor x)) (λ y. tt)
called_within f.Ceiling c vs = made c.document (number_of (argument 0 vs)) (λ x. number (ceiling x)) (λ y. tt)
called_within f.Round c vs = made c.document (number_of (argument 0 vs)) (λ x. number (round x)) (λ y. tt)

answered_within : (g : Option Function) (c : Context) (vs : List Meant) → Within c.document (answered g c vs)
answered_within None c vs = tt
answered_within (Some g) c vs = called_within g c vs

operated_within : (d : List Entry) (how : Operator) (v w : Meant) → Within d (operated how v w)
operated_within d how v w =
    then d (number_of v) (λ x. and_then (number_of w) (λ y. with (numbers.arithmetic how x y) number))
    (λ x. then d (number_of w) (λ y. with (numbers.arithmetic how x y) number) (λ y. made d (numbers.arithmetic how x y) number (λ z. tt)))

joined : (d : List Entry) (m : Answer (List Entry)) → ListWithin d (with m (in_order d))
joined d (Ok es) = order_within d es
joined d (Err e) = tt

filtered_within : (ps : Trees) (c : Context) (es : List Entry) → AllIn c.document es → ListWithin c.document (filtered ps c es)
filtered_within none c es h = h
filtered_within (more p ps) c es h =
    then_list c.document (kept (mean p) c (length es) 1 es) (filtered ps c) (kept_within c.document (mean p) c (length es) 1 es h)
    (λ zs k. filtered_within ps c zs k)

walked_within : (w : Walk) (c : Context) (es : List Entry) → AllIn c.document es → ListWithin c.document (walked w c es)
walked_within stop c es h = h
walked_within (go axis test ps w) c es h =
    then_list c.document (step_from (filtered ps) axis test c es) (walked w c) (joined c.document (gathered (λ e. filtered ps c (stepped axis test c e)) es))
    (λ zs k. walked_within w c zs k)

pub mean_within : (t : Tree) (c : Context) → Contains c.document c.node → Within c.document (mean t c)
mean_within (or a b) c r = then c.document (mean a c) _ (λ v. either_within c.document (truth_of v) (mean b c))
mean_within (and a b) c r = then c.document (mean a c) _ (λ v. both_within c.document (truth_of v) (mean b c))
mean_within (compare how a b) c r =
    then c.document (mean a c) _ (λ v. then c.document (mean b c) _ (λ w. made c.document (values.compare how v w) truth (λ x. tt)))
mean_within (arithmetic how a b) c r = then c.document (mean a c) _ (λ v. then c.document (mean b c) _ (λ w. operated_within c.document how v w))
mean_within (negate a) c r = then c.document (mean a c) _ (λ v. made c.document (number_of v) (λ x. number (negative x)) (λ x. tt))
mean_within (union a b) c r = then c.document (mean a c) _ (λ v. made c.document (mean b c) _ (λ w. order_within c.document _))
mean_within (path absolute w) c r = as_nodes c.document _ (walked_within w c (start absolute c) (start_within absolute c r))
mean_within (from e w) c r =
    then_meant c.document (mean e c) _ (mean_within e c r) (λ v o. as_nodes c.document _ (walked_within w c (nodes_in v) (in_nodes c.document v o)))
mean_within (filtering e ps) c r =
    then_meant c.document (mean e c) _ (mean_within e c r) (λ v o. as_nodes c.document _ (filtered_within ps c (nodes_in v) (in_nodes c.document v o)))
mean_within (literal t) c r = tt
mean_within (Tree.number t) c r = made c.document (number_held (number_value t)) number (λ x. tt)
mean_within (variable name) c r = tt
mean_within (call name es) c r = then c.document (listed es c) _ (λ vs. answered_within (function_named name) c vs)

-- the nodes of a value
pub nodes_within : (t : Tree) (c : Context) (es : List Entry) → Contains c.document c.node → mean t c ≡ Ok (nodes es) →
    AllByRecursion (λ x. Contains c.document x) es
nodes_within t c es r e = subst (Within c.document) e (mean_within t c r)
