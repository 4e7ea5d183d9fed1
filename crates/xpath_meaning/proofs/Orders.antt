-- The nodes of what an expression means are in document order, each once.
use Rattle.std.proofs.Common.{◌≡◌, ℕ, zero, suc, ◌+◌, map, arith, ◌<◌, Bool, true, false, cond, List, [], ◌∷◌, ◌++◌, length, filter, Option, Some, None, Ok, Err, sym, subst}
use Rattle.std.specs.Prelude.{slice_index, slice_get, pos, ◌*◌}
use Rattle.std.specs.List.{AllByRecursion}
use Rattle.std.specs.List.Sorted.{IsStrictlyIncreasing}
use Rattle.xml_model.specs.declared.Node.{Node}
use Rattle.vtd_words.specs.Table.{node_of}
use Rattle.xml_model.specs.Contexts.{Rises}
use Rattle.xml_model.specs.Tree.{Entry}
use Rattle.xpath_grammar.specs.Tree.{Tree, Trees, Walk, or, and, union, compare, arithmetic, negate, path, from}
use Rattle.xpath_grammar.specs.Tree.{filter as filtering, literal, variable, call, none, more, stop, go}
use Rattle.xpath_values.specs.Answers.{Answer, and_then, with}
use Rattle.xpath_values.specs.declared.Value.{Value}
use Rattle.xpath_values.specs.Values.{Meant, nodes, truth, number, text, truth_of, number_of, string_of, sum_of_nodes, held_as, IsHeld}
use Rattle.xpath_values.specs.Values as values
use Rattle.xpath_values.specs.Numbers as numbers
use Rattle.xpath_values.specs.Numbers.{in_range, one}
use Rattle.xpath_tokens.specs.Numbers.{number_value}
use Rattle.xpath_tokens.specs.declared.Operator.{Operator}
use Rattle.xpath_meaning.specs.declared.function.Function.{Function}
use Rattle.xpath_meaning.specs.declared.function.Function.TheVariants as f
use Rattle.xpath_meaning.specs.Meets.{gathered, IsHeldFor}
use Rattle.xpath_meaning.specs.Scope.{IsInOrder}
use Rattle.xpath_meaning.specs.Context.{Context, at, in_order, start, is_in, is_root, is_passed, nodes_in, stepped}
use Rattle.xpath_meaning.specs.Functions.{called, function_named, argument, own, substring_of}
use Rattle.xpath_meaning.specs.Meaning.{mean, listed, filtered, walked, kept, one_if, step_from, either, both, operated, answered, united}

-- the nodes of a node-set are in document order, each once
abbrev pub AreInOrder : Meant → Type 0
AreInOrder (nodes es) = Rises es
AreInOrder _ = Unit {0}

abbrev pub Orderly : Answer Meant → Type 0
Orderly (Ok v) = AreInOrder v
Orderly (Err e) = Unit {0}

abbrev pub OrderlyList : Answer (List Entry) → Type 0
OrderlyList (Ok es) = Rises es
OrderlyList (Err e) = Unit {0}

then : {X : Type 0} (m : Answer X) (g : X → Answer Meant) → ((x : X) → Orderly (g x)) → Orderly (and_then m g)
then (Ok x) g h = h x
then (Err e) g h = tt

made : {X : Type 0} (m : Answer X) (g : X → Meant) → ((x : X) → AreInOrder (g x)) → Orderly (with m g)
made (Ok x) g h = h x
made (Err e) g h = tt

then_meant : (m : Answer Meant) (g : Meant → Answer Meant) → Orderly m → ((v : Meant) → AreInOrder v → Orderly (g v)) → Orderly (and_then m g)
then_meant (Ok x) g o h = h x o
then_meant (Err e) g o h = tt

then_list : (m : Answer (List Entry)) (g : List Entry → Answer (List Entry)) → OrderlyList m → ((es : List Entry) → Rises es → OrderlyList (g es)) → OrderlyList (and_then m g)
then_list (Ok x) g o h = h x o
then_list (Err e) g o h = tt

as_nodes : (m : Answer (List Entry)) → OrderlyList m → Orderly (with m nodes)
as_nodes (Ok es) o = o
as_nodes (Err e) o = tt

in_nodes : (v : Meant) → AreInOrder v → Rises (nodes_in v)
in_nodes (nodes es) o = o
in_nodes (truth b) o = tt
in_nodes (number x) o = tt
in_nodes (text t) o = tt

all_filter : (P : Entry → Type 0) (p : Entry → Bool) (es : List Entry) → AllByRecursion P es → AllByRecursion P (filter p es)
all_filter P p [] h = tt
all_filter P p (e ∷ es) h = by (p e) (all_filter P p es h.1)
  where
    by : (b : Bool) → AllByRecursion P (filter p es) → AllByRecursion P (cond b (e ∷ filter p es) (filter p es))
    by true r = (h.0, r)
    by false r = r

filter_rises : (p : Entry → Bool) (es : List Entry) → Rises es → Rises (filter p es)
filter_rises p [] h = tt
filter_rises p (e ∷ es) h = by (p e) (filter_rises p es h.1)
  where
    by : (b : Bool) → Rises (filter p es) → Rises (cond b (e ∷ filter p es) (filter p es))
    by true r = (all_filter (λ y. e.index < y.index) p es h.0, r)
    by false r = r

order_rises : (document es : List Entry) → Rises document → Rises (in_order document es)
unfolding in_order
order_rises document es r = filter_rises (is_in es) document r

-- what is kept holds what all hold
abbrev All : (Entry → Type 0) → Answer (List Entry) → Type 0
All P (Ok es) = AllByRecursion P es
All P (Err e) = Unit {0}

kept_all : (P : Entry → Type 0) (g : Context → Answer Meant) (c : Context) (n p : ℕ) (es : List Entry) → AllByRecursion P es → All P (kept g c n p es)
kept_all P g c n p [] h = tt
kept_all P g c n p (e ∷ es) h = by (g (at c e p n)) (kept g c n (suc p) es) (kept_all P g c n (suc p) es h.1)
  where
    put : (b : Bool) (zs : List Entry) → AllByRecursion P zs → AllByRecursion P (one_if b e ++ zs)
    put true zs a = (h.0, a)
    put false zs a = a

    by : (m : Answer Meant) (r : Answer (List Entry)) → All P r → All P (and_then m (λ v. with r (λ zs. one_if (is_passed v p) e ++ zs)))
    by (Err x) r a = tt
    by (Ok v) (Err x) a = tt
    by (Ok v) (Ok zs) a = put (is_passed v p) zs a

kept_rises : (g : Context → Answer Meant) (c : Context) (n p : ℕ) (es : List Entry) → Rises es → OrderlyList (kept g c n p es)
kept_rises g c n p [] h = tt
kept_rises g c n p (e ∷ es) h = by (g (at c e p n)) (kept g c n (suc p) es) (kept_rises g c n (suc p) es h.1) (kept_all (λ y. e.index < y.index) g c n (suc p) es h.0)
  where
    put : (b : Bool) (zs : List Entry) → Rises zs → AllByRecursion (λ y. e.index < y.index) zs → Rises (one_if b e ++ zs)
    put true zs a l = (l, a)
    put false zs a l = a

    by : (m : Answer Meant) (r : Answer (List Entry)) → OrderlyList r → All (λ y. e.index < y.index) r → OrderlyList (and_then m (λ v. with r (λ zs. one_if (is_passed v p) e ++ zs)))
    by (Err x) r a l = tt
    by (Ok v) (Err x) a l = tt
    by (Ok v) (Ok zs) a l = put (is_passed v p) zs a l

start_rises : (absolute : Bool) (c : Context) → Rises c.document → Rises (start absolute c)
start_rises true c r = filter_rises is_root c.document r
start_rises false c r = (tt, tt)

either_orderly : (b : Bool) (m : Answer Meant) → Orderly (either b m)
either_orderly true m = tt
either_orderly false m = made m (λ w. truth (truth_of w)) (λ x. tt)

both_orderly : (b : Bool) (m : Answer Meant) → Orderly (both b m)
both_orderly true m = made m (λ w. truth (truth_of w)) (λ x. tt)
both_orderly false m = tt

operated_orderly : (how : Operator) (v w : Meant) → Orderly (operated how v w)
operated_orderly how v w =
    then (number_of v) (λ x. and_then (number_of w) (λ y. with (numbers.arithmetic how x y) number))
    (λ x. then (number_of w) (λ y. with (numbers.arithmetic how x y) number) (λ y. made (numbers.arithmetic how x y) number (λ z. tt)))

called_orderly : (g : Function) (c : Context) (vs : List Meant) → Orderly (called g c vs)
called_orderly f.Last c vs = tt
called_orderly f.Position c vs = tt
called_orderly f.Count c vs = tt
called_orderly f.LocalName c vs = tt
called_orderly f.NamespaceUri c vs = tt
called_orderly f.Name c vs = tt
called_orderly f.AsString c vs = tt
called_orderly f.Concat c vs = tt
called_orderly f.StartsWith c vs = tt
called_orderly f.Contains c vs = tt
called_orderly f.SubstringBefore c vs = tt
called_orderly f.SubstringAfter c vs = tt
called_orderly f.Substring c vs =
    then (number_of (argument 1 vs)) (λ from. with (substring_of (string_of (argument 0 vs)) from (slice_get vs 2)) text)
    (λ from. made (substring_of (string_of (argument 0 vs)) from (slice_get vs 2)) text (λ y. tt))
called_orderly f.StringLength c vs = made (in_range (pos (one * length (string_of (own c vs))))) number (λ y. tt)
called_orderly f.NormalizeSpace c vs = tt
called_orderly f.Translate c vs = tt
called_orderly f.AsBoolean c vs = tt
called_orderly f.Not c vs = tt
called_orderly f.IsTrue c vs = tt
called_orderly f.IsFalse c vs = tt
called_orderly f.Lang c vs = tt
called_orderly f.AsNumber c vs = made (number_of (own c vs)) number (λ y. tt)
called_orderly f.Sum c vs = made (sum_of_nodes (nodes_in (argument 0 vs))) number (λ y. tt)
called_orderly f.Floor c vs = made (number_of (argument 0 vs)) (λ x. number (numbers.floor x)) (λ y. tt)
called_orderly f.Ceiling c vs = made (number_of (argument 0 vs)) (λ x. number (numbers.ceiling x)) (λ y. tt)
called_orderly f.Round c vs = made (number_of (argument 0 vs)) (λ x. number (numbers.round x)) (λ y. tt)

answered_orderly : (g : Option Function) (c : Context) (vs : List Meant) → Orderly (answered g c vs)
answered_orderly None c vs = tt
answered_orderly (Some g) c vs = called_orderly g c vs

joined : (m : Answer (List Entry)) (c : Context) → Rises c.document → OrderlyList (with m (in_order c.document))
joined (Ok es) c r = order_rises c.document es r
joined (Err e) c r = tt

mutual
  pub mean_orderly : (t : Tree) (c : Context) → Rises c.document → Orderly (mean t c)
  mean_orderly (or a b) c r = then (mean a c) (λ v. either (truth_of v) (mean b c)) (λ v. either_orderly (truth_of v) (mean b c))
  mean_orderly (and a b) c r = then (mean a c) (λ v. both (truth_of v) (mean b c)) (λ v. both_orderly (truth_of v) (mean b c))
  mean_orderly (compare how a b) c r =
      then (mean a c) (λ v. and_then (mean b c) (λ w. with (values.compare how v w) truth))
      (λ v. then (mean b c) (λ w. with (values.compare how v w) truth) (λ w. made (values.compare how v w) truth (λ x. tt)))
  mean_orderly (arithmetic how a b) c r =
      then (mean a c) (λ v. and_then (mean b c) (operated how v)) (λ v. then (mean b c) (operated how v) (λ w. operated_orderly how v w))
  mean_orderly (negate a) c r =
      then (mean a c) (λ v. with (number_of v) (λ x. number (numbers.negative x))) (λ v. made (number_of v) (λ x. number (numbers.negative x)) (λ x. tt))
  mean_orderly (union a b) c r =
      then (mean a c) (λ v. with (mean b c) (united c.document v)) (λ v. made (mean b c) (united c.document v) (λ w. order_rises c.document (nodes_in v ++ nodes_in w) r))
  mean_orderly (path absolute w) c r = as_nodes (walked w c (start absolute c)) (walked_orderly w c r (start absolute c) (start_rises absolute c r))
  mean_orderly (from e w) c r =
      then_meant (mean e c) (λ v. with (walked w c (nodes_in v)) nodes) (mean_orderly e c r)
      (λ v o. as_nodes (walked w c (nodes_in v)) (walked_orderly w c r (nodes_in v) (in_nodes v o)))
  mean_orderly (filtering e ps) c r =
      then_meant (mean e c) (λ v. with (filtered ps c (nodes_in v)) nodes) (mean_orderly e c r)
      (λ v o. as_nodes (filtered ps c (nodes_in v)) (filtered_orderly ps c r (nodes_in v) (in_nodes v o)))
  mean_orderly (literal t) c r = tt
  mean_orderly (Tree.number t) c r = made (numbers.number_held (number_value t)) number (λ x. tt)
  mean_orderly (variable name) c r = tt
  mean_orderly (call name es) c r = then (listed es c) (answered (function_named name) c) (λ vs. answered_orderly (function_named name) c vs)

  pub filtered_orderly : (ps : Trees) (c : Context) → Rises c.document → (es : List Entry) → Rises es → OrderlyList (filtered ps c es)
  filtered_orderly none c r es h = h
  filtered_orderly (more p ps) c r es h =
      then_list (kept (mean p) c (length es) 1 es) (filtered ps c) (kept_rises (mean p) c (length es) 1 es h) (λ zs k. filtered_orderly ps c r zs k)

  pub walked_orderly : (w : Walk) (c : Context) → Rises c.document → (es : List Entry) → Rises es → OrderlyList (walked w c es)
  walked_orderly stop c r es h = h
  walked_orderly (go axis test ps w) c r es h =
      then_list (step_from (filtered ps) axis test c es) (walked w c) (joined (gathered (λ e. filtered ps c (stepped axis test c e)) es) c r) (λ zs k. walked_orderly w c r zs k)

-- What a program holds for it.

increasing : (es : List Entry) → Rises es → IsStrictlyIncreasing (map (λ n. n.at) (map node_of es))
increasing [] r = λ k l. absurd (omega (arith, l))
increasing (e ∷ es) r = this es r (increasing es r.1)
  where
    this : (es : List Entry) → Rises (e ∷ es) → IsStrictlyIncreasing (map (λ (n : Node). n.at) (map node_of es)) → IsStrictlyIncreasing (map (λ (n : Node). n.at) (map node_of (e ∷ es)))
    this [] r h = λ k l. absurd (omega (arith, l))
    this (y ∷ es) r h = λ k l. by k l
      where
        by : (k : ℕ) → k + 1 < length (map (λ (n : Node). n.at) (map node_of (e ∷ y ∷ es))) → slice_index (map (λ (n : Node). n.at) (map node_of (e ∷ y ∷ es))) k < slice_index (map (λ (n : Node). n.at) (map node_of (e ∷ y ∷ es))) (k + 1)
        by zero l = r.0.0
        by (suc k) l =
            let q : suc k + 1 ≡ suc (k + 1) = omega arith in
            subst (λ n. slice_index (map (λ (n : Node). n.at) (map node_of (y ∷ es))) k < slice_index (map (λ (n : Node). n.at) (map node_of (e ∷ y ∷ es))) n) (sym q) (h k (omega (arith, l)))

held_in_order : (v : Meant) → AreInOrder v → IsInOrder (held_as v)
held_in_order (nodes es) o = increasing es o
held_in_order (truth b) o = tt
held_in_order (number x) o = tt
held_in_order (text t) o = tt

-- what an expression means is held in document order
pub meant_in_order : (t : Tree) (c : Context) (x : Value) → Rises c.document → IsHeldFor (IsHeld c.document) x (mean t c) → IsInOrder x
meant_in_order t c x r h =
    let o : Orderly (Ok h.value) = subst Orderly h.meant_is (mean_orderly t c r) in
    subst IsInOrder (sym h.held.same) (held_in_order h.value o)
