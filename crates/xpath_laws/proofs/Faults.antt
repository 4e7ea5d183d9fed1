-- Expressions that are faultless by their text have no fault.
use Rattle.std.proofs.Common.{◌≡◌, ℕ, suc, Bool, true, false, cond, ◌&&◌, List, [], ◌∷◌, length, Option, Some, None, Ok, Err, refl}
use Rattle.std.proofs.Common.{sym, ◌∙◌, ap, subst}
use Rattle.std.specs.Prelude.{is_ok}
use Rattle.xml_model.specs.Tree.{Entry}
use Rattle.xpath_tokens.specs.declared.Comparison.{Comparison}
use Rattle.xpath_grammar.specs.declared.functions.ValueType.{ValueType}
use Rattle.xpath_grammar.specs.declared.functions.ValueType.TheVariants as type
use Rattle.xpath_grammar.specs.Tree.{Tree, Trees, Walk, or, and, union, compare, arithmetic, negate, path, from, filter, literal, variable, call, none, more}
use Rattle.xpath_grammar.specs.Tree.{stop, go}
use Rattle.xpath_values.specs.Answers.{Answer, and_then, with}
use Rattle.xpath_meaning.specs.Meets.{gathered}
use Rattle.std.specs.List.{slice_get}
use Rattle.xpath_tokens.specs.Numbers.{number_value}
use Rattle.xpath_values.specs.Numbers.{number_held}
use Rattle.xpath_values.specs.Values.{Meant, nodes, truth, number, text, is_equality, truth_of, number_of, by_kind, by_numbers, beside}
use Rattle.xpath_values.specs.Values as values
use Rattle.xpath_meaning.specs.declared.function.Function.{Function}
use Rattle.xpath_meaning.specs.declared.function.Function.TheVariants.{Last, Position, Count, LocalName, NamespaceUri, Name, AsString, Concat, StartsWith}
use Rattle.xpath_meaning.specs.declared.function.Function.TheVariants.{Contains, SubstringBefore, SubstringAfter, Substring, StringLength, NormalizeSpace}
use Rattle.xpath_meaning.specs.declared.function.Function.TheVariants.{Translate, AsBoolean, Not, IsTrue, IsFalse, Lang, AsNumber, Sum, Floor, Ceiling, Round}
use Rattle.xpath_meaning.specs.Context.{Context, at, stepped, start, nodes_in}
use Rattle.xpath_meaning.specs.Functions.{function_named, called, argument, substring_of}
use Rattle.xpath_meaning.specs.Meaning.{mean, listed, filtered, walked, kept, step_from, answered, either, both}
use Rattle.xpath_laws.specs.Faults.{kind, answers, answers_call, kind_of, is_number, compares_plainly, converts_nothing, faultless, all_faultless}
use Rattle.xpath_laws.specs.Faults.{faultless_steps, IsFine}

-- Answers.

pub record Before {X Y : Type 0} (m : Answer X) (g : X → Answer Y) (y : Y) : Type 0 where
  pub value : X
  pub is : m ≡ Ok value
  pub gives : g value ≡ Ok y

pub then_before : {X Y : Type 0} (m : Answer X) (g : X → Answer Y) (y : Y) → and_then m g ≡ Ok y → Before m g y
then_before (Ok x) g y h = record { value = x; is = refl; gives = h }
then_before (Err e) g y h = absurd cc

with_kind : {X : Type 0} (m : Answer X) (g : X → Meant) (k : ValueType) (v : Meant) → ((x : X) → kind (g x) ≡ k) → with m g ≡ Ok v → kind v ≡ k
with_kind (Ok x) g k v h e = let same : g x ≡ v = cc in ap kind (sym same) ∙ h x
with_kind (Err d) g k v h e = absurd cc

ok_kind : (u v : Meant) (k : ValueType) → kind u ≡ k → ◌≡◌ {A = Answer Meant} (Ok u) (Ok v) → kind v ≡ k
ok_kind u v k h e = let same : u ≡ v = cc in ap kind (sym same) ∙ h

then_fine : {X Y : Type 0} (m : Answer X) (g : X → Answer Y) → IsFine m → ((x : X) → m ≡ Ok x → IsFine (g x)) → IsFine (and_then m g)
then_fine m g f h = subst (λ n. IsFine (and_then n g)) (sym f.is) (h f.value f.is)

with_fine : {X Y : Type 0} (m : Answer X) (g : X → Y) → IsFine m → IsFine (with m g)
with_fine m g f = subst (λ n. IsFine (with n g)) (sym f.is) (record { value = g f.value; is = refl })

fine : {X : Type 0} (x : X) → IsFine (Ok x)
fine x = record { value = x; is = refl }

left_of : (a b : Bool) → (a && b) ≡ true → a ≡ true
left_of true b h = refl
left_of false b h = absurd cc

right_of : (a b : Bool) → (a && b) ≡ true → b ≡ true
right_of true b h = h
right_of false b h = absurd cc

-- Types.

called_kind : (g : Function) (c : Context) (vs : List Meant) (v : Meant) → called g c vs ≡ Ok v → kind v ≡ answers g
called_kind Last c vs v h = ok_kind _ v _ refl h
called_kind Position c vs v h = ok_kind _ v _ refl h
called_kind Count c vs v h = ok_kind _ v _ refl h
called_kind LocalName c vs v h = ok_kind _ v _ refl h
called_kind NamespaceUri c vs v h = ok_kind _ v _ refl h
called_kind Name c vs v h = ok_kind _ v _ refl h
called_kind AsString c vs v h = ok_kind _ v _ refl h
called_kind Concat c vs v h = ok_kind _ v _ refl h
called_kind StartsWith c vs v h = ok_kind _ v _ refl h
called_kind Contains c vs v h = ok_kind _ v _ refl h
called_kind SubstringBefore c vs v h = ok_kind _ v _ refl h
called_kind SubstringAfter c vs v h = ok_kind _ v _ refl h
called_kind Substring c vs v h =
    let t = values.string_of (argument 0 vs) in
    let rest = slice_get vs 2 in
    let b = then_before (number_of (argument 1 vs)) (λ x. with (substring_of t x rest) text) v h in
    with_kind (substring_of t b.value rest) text type.Text v (λ x. refl) b.gives
called_kind StringLength c vs v h = with_kind _ number type.Number v (λ x. refl) h
called_kind NormalizeSpace c vs v h = ok_kind _ v _ refl h
called_kind Translate c vs v h = ok_kind _ v _ refl h
called_kind AsBoolean c vs v h = ok_kind _ v _ refl h
called_kind Not c vs v h = ok_kind _ v _ refl h
called_kind IsTrue c vs v h = ok_kind _ v _ refl h
called_kind IsFalse c vs v h = ok_kind _ v _ refl h
called_kind Lang c vs v h = ok_kind _ v _ refl h
called_kind AsNumber c vs v h = with_kind _ number type.Number v (λ x. refl) h
called_kind Sum c vs v h = with_kind _ number type.Number v (λ x. refl) h
called_kind Floor c vs v h = with_kind _ _ type.Number v (λ x. refl) h
called_kind Ceiling c vs v h = with_kind _ _ type.Number v (λ x. refl) h
called_kind Round c vs v h = with_kind _ _ type.Number v (λ x. refl) h

answered_kind : (g : Option Function) (c : Context) (vs : List Meant) (v : Meant) → answered g c vs ≡ Ok v → kind v ≡ answers_call g
answered_kind None c vs v h = ok_kind _ v _ refl h
answered_kind (Some g) c vs v h = called_kind g c vs v h

either_kind : (b : Bool) (m : Answer Meant) (v : Meant) → either b m ≡ Ok v → kind v ≡ type.Truth
either_kind true m v h = ok_kind _ v _ refl h
either_kind false m v h = with_kind m _ type.Truth v (λ x. refl) h

both_kind : (b : Bool) (m : Answer Meant) (v : Meant) → both b m ≡ Ok v → kind v ≡ type.Truth
both_kind true m v h = with_kind m _ type.Truth v (λ x. refl) h
both_kind false m v h = ok_kind _ v _ refl h

-- a value is of its expression's type
pub has_kind : (e : Tree) (c : Context) (v : Meant) → mean e c ≡ Ok v → kind v ≡ kind_of e
has_kind (or a b) c v h = let x = then_before (mean a c) _ v h in either_kind (truth_of x.value) (mean b c) v x.gives
has_kind (and a b) c v h = let x = then_before (mean a c) _ v h in both_kind (truth_of x.value) (mean b c) v x.gives
has_kind (compare how a b) c v h = let x = then_before (mean a c) _ v h in let y =
    then_before (mean b c) _ v x.gives in with_kind _ truth type.Truth v (λ z. refl) y.gives
has_kind (arithmetic how a b) c v h =
    let x = then_before (mean a c) _ v h in
    let y = then_before (mean b c) _ v x.gives in
    let p = then_before (number_of x.value) _ v y.gives in
    let q = then_before (number_of y.value) _ v p.gives in with_kind _ number type.Number v (λ z. refl) q.gives
has_kind (negate a) c v h = let x = then_before (mean a c) _ v h in with_kind _ _ type.Number v (λ z. refl) x.gives
has_kind (union a b) c v h = let x = then_before (mean a c) _ v h in with_kind _ _ type.Nodes v (λ z. refl) x.gives
has_kind (path absolute w) c v h = with_kind _ nodes type.Nodes v (λ z. refl) h
has_kind (from e w) c v h = let x = then_before (mean e c) _ v h in with_kind _ nodes type.Nodes v (λ z. refl) x.gives
has_kind (filter e ps) c v h = let x = then_before (mean e c) _ v h in with_kind _ nodes type.Nodes v (λ z. refl) x.gives
has_kind (literal t) c v h = ok_kind _ v _ refl h
has_kind (Tree.number t) c v h = with_kind _ number type.Number v (λ z. refl) h
has_kind (variable n) c v h = ok_kind _ v _ refl h
has_kind (call name es) c v h = let x = then_before (listed es c) _ v h in answered_kind (function_named name) c x.value v x.gives

-- Comparisons.

number_fine : (v : Meant) → is_number (kind v) ≡ true → IsFine (number_of v)
number_fine (nodes es) h = absurd cc
number_fine (truth b) h = absurd cc
number_fine (number x) h = fine x
number_fine (text t) h = absurd cc

fine_if : {X : Type 0} (b : Bool) (m n : Answer X) → (b ≡ true → IsFine m) → (b ≡ false → IsFine n) → IsFine (cond b m n)
fine_if true m n f g = f refl
fine_if false m n f g = g refl

compare_fine : (how : Comparison) (v w : Meant) → compares_plainly (is_equality how) (kind v) (kind w) ≡ true → IsFine (values.compare how v w)
compare_fine how v w h =
    fine_if (is_equality how) (by_kind how (beside w v) (beside v w)) (by_numbers how (beside w v) (beside v w))
    (λ e. equal v w (subst (λ b. compares_plainly b (kind v) (kind w) ≡ true) e h))
    (λ e. other v w (subst (λ b. compares_plainly b (kind v) (kind w) ≡ true) e h))
  where
    equal : (v w : Meant) → compares_plainly true (kind v) (kind w) ≡ true → IsFine (by_kind how (beside w v) (beside v w))
    equal (nodes es) (nodes gs) k = fine _
    equal (nodes es) (truth b) k = fine _
    equal (nodes es) (number x) k = absurd cc
    equal (nodes es) (text t) k = fine _
    equal (truth b) (nodes es) k = fine _
    equal (truth b) (truth d) k = fine _
    equal (truth b) (number x) k = fine _
    equal (truth b) (text t) k = fine _
    equal (number x) (nodes es) k = absurd cc
    equal (number x) (truth b) k = fine _
    equal (number x) (number y) k = fine _
    equal (number x) (text t) k = absurd cc
    equal (text t) (nodes es) k = fine _
    equal (text t) (truth b) k = fine _
    equal (text t) (number x) k = absurd cc
    equal (text t) (text s) k = fine _

    other : (v w : Meant) → compares_plainly false (kind v) (kind w) ≡ true → IsFine (by_numbers how (beside w v) (beside v w))
    other (number x) (number y) k = fine _
    other (number x) (nodes es) k = absurd cc
    other (number x) (truth b) k = absurd cc
    other (number x) (text t) k = absurd cc
    other (nodes es) w k = absurd cc
    other (truth b) w k = absurd cc
    other (text t) w k = absurd cc

call_fine : (g : Option Function) (c : Context) (vs : List Meant) → converts_nothing g ≡ true → IsFine (answered g c vs)
call_fine None c vs h = fine _
call_fine (Some Substring) c vs h = absurd cc
call_fine (Some StringLength) c vs h = absurd cc
call_fine (Some AsNumber) c vs h = absurd cc
call_fine (Some Sum) c vs h = absurd cc
call_fine (Some Floor) c vs h = absurd cc
call_fine (Some Ceiling) c vs h = absurd cc
call_fine (Some Round) c vs h = absurd cc
call_fine (Some _) c vs h = fine _

-- Lists of nodes.

kept_fine : (f : Context → Answer Meant) (c : Context) (n p : ℕ) (es : List Entry) → ((d : Context) → IsFine (f d)) → IsFine (kept f c n p es)
kept_fine f c n p [] h = fine []
kept_fine f c n p (e ∷ es) h = then_fine (f (at c e p n)) _ (h (at c e p n)) (λ v q. with_fine (kept f c n (suc p) es) _ (kept_fine f c n (suc p) es h))

gathered_fine : (f : Entry → Answer (List Entry)) (es : List Entry) → ((e : Entry) → IsFine (f e)) → IsFine (gathered f es)
gathered_fine f [] h = fine []
gathered_fine f (e ∷ es) h = then_fine (f e) _ (h e) (λ ys q. with_fine (gathered f es) _ (gathered_fine f es h))

ok_fine : {X : Type 0} (m : Answer X) → is_ok m ≡ true → IsFine m
ok_fine (Ok x) h = fine x
ok_fine (Err e) h = absurd cc

either_fine : (b : Bool) (m : Answer Meant) → IsFine m → IsFine (either b m)
either_fine true m f = fine _
either_fine false m f = with_fine m _ f

both_fine : (b : Bool) (m : Answer Meant) → IsFine m → IsFine (both b m)
both_fine true m f = with_fine m _ f
both_fine false m f = fine _

mutual
  pub mean_fine : (e : Tree) (c : Context) → faultless e ≡ true → IsFine (mean e c)
  mean_fine (or a b) c h = then_fine (mean a c) _ (mean_fine a c (left_of _ _ h))
      (λ v q. either_fine (truth_of v) (mean b c) (mean_fine b c (right_of (faultless a) _ h)))
  mean_fine (and a b) c h = then_fine (mean a c) _ (mean_fine a c (left_of _ _ h))
      (λ v q. both_fine (truth_of v) (mean b c) (mean_fine b c (right_of (faultless a) _ h)))
  mean_fine (compare how a b) c h =
      let k = right_of (faultless a) _ h in
      then_fine (mean a c) _ (mean_fine a c (left_of _ _ h))
      (λ v p. then_fine (mean b c) _ (mean_fine b c (left_of _ _ k)) (λ w q. with_fine (values.compare how v w) _
      (compare_fine how v w (ap (λ t. compares_plainly (is_equality how) t (kind w)) (has_kind a c v p)
      ∙ ap (λ t. compares_plainly (is_equality how) (kind_of a) t) (has_kind b c w q) ∙ right_of (faultless b) _ k))))
  mean_fine (arithmetic how a b) c h = absurd cc
  mean_fine (negate a) c h = then_fine (mean a c) _ (mean_fine a c (left_of _ _ h))
      (λ v p. with_fine (number_of v) _ (number_fine v (ap is_number (has_kind a c v p) ∙ right_of (faultless a) _ h)))
  mean_fine (union a b) c h = then_fine (mean a c) _ (mean_fine a c (left_of _ _ h))
      (λ v p. with_fine (mean b c) _ (mean_fine b c (right_of (faultless a) _ h)))
  mean_fine (path absolute w) c h = with_fine _ nodes (walked_fine w c (start absolute c) h)
  mean_fine (from e w) c h = then_fine (mean e c) _ (mean_fine e c (left_of _ _ h))
      (λ v p. with_fine _ nodes (walked_fine w c (nodes_in v) (right_of (faultless e) _ h)))
  mean_fine (filter e ps) c h = then_fine (mean e c) _ (mean_fine e c (left_of _ _ h))
      (λ v p. with_fine _ nodes (filtered_fine ps c (nodes_in v) (right_of (faultless e) _ h)))
  mean_fine (literal t) c h = fine _
  mean_fine (Tree.number t) c h = with_fine (number_held (number_value t)) number (ok_fine (number_held (number_value t)) h)
  mean_fine (variable n) c h = fine _
  mean_fine (call name es) c h = then_fine (listed es c) _ (listed_fine es c (right_of (converts_nothing (function_named name)) _ h))
      (λ vs p. call_fine (function_named name) c vs (left_of _ _ h))

  pub listed_fine : (es : Trees) (c : Context) → all_faultless es ≡ true → IsFine (listed es c)
  listed_fine none c h = fine []
  listed_fine (more e es) c h = then_fine (mean e c) _ (mean_fine e c (left_of _ _ h))
      (λ v p. with_fine (listed es c) _ (listed_fine es c (right_of (faultless e) _ h)))

  pub filtered_fine : (ps : Trees) (c : Context) (es : List Entry) → all_faultless ps ≡ true → IsFine (filtered ps c es)
  filtered_fine none c es h = fine es
  filtered_fine (more e ps) c es h = then_fine (kept (mean e) c (length es) 1 es) _ (kept_fine (mean e) c (length es) 1 es (λ d. mean_fine e d (left_of _ _ h)))
      (λ zs p. filtered_fine ps c zs (right_of (faultless e) _ h))

  pub walked_fine : (w : Walk) (c : Context) (es : List Entry) → faultless_steps w ≡ true → IsFine (walked w c es)
  walked_fine stop c es h = fine es
  walked_fine (go axis test ps w) c es h =
      then_fine (step_from (filtered ps) axis test c es) _
      (with_fine (gathered (λ e. filtered ps c (stepped axis test c e)) es) _
      (gathered_fine _ es (λ e. filtered_fine ps c (stepped axis test c e) (left_of _ _ h))))
      (λ zs p. walked_fine w c zs (right_of (all_faultless ps) _ h))
