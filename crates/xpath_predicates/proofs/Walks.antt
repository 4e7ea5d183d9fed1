-- Steps without predicates, and what their nodes are asked.
use Rattle.std.proofs.Common.{◌≡◌, ℕ, Bool, true, false, cond, not, ◌||◌, List, [], ◌∷◌, map, filter, Ok, Err, refl, sym, ◌∙◌, ap, ap₂, subst}
use Rattle.std.specs.Prelude.{is_ok, bytes_eq, Some}
use Rattle.std.specs.Prelude.{IfSome, Option, None}
use Rattle.std.specs.List.{flat_map, list_any}
use Rattle.xml_model.specs.Items.{first_place}
use Rattle.xml_model.specs.Tree.{Entry}
use Rattle.vtd_words.specs.Lists.{Lists}
use Rattle.vtd_location.proofs.NavLaws.{nest_of_table}
use Rattle.xml_model.proofs.Filters.{any_in, any_out, same_test}
use Rattle.xpath_tokens.specs.declared.Comparison.{Comparison}
use Rattle.xpath_tokens.specs.Numbers.{number_value}
use Rattle.xpath_grammar.specs.Tree.{Tree, Walk, stop, go, none, more, path, compare, literal, or, and, call}
use Rattle.xpath_values.specs.declared.Number.{Number}
use Rattle.xpath_values.specs.declared.Value.{Value}
use Rattle.xpath_values.specs.declared.Value.TheVariants as held
use Rattle.xpath_values.specs.declared.ValueFault.TheVariants.{Fraction, Infinite, Range, NoMemory}
use Rattle.xpath_values.specs.Answers.{Answer, and_then, with}
use Rattle.xpath_values.specs.Numbers.{compare_numbers, is_position, number_held, number_of_text}
use Rattle.xpath_values.specs.Values.{Meant, nodes, truth, number, text, IsHeld, by_equality, by_numbers, is_equality, is_some_list, numbers_of_nodes}
use Rattle.xpath_values.specs.Values.{some_pair, string_value, truth_of}
use Rattle.xpath_values.specs.Values as values
use Rattle.xpath_meaning.specs.declared.function.Function.TheVariants.{Not}
use Rattle.xpath_meaning.specs.Context.{Context, in_order, is_in, is_passed, stepped}
use Rattle.xpath_meaning.specs.Functions.{function_named}
use Rattle.xpath_meaning.specs.declared.scope.Place.{Place}
use Rattle.xpath_meaning.specs.Meets.{Meets}
use Rattle.xpath_meaning.specs.Scope.{ScopeOf, IsContext, IsScope, Means}
use Rattle.xpath_meaning.specs.Meaning.{answered, both, either, mean, walked}
use Rattle.xpath_laws.specs.Fused.{Among, IsTree, Passes}
use Rattle.xpath_laws.proofs.AtOnce.{bare_step, in_ordered, stepped_within}
use Rattle.xpath_laws.proofs.Fused.{among_filter, among_flat, found}
use Rattle.xpath_laws.proofs.Trees.{among_contains, contains_among, tree_of_nest}
use Rattle.xpath_predicates.specs.declared.asked.Asked.{Asked}
use Rattle.xpath_predicates.specs.declared.asked.Asked.TheVariants as asked
use Rattle.xpath_predicates.specs.Asks.{any_found, are_bare, is_bad, is_right, Decides, ForEachContext, FromHere, Holds, PassesAt, PassesLike}
use Rattle.xpath_predicates.proofs.Found.{any_append}

-- nodes of a document, put in order
ordered_any : (document xs : List Entry) (q : Entry → Bool) → IsTree document → ((x : Entry) → Among x xs → Among x document) →
    list_any q (in_order document xs) ≡ list_any q xs
unfolding in_order
ordered_any document xs q t w = same_test _ _
    (λ h.
    let o = any_out q (filter (is_in xs) document) h in
    let r = among_filter (is_in xs) document o.entry (contains_among _ o.entry o.there) in
    let z = found xs o.entry r.1 in
    let same = t.one z.node o.entry (w z.node z.there) r.0 z.same in
    any_in q xs o.entry (among_contains xs o.entry (subst (λ y. Among y xs) same z.there)) o.passes)
    (λ h.
    let o = any_out q xs h in
    let m = contains_among xs o.entry o.there in
    any_in q (filter (is_in xs) document) o.entry (among_contains _ o.entry (in_ordered document xs o.entry (w o.entry m) m)) o.passes)

flat_any : (q : Entry → Bool) (f : Entry → List Entry) (es : List Entry) → list_any q (flat_map f es) ≡ list_any (λ e. list_any q (f e)) es
flat_any q f [] = refl
flat_any q f (e ∷ es) = any_append q (f e) (flat_map f es) ∙ ap (λ b. list_any q (f e) || b) (flat_any q f es)

-- what steps without predicates find
pub record Bare (w : Walk) (c : Context) (es : List Entry) : Type 0 where
  pub found : List Entry
  pub is : walked w c es ≡ Ok found
  pub any : (q : Entry → Bool) → list_any q found ≡ list_any (any_found w c q) es

pub bare : (w : Walk) (c : Context) (es : List Entry) → IsTree c.document → are_bare w ≡ true → Bare w c es
bare stop c es t h = record { found = es; is = refl; any = λ q. refl }
bare (go axis test (more p ps) w) c es t h = absurd cc
bare (go axis test none w) c es t h =
    let all = flat_map (stepped axis test c) es in
    let k = bare w c (in_order c.document all) t h in
    record {
      found = k.found;
      is = ap (λ m. and_then m (walked w c)) (bare_step axis test c es) ∙ k.is;
      any = λ q. k.any q ∙ ordered_any c.document all (any_found w c q) t
          (λ x m. let o = among_flat (stepped axis test c) es x m in stepped_within axis test c o.from x o.inside)
          ∙ flat_any (any_found w c q) (stepped axis test c) es;
    }

or_none : (b : Bool) → (b || false) ≡ b
or_none true = refl
or_none false = refl

-- a path from the context node
pub from_here : (w : Walk) (c : Context) (a : Asked) (b : Bool) → IsTree c.document → are_bare w ≡ true → Decides a (λ q. any_found w c q c.node) b →
    FromHere w c a b
from_here w c a b t h d =
    let k = bare w c (c.node ∷ []) t h in
    record {
      found = k.found;
      is = ap (λ m. with m nodes) k.is;
      sound = k.any (is_bad a) ∙ or_none (any_found w c (is_bad a) c.node) ∙ d.sound;
      right = k.any (is_right a) ∙ or_none (any_found w c (is_right a) c.node) ∙ d.right;
    }

some_any : (xs : List Entry) → is_some_list xs ≡ list_any (is_right asked.Any) xs
some_any [] = refl
some_any (x ∷ xs) = refl

pub path_holds : (w : Walk) (c : Context) (b : Bool) → FromHere w c asked.Any b → Holds (mean (path false w) c) b
path_holds w c b k = record { value = nodes k.found; is = k.is; plain = refl; truth = some_any k.found ∙ k.right }

-- Beside a number.

record Numbers (how : Comparison) (x : Number) (xs : List Entry) : Type 0 where
  all : List Number
  is : numbers_of_nodes xs ≡ Ok all
  any : some_pair (compare_numbers how) all (x ∷ []) ≡ list_any (is_right (asked.Number how x)) xs

all_numbers : (how : Comparison) (x : Number) (xs : List Entry) → list_any (is_bad (asked.Number how x)) xs ≡ false → Numbers how x xs
all_numbers how x [] h = record { all = []; is = refl; any = refl }
all_numbers how x (e ∷ es) h = by (λ r. all_numbers how x es r) (number_of_text (string_value e)) refl
  where
    by : (list_any (is_bad (asked.Number how x)) es ≡ false → Numbers how x es) → (m : Answer Number) → number_of_text (string_value e) ≡ m →
        Numbers how x (e ∷ es)
    by rec (Ok y) q =
        let bad : is_bad (asked.Number how x) e ≡ false = ap (λ n. not (is_ok n)) q in
        let k = rec (rest bad) in
        record {
          all = y ∷ k.all;
          is = ap (λ n. and_then n (λ z. with (numbers_of_nodes es) (λ zs. z ∷ zs))) q ∙ ap (λ n. with n (λ zs. y ∷ zs)) k.is;
          any = ap₂ (λ p r. p || r) (or_none (compare_numbers how y x) ∙ sym (right y q)) k.any;
        }
      where
        rest : is_bad (asked.Number how x) e ≡ false → list_any (is_bad (asked.Number how x)) es ≡ false
        rest b = sym (ap (λ p. p || list_any (is_bad (asked.Number how x)) es) b) ∙ h

        right : (z : Number) → number_of_text (string_value e) ≡ Ok z → is_right (asked.Number how x) e ≡ compare_numbers how z x
        right z r = rw r refl
    by rec (Err d) q = absurd (no (ap (λ n. not (is_ok n)) q))
      where
        no : is_bad (asked.Number how x) e ≡ true → ⊥
        no b = let r : true ≡ false = sym (ap (λ p. p || list_any (is_bad (asked.Number how x)) es) b) ∙ h in cc

cond_same : {X : Type 0} (b : Bool) (x : X) → cond b x x ≡ x
cond_same true x = refl
cond_same false x = refl

beside_number : (how : Comparison) (x : Number) (xs : List Entry) (b : Bool) → list_any (is_bad (asked.Number how x)) xs ≡ false →
    list_any (is_right (asked.Number how x)) xs ≡ b →
    values.compare how (nodes xs) (number x) ≡ Ok b
beside_number how x xs b h r =
    let k = all_numbers how x xs h in
    cond_same (is_equality how) (by_numbers how (nodes xs) (number x))
    ∙ ap (λ n. and_then n (λ ys. Ok (some_pair (compare_numbers how) ys (x ∷ [])))) k.is ∙ ap Ok (k.any ∙ r)

pub number_holds : (how : Comparison) (w : Walk) (t : List ℕ) (x : Number) (c : Context) (b : Bool) → number_held (number_value t) ≡ Ok x →
    FromHere w c (asked.Number how x) b →
    Holds (mean (compare how (path false w) (Tree.number t)) c) b
number_holds how w t x c b q k = record {
  value = truth b;
  is = ap (λ m. and_then m (λ v. and_then (mean (Tree.number t) c) (λ y. with (values.compare how v y) truth))) k.is
      ∙ ap (λ m. and_then (with m number) (λ y. with (values.compare how (nodes k.found) y) truth)) q
      ∙ ap (λ m. with m truth) (beside_number how x k.found b k.sound k.right);
  plain = refl;
  truth = refl;
}

-- Beside a text.

beside_text : (how : Comparison) (t : List ℕ) (xs : List Entry) (q : Entry → Bool) (b : Bool) → is_equality how ≡ true →
    ((e : Entry) → q e ≡ by_equality how (bytes_eq (string_value e) t)) → list_any q xs ≡ b → values.compare how (nodes xs) (text t) ≡ Ok b
beside_text how t xs q b h same r =
    ap (λ p. cond p (Ok (some_pair (λ s u. by_equality how (bytes_eq s u)) (map string_value xs) (t ∷ []))) (by_numbers how (nodes xs) (text t))) h
    ∙ ap Ok (all xs ∙ r)
  where
    all : (es : List Entry) → some_pair (λ s u. by_equality how (bytes_eq s u)) (map string_value es) (t ∷ []) ≡ list_any q es
    all [] = refl
    all (e ∷ es) = ap₂ (λ p o. p || o) (or_none _ ∙ sym (same e)) (all es)

pub text_holds : (how : Comparison) (w : Walk) (t : List ℕ) (a : Asked) (c : Context) (b : Bool) → is_equality how ≡ true →
    ((e : Entry) → is_right a e ≡ by_equality how (bytes_eq (string_value e) t)) → FromHere w c a b → Holds (mean (compare how (path false w) (literal t)) c) b
text_holds how w t a c b h same k = record {
  value = truth b;
  is = ap (λ m. and_then m (λ v. with (values.compare how v (text t)) truth)) k.is
      ∙ ap (λ m. with m truth) (beside_text how t k.found (is_right a) b h same k.right);
  plain = refl;
  truth = refl;
}

-- Operators.

pub or_holds : (e d : Tree) (c : Context) (b : Bool) → Holds (mean e c) false → Holds (mean d c) b → Holds (mean (or e d) c) b
or_holds e d c b k l = record {
  value = truth (truth_of l.value);
  is = ap (λ m. and_then m (λ v. either (truth_of v) (mean d c))) k.is ∙ ap (λ p. either p (mean d c)) k.truth ∙ ap (λ m. with m (λ w. truth (truth_of w))) l.is;
  plain = refl;
  truth = l.truth;
}

pub or_ends : (e d : Tree) (c : Context) → Holds (mean e c) true → Holds (mean (or e d) c) true
or_ends e d c k = record {
  value = truth true;
  is = ap (λ m. and_then m (λ v. either (truth_of v) (mean d c))) k.is ∙ ap (λ p. either p (mean d c)) k.truth;
  plain = refl;
  truth = refl;
}

pub and_holds : (e d : Tree) (c : Context) (b : Bool) → Holds (mean e c) true → Holds (mean d c) b → Holds (mean (and e d) c) b
and_holds e d c b k l = record {
  value = truth (truth_of l.value);
  is = ap (λ m. and_then m (λ v. both (truth_of v) (mean d c))) k.is ∙ ap (λ p. both p (mean d c)) k.truth ∙ ap (λ m. with m (λ w. truth (truth_of w))) l.is;
  plain = refl;
  truth = l.truth;
}

pub and_ends : (e d : Tree) (c : Context) → Holds (mean e c) false → Holds (mean (and e d) c) false
and_ends e d c k = record {
  value = truth false;
  is = ap (λ m. and_then m (λ v. both (truth_of v) (mean d c))) k.is ∙ ap (λ p. both p (mean d c)) k.truth;
  plain = refl;
  truth = refl;
}

pub not_holds : (name : List ℕ) (e : Tree) (c : Context) (b : Bool) → function_named name ≡ Some Not → Holds (mean e c) b →
    Holds (mean (call name (more e none)) c) (not b)
not_holds name e c b f k = record {
  value = truth (not (truth_of k.value));
  is = ap (λ m. and_then (and_then m (λ v. Ok (v ∷ []))) (answered (function_named name) c)) k.is ∙ ap (λ g. answered g c (k.value ∷ [])) f;
  plain = refl;
  truth = ap not k.truth;
}

-- Positions.

pub numbers_hold : (how : Comparison) (e d : Tree) (x y : Number) (c : Context) → mean e c ≡ Ok (number x) → mean d c ≡ Ok (number y) →
    Holds (mean (compare how e d) c) (compare_numbers how x y)
numbers_hold how e d x y c k l = record {
  value = truth (compare_numbers how x y);
  is = ap (λ m. and_then m (λ v. and_then (mean d c) (λ w. with (values.compare how v w) truth))) k
      ∙ ap (λ m. and_then m (λ w. with (values.compare how (number x) w) truth)) l
      ∙ ap (λ m. with m truth) (cond_same (is_equality how) (by_numbers how (number x) (number y)))
      ∙ ap (λ p. Ok (truth p)) (or_none _ ∙ or_none _);
  plain = refl;
  truth = refl;
}

plainly : (v : Meant) (n : ℕ) → values.is_number v ≡ false → is_passed v n ≡ truth_of v
plainly (nodes es) n h = refl
plainly (truth b) n h = refl
plainly (number x) n h = absurd cc
plainly (text t) n h = refl

pub holds_passes : (m : Answer Meant) (n : ℕ) (b : Bool) → Holds m b → Passes m n b
holds_passes m n b k = record { value = k.value; is = k.is; passed = plainly k.value n k.plain ∙ k.truth }

-- Of a scope.

tree_of_scope : (s : ScopeOf) (c : Context) → IsScope s c → IsTree c.document
tree_of_scope s c h = subst IsTree (sym h.document) (tree_of_nest h.nest (first_place s.bytes) h.shown.accepted.document.nests)

pub if_from : (s : ScopeOf) (p : Place) (bytes : List ℕ) (lists : Lists) (bindings : List (List ℕ × List ℕ)) (w : Walk) (a : Asked) (r : Option Bool) →
    bytes ≡ s.bytes → lists ≡ s.lists →
    bindings ≡ s.bindings → are_bare w ≡ true → IfSome r (λ b. ForEachContext bytes lists bindings p.node (λ c e. Decides a (λ q. any_found w c q e) b)) →
    IfSome r (λ b. (c : Context) → IsContext s p c → FromHere w c a b)
if_from s p bytes lists bindings w a None e1 e2 e3 h f = tt
if_from s p bytes lists bindings w a (Some b) e1 e2 e3 h f = λ c k.
    let Q : List ℕ → Lists → List (List ℕ × List ℕ) → Type 0 = λ x y z. ForEachContext x y z p.node (λ d e. Decides a (λ q. any_found w d q e) b) in
    let g : Q s.bytes s.lists s.bindings = subst (λ x. Q x s.lists s.bindings) e1 (subst (λ y. Q bytes y s.bindings) e2 (subst (λ z. Q bytes lists z) e3 f)) in
    from_here w c a b (tree_of_scope s c k.scope) h
    (g k.scope.nest (nest_of_table s.bytes s.lists k.scope.nest k.scope.shown) c k.scope.document k.scope.bindings c.node k.stands)

-- a value passes as it is
pub as_it_is : (s : ScopeOf) (p : Place) (r : Answer Value) (f : Context → Answer Meant) → Means s p r f → PassesAt s p r f
as_it_is s p r f m = record { yields = λ c k. this c r (m.yields c k) }
  where
    this : (c : Context) (r : Answer Value) → Meets (IsHeld c.document) r (f c) → Meets (PassesLike p.position) r (f c)
    this c (Ok x) y = record { value = y.value; meant_is = y.meant_is; held = record { shown = y.value; held = y.held.same; alike = refl } }
    this c (Err Fraction) y = y
    this c (Err Infinite) y = y
    this c (Err Range) y = y
    this c (Err NoMemory) y = tt

-- it is told whether it passes
pub as_told : (s : ScopeOf) (p : Place) (b : Bool) (f : Context → Answer Meant) → ((c : Context) → IsContext s p c → Passes (f c) p.position b) →
    PassesAt s p (Ok (held.Truth b)) f
as_told s p b f h = record {
  yields = λ c k. let y = h c k in record { value = y.value; meant_is = y.is; held = record { shown = truth b; held = refl; alike = sym y.passed } };
}

-- a path beside a number that is written
pub if_number : (s : ScopeOf) (p : Place) (how : Comparison) (w : Walk) (absolute : Bool) (whole : Tree) (t : List ℕ) (x : Number) (r : Option Bool) →
    whole ≡ Tree.number t → number_held (number_value t) ≡ Ok x →
    IfSome r (λ b. absolute ≡ false) → IfSome r (λ b. (c : Context) → IsContext s p c → FromHere w c (asked.Number how x) b) →
    IfSome r (λ b. (c : Context) → IsContext s p c → Holds (mean (compare how (path absolute w) whole) c) b)
if_number s p how w absolute whole t x None e q h f = tt
if_number s p how w absolute whole t x (Some b) e q h f = λ c k.
    subst (λ u. Holds (mean (compare how (path absolute w) u) c) b) (sym e)
    (subst (λ u. Holds (mean (compare how (path u w) (Tree.number t)) c) b) (sym h) (number_holds how w t x c b q (f c k)))

-- a path beside a text that is written
pub if_text : (s : ScopeOf) (p : Place) (how : Comparison) (w : Walk) (absolute : Bool) (whole : Tree) (t : List ℕ) (a : Asked) (r : Option Bool) →
    whole ≡ literal t → is_equality how ≡ true →
    ((e : Entry) → is_right a e ≡ by_equality how (bytes_eq (string_value e) t)) →
    IfSome r (λ b. absolute ≡ false) → IfSome r (λ b. (c : Context) → IsContext s p c → FromHere w c a b) →
    IfSome r (λ b. (c : Context) → IsContext s p c → Holds (mean (compare how (path absolute w) whole) c) b)
if_text s p how w absolute whole t a None e q same h f = tt
if_text s p how w absolute whole t a (Some b) e q same h f = λ c k.
    subst (λ u. Holds (mean (compare how (path absolute w) u) c) b) (sym e)
    (subst (λ u. Holds (mean (compare how (path u w) (literal t)) c) b) (sym h) (text_holds how w t a c b q same (f c k)))

-- whether a path finds a node
pub if_path : (s : ScopeOf) (p : Place) (w : Walk) (absolute : Bool) (whole : Tree) (r : Option Bool) → whole ≡ path absolute w →
    IfSome r (λ b. absolute ≡ false) → IfSome r (λ b. (c : Context) → IsContext s p c → FromHere w c asked.Any b) →
    IfSome r (λ b. (c : Context) → IsContext s p c → Holds (mean whole c) b)
if_path s p w absolute whole None e h f = tt
if_path s p w absolute whole (Some b) e h f = λ c k.
    subst (λ u. Holds (mean u c) b) (sym e) (subst (λ u. Holds (mean (path u w) c) b) (sym h) (path_holds w c b (f c k)))

-- predicates
pub if_holds : (s : ScopeOf) (p : Place) (t : Tree) (r : Option Bool) → IfSome r (λ b. (c : Context) → IsContext s p c → Holds (mean t c) b) →
    IfSome r (λ b. (c : Context) → IsContext s p c → Passes (mean t c) p.position b)
if_holds s p t None f = tt
if_holds s p t (Some b) f = λ c k. holds_passes (mean t c) p.position b (f c k)

pub number_passes : (t : Tree) (c : Context) (x : Number) (n : ℕ) (b : Bool) → mean t c ≡ Ok (number x) → b ≡ is_position x n → Passes (mean t c) n b
number_passes t c x n b h e = record { value = number x; is = h; passed = sym e }
