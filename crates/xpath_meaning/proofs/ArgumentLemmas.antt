-- Values of a list, one by one.
use Rattle.std.proofs.Common.{◌≡◌, ℕ, zero, suc, List, [], ◌∷◌, ◌++◌, map, refl, sym, ◌∙◌, ap, subst, Some, None, Ok, Err}
use Rattle.std.specs.Prelude.{IfOk}
use Rattle.xpath_values.specs.declared.Number.{Number}
use Rattle.xpath_values.specs.declared.Number.TheVariants.{Nan}
use Rattle.xpath_values.specs.Answers.{Answer}
use Rattle.std.specs.Option.{unwrap_or}
use Rattle.std.specs.List.{AllByRecursion, slice_get}
use Rattle.xml_model.specs.Tree.{Entry}
use Rattle.xpath_values.specs.declared.Value.{Value}
use Rattle.xpath_values.specs.Values.{Meant, text, held_as, IsHeld, AreAmong, string_of, number_of}
use Rattle.xpath_meaning.specs.Context.{Context}
use Rattle.xpath_meaning.specs.Functions.{argument}
use Rattle.xpath_meaning.specs.Scope.{ScopeOf, IsScope, Fits, IsOf, AreValuesOf, AreHeld}

held_append : (xs ys : List Meant) → map held_as (xs ++ ys) ≡ map held_as xs ++ map held_as ys
held_append [] ys = refl
held_append (x ∷ xs) ys = ap (λ zs. held_as x ∷ zs) (held_append xs ys)

all_append : {X : Type 0} (P : X → Type 0) (xs ys : List X) → AllByRecursion P xs → AllByRecursion P ys → AllByRecursion P (xs ++ ys)
all_append P [] ys a b = b
all_append P (x ∷ xs) ys a b = (a.0, all_append P xs ys a.1 b)

pub one_more : (document : List Entry) (hs : List Value) (h : Value) (vs : List Meant) (v : Meant) → AreHeld document hs vs → IsHeld document h v → AreHeld document (hs ++ h ∷ []) (vs ++ v ∷ [])
one_more document hs h vs v a b = record {
  same = ap (λ n. n ++ h ∷ []) a.same ∙ ap (λ m. map held_as vs ++ m ∷ []) b.same ∙ sym (held_append vs (v ∷ []));
  among = all_append (AreAmong document) vs (v ∷ []) a.among (b.among, tt);
}

-- values with one more are of the document
pub values_more : (s : ScopeOf) (done longer : List Value) (h : Value) → AreValuesOf s done → IsOf s h → longer ≡ done ++ h ∷ [] → AreValuesOf s longer
values_more s done longer h a b e = subst (AreValuesOf s) (sym e) (record {
  each = λ c hc. let x = a.each c hc in let y = b.each c hc in record { values = x.values ++ y.value ∷ []; held = one_more c.document done h x.values y.value x.held y.held };
  fit = all_append Fits done (h ∷ []) a.fit (b.fits, tt);
})

pub no_values_are : (s : ScopeOf) → AreValuesOf s []
no_values_are s = record { each = λ c hc. record { values = []; held = record { same = refl; among = tt } }; fit = tt }

-- the value with an index
pub record ArgumentIs (document : List Entry) (h : Value) (vs : List Meant) (i : ℕ) : Type 0 where
  pub value : Meant
  pub is : slice_get vs i ≡ Some value
  pub held : IsHeld document h value

argument_at : (document : List Entry) (vs : List Meant) (i : ℕ) (h : Value) → AllByRecursion (AreAmong document) vs → slice_get (map held_as vs) i ≡ Some h → ArgumentIs document h vs i
argument_at document [] i h a e = absurd (cc)
argument_at document (v ∷ vs) zero h a e = let s : held_as v ≡ h = cc in record { value = v; is = refl; held = record { same = sym s; among = a.0 } }
argument_at document (v ∷ vs) (suc i) h a e = let r = argument_at document vs i h a.1 e in record { value = r.value; is = r.is; held = r.held }

pub argument_is : (document : List Entry) (hs : List Value) (vs : List Meant) (i : ℕ) (h : Value) → AreHeld document hs vs → slice_get hs i ≡ Some h → ArgumentIs document h vs i
argument_is document hs vs i h a e = argument_at document vs i h a.among (subst (λ xs. slice_get xs i ≡ Some h) a.same e)

none_at : (vs : List Meant) (i : ℕ) → slice_get (map held_as vs) i ≡ None → slice_get vs i ≡ None
none_at [] i e = refl
none_at (v ∷ vs) zero e = absurd (cc)
none_at (v ∷ vs) (suc i) e = none_at vs i e

pub argument_none : (document : List Entry) (hs : List Value) (vs : List Meant) (i : ℕ) → AreHeld document hs vs → slice_get hs i ≡ None → slice_get vs i ≡ None
argument_none document hs vs i a e = none_at vs i (subst (λ xs. slice_get xs i ≡ None) a.same e)

fits_at : (hs : List Value) (i : ℕ) (h : Value) → AllByRecursion Fits hs → slice_get hs i ≡ Some h → Fits h
fits_at [] i h a e = absurd (cc)
fits_at (x ∷ xs) zero h a e = let s : x ≡ h = cc in subst Fits s a.0
fits_at (x ∷ xs) (suc i) h a e = fits_at xs i h a.1 e

pub argument_of : (s : ScopeOf) (hs : List Value) (i : ℕ) (h : Value) → AreValuesOf s hs → slice_get hs i ≡ Some h → IsOf s h
argument_of s hs i h a e = record {
  each = λ c hc. let x = a.each c hc in let r = argument_is c.document hs x.values i h x.held e in record { value = r.value; held = r.held };
  fits = fits_at hs i h a.fit e;
}

-- what holds of the meaning of the value with an index holds of the argument
pub at_argument : (document : List Entry) (hs : List Value) (vs : List Meant) (i : ℕ) (h : Value) (P : Meant → Type 0) → AreHeld document hs vs → slice_get hs i ≡ Some h →
    ((v : Meant) → IsHeld document h v → P v) → P (argument i vs)
at_argument document hs vs i h P a e k =
    let r = argument_is document hs vs i h a e in
    subst (λ o. P (unwrap_or o (text []))) (sym r.is) (k r.value r.held)

pub at_no_argument : (document : List Entry) (hs : List Value) (vs : List Meant) (i : ℕ) (P : Meant → Type 0) → AreHeld document hs vs → slice_get hs i ≡ None → P (text []) → P (argument i vs)
at_no_argument document hs vs i P a e k = subst (λ o. P (unwrap_or o (text []))) (sym (argument_none document hs vs i a e)) k

-- an argument as a string
pub text_found : (s : ScopeOf) (hs : List Value) (i : ℕ) (h : Value) (r : Answer (List ℕ)) → slice_get hs i ≡ Some h →
    IfOk r (λ t. (c : Context) → IsScope s c → (v : Meant) → IsHeld c.document h v → t ≡ string_of v) →
    IfOk r (λ t. (c : Context) → IsScope s c → (vs : List Meant) → AreHeld c.document hs vs → t ≡ string_of (argument i vs))
text_found s hs i h (Ok t) e k = λ c hc vs a. at_argument c.document hs vs i h (λ v. t ≡ string_of v) a e (k c hc)
text_found s hs i h (Err x) e k = tt

pub text_not_found : (s : ScopeOf) (hs : List Value) (i : ℕ) (r : Answer (List ℕ)) → slice_get hs i ≡ None → IfOk r (λ t. t ≡ []) →
    IfOk r (λ t. (c : Context) → IsScope s c → (vs : List Meant) → AreHeld c.document hs vs → t ≡ string_of (argument i vs))
text_not_found s hs i (Ok t) e k = λ c hc vs a. at_no_argument c.document hs vs i (λ v. t ≡ string_of v) a e k
text_not_found s hs i (Err x) e k = tt

-- an argument as a number
pub number_found : (s : ScopeOf) (hs : List Value) (i : ℕ) (h : Value) (r : Answer Number) → slice_get hs i ≡ Some h →
    (c : Context) → IsScope s c → (vs : List Meant) → AreHeld c.document hs vs → ((v : Meant) → IsHeld c.document h v → r ≡ number_of v) → r ≡ number_of (argument i vs)
number_found s hs i h r e c hc vs a k = at_argument c.document hs vs i h (λ v. r ≡ number_of v) a e k

pub number_not_found : (document : List Entry) (hs : List Value) (vs : List Meant) (i : ℕ) → slice_get hs i ≡ None → AreHeld document hs vs → Ok Nan ≡ number_of (argument i vs)
number_not_found document hs vs i e a = at_no_argument document hs vs i (λ v. Ok Nan ≡ number_of v) a e refl
