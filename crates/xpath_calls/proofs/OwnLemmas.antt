-- The first argument, or the context node.
use Rattle.std.proofs.Common.{◌≡◌, List, [], ◌∷◌, Some, None, sym, ◌∙◌, ap, subst}
use Rattle.std.specs.Option.{unwrap_or}
use Rattle.std.specs.List.{slice_get}
use Rattle.xpath_values.specs.declared.Value.{Value}
use Rattle.xpath_values.specs.Values.{Meant, nodes, text, IsHeld}
use Rattle.xpath_meaning.specs.Context.{Context}
use Rattle.xpath_meaning.specs.Functions.{argument, own}
use Rattle.xpath_meaning.specs.Scope.{AreHeld}
use Rattle.xpath_meaning.proofs.ArgumentLemmas.{ArgumentIs, argument_is, argument_none}

pub own_is_first : (c : Context) (hs : List Value) (vs : List Meant) (h : Value) → slice_get hs 0 ≡ Some h → AreHeld c.document hs vs → argument 0 vs ≡ own c vs
own_is_first c hs vs h e a =
    let r : ArgumentIs c.document h vs 0 = argument_is c.document hs vs 0 h a e in
    ap (λ o. unwrap_or o (text [])) r.is ∙ sym (ap (λ o. unwrap_or o (nodes (c.node ∷ []))) r.is)

pub at_own : (c : Context) (hs : List Value) (vs : List Meant) (h : Value) (P : Meant → Type 0) → slice_get hs 0 ≡ Some h → AreHeld c.document hs vs →
    ((v : Meant) → IsHeld c.document h v → P v) → P (own c vs)
at_own c hs vs h P e a k =
    let r : ArgumentIs c.document h vs 0 = argument_is c.document hs vs 0 h a e in
    subst (λ o. P (unwrap_or o (nodes (c.node ∷ [])))) (sym r.is) (k r.value r.held)

pub at_context : (c : Context) (hs : List Value) (vs : List Meant) (P : Meant → Type 0) → slice_get hs 0 ≡ None → AreHeld c.document hs vs →
    P (nodes (c.node ∷ [])) → P (own c vs)
at_context c hs vs P e a k = subst (λ o. P (unwrap_or o (nodes (c.node ∷ [])))) (sym (argument_none c.document hs vs 0 a e)) k
