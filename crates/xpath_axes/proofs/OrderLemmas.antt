-- Nodes of one document in document order, without doubles.
use Rattle.std.proofs.Common.{◌≡◌, ℕ, ◌+◌, ◌<◌, ◌≤◌, Bool, true, false, cond, ◌==◌, eqb, List, [], ◌∷◌, length, map, get_or, refl, ap, sym, ◌∙◌, subst}
use Rattle.std.proofs.Common.{arith}
use Rattle.std.specs.List.{Any, Contains, dedup, dedup_from}
use Rattle.std.specs.List.Sorted.{IsNonDecreasingBy, IsSorted, IsStrictlyIncreasing}
use Rattle.std.specs.Ordering.{is_lt, nat_cmp}
use Rattle.std.specs.declared.cmp.Ordering.TheVariants.{Less, Equal, Greater}
use Rattle.std.proofs.lemmas.Bool.{le-ltb, eqb-true}
use Rattle.std.proofs.lemmas.Cmp.{nat_eq_equiv, on_equiv}
use Rattle.std.proofs.lemmas.List.{get_or-map, length-map}
use Rattle.std.proofs.lemmas.List.Kept.{Any-dedup, Contains-from_dedup}
use Rattle.std.proofs.lemmas.List.Sorted.{Contains-permutation, IsPermutation-sym}
use Rattle.std.specs.List.Sorted.{IsPermutation}
use Rattle.std.proofs.lemmas.Map.Keys.{IsStrictlyIncreasing-dedup}
use Rattle.xml_model.specs.declared.Kind.TheVariants as kinds
use Rattle.xml_model.specs.declared.Node.{Node}

abbrev pub same_at : Node → Node → Bool
same_at m n = m.at == n.at

not_less : (x y : ℕ) → y ≤ x → is_lt (nat_cmp x y) ≡ false
not_less x y h = ap (λ b. is_lt (cond b Less (cond (x == y) Equal Greater))) (le-ltb x y h) ∙ by (x == y)
  where
    by : (b : Bool) → is_lt (cond b Equal Greater) ≡ false
    by true = refl
    by false = refl

indexes_sorted : (xs : List Node) → IsNonDecreasingBy (λ n. n.at) xs → IsSorted nat_cmp (map (λ n. n.at) xs)
indexes_sorted xs h = λ k d l m.
    let e : Node = record { kind = kinds.Root; at = d } in
    let within : k + 1 < length xs = omega (arith, m, length-map xs (λ (n : Node). n.at)) in
    ap (λ x. is_lt (nat_cmp x (get_or (map (λ (n : Node). n.at) xs) k d))) (get_or-map (λ (n : Node). n.at) xs (k + 1) e d within)
    ∙ ap (λ y. is_lt (nat_cmp (get_or xs (k + 1) e).at y)) (get_or-map (λ (n : Node). n.at) xs k e d (omega (arith, within)))
    ∙ not_less (get_or xs (k + 1) e).at (get_or xs k e).at (h k (k + 1) e (omega arith) within)

indexes_dedup_from : (k : Node) (xs : List Node) → map (λ n. n.at) (dedup_from same_at k xs) ≡ dedup_from eqb k.at (map (λ n. n.at) xs)
indexes_dedup_from k [] = refl
indexes_dedup_from k (x ∷ xs) = by (x.at == k.at) (indexes_dedup_from k xs) (indexes_dedup_from x xs)
  where
    by : (b : Bool) → map (λ (n : Node). n.at) (dedup_from same_at k xs) ≡ dedup_from eqb k.at (map (λ (n : Node). n.at) xs) →
        map (λ (n : Node). n.at) (dedup_from same_at x xs) ≡ dedup_from eqb x.at (map (λ (n : Node). n.at) xs) →
        map (λ (n : Node). n.at) (cond b (dedup_from same_at k xs) (k ∷ dedup_from same_at x xs))
        ≡ cond b (dedup_from eqb k.at (map (λ (n : Node). n.at) xs)) (k.at ∷ dedup_from eqb x.at (map (λ (n : Node). n.at) xs))
    by true h i = h
    by false h i = ap (λ zs. k.at ∷ zs) i

indexes_dedup : (xs : List Node) → map (λ n. n.at) (dedup same_at xs) ≡ dedup eqb (map (λ n. n.at) xs)
indexes_dedup [] = refl
indexes_dedup (x ∷ xs) = indexes_dedup_from x xs

pub rises : (xs : List Node) → IsNonDecreasingBy (λ n. n.at) xs → IsStrictlyIncreasing (map (λ n. n.at) (dedup same_at xs))
rises xs h = subst IsStrictlyIncreasing (sym (indexes_dedup xs)) (IsStrictlyIncreasing-dedup (map (λ n. n.at) xs) (indexes_sorted xs h))

pub keeps : (old sorted : List Node) → IsPermutation old sorted →
    ((m n : Node) → Contains old m → Contains old n → m.at ≡ n.at → m ≡ n) → (n : Node) → Contains old n → Contains (dedup same_at sorted) n
keeps old sorted p one n c =
    let a : Any (λ y. same_at n y ≡ true) (dedup same_at sorted) =
    Any-dedup (on_equiv (λ (m : Node). m.at) nat_eq_equiv) sorted n (Contains-permutation old sorted n p c) in
    let there : Contains (dedup same_at sorted) a.1 = (a.0, a.2, a.3) in
    let was : Contains old a.1 = Contains-permutation sorted old a.1 (IsPermutation-sym old sorted p) (Contains-from_dedup same_at sorted a.1 there) in
    subst (Contains (dedup same_at sorted)) (sym (one n a.1 c was (eqb-true n.at a.1.at a.4))) there

pub adds_none : (old sorted : List Node) → IsPermutation old sorted → (n : Node) → Contains (dedup same_at sorted) n → Contains old n
adds_none old sorted p n c = Contains-permutation sorted old n (IsPermutation-sym old sorted p) (Contains-from_dedup same_at sorted n c)
