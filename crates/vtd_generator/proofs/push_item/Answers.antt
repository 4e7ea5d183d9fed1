use Rattle.std.proofs.Common.{◌≡◌, ℕ, List, ◌++◌, ◌*◌, ◌%◌, codes, Result, Ok, Err, OnOk, ap, ◌∙◌, append_assoc}
use Rattle.std.specs.Fmt.{decimal}
use Rattle.vtd_generator.specs.Generated.{item}
use Rattle.vtd_generator.proofs.push_item.Goals as goal

-- five parts, added in turn
five : (old a b c d e : List ℕ) → ((((old ++ a) ++ b) ++ c) ++ d) ++ e ≡ old ++ ((((a ++ b) ++ c) ++ d) ++ e)
five old a b c d e =
    ap (λ (x : List ℕ). ((x ++ c) ++ d) ++ e) (append_assoc old a b)
    ∙ ap (λ (x : List ℕ). (x ++ d) ++ e) (append_assoc old (a ++ b) c)
    ∙ ap (λ (x : List ℕ). x ++ e) (append_assoc old ((a ++ b) ++ c) d)
    ∙ append_assoc old (((a ++ b) ++ c) ++ d) e

to : {E : Type 0} (r : Result (Unit {0}) E) (xs ys zs : List ℕ) → ys ≡ zs → OnOk r (xs ≡ ys) → OnOk r (xs ≡ zs)
to (Ok x) xs ys zs e h = h ∙ e
to (Err x) xs ys zs e h = tt

pub returns : goal.returns
unfolding item
returns c =
    let n = c.args.number in
    to c.push_text-3.result _ _ _
    (ap (λ (x : List ℕ). x ++ codes "</item></order>")
    (c.in_ok-push_decimal-2.ensures ∙ ap (λ (x : List ℕ). x ++ decimal ((7 * n) % 100))
    (c.in_ok-push_text-2.ensures ∙ ap (λ (x : List ℕ). x ++ codes "\">")
    (c.in_ok-push_decimal.ensures ∙ ap (λ (x : List ℕ). x ++ decimal (n % 7)) c.in_ok-push_text.ensures)))
    ∙ five c.args.document.now.items (codes "\"><item qty=\"") (decimal (n % 7)) (codes "\">") (decimal ((7 * n) % 100)) (codes "</item></order>"))
    c.push_text-3.ensures
