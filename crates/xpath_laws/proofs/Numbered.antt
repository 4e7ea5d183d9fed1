-- A predicate that is a number takes the node at that position, and asks for no other.
use Rattle.std.proofs.Common.{◌≡◌, ℕ, zero, suc, ◌+◌, ◌<◌, true, false, List, [], ◌∷◌, ◌++◌, drop, take, Ok, refl, ◌∙◌, ap, arith}
use Rattle.xml_model.specs.Tree.{Entry}
use Rattle.xpath_values.specs.Answers.{with}
use Rattle.xpath_values.specs.Numbers.{counted}
use Rattle.xpath_values.specs.Values.{number}
use Rattle.xpath_meaning.specs.Context.{Context, is_passed}
use Rattle.xpath_meaning.specs.Meaning.{kept, one_if}

-- none is passed where the number is before the position
pub past : (c : Context) (k n p : ℕ) (es : List Entry) → k < p → kept (λ d. Ok (number (counted k))) c n p es ≡ Ok []
past c k n p [] h = refl
past c k n p (e ∷ es) h =
    let f : is_passed (number (counted k)) p ≡ false = grind arith in
    ap (λ m. with m (λ zs. one_if (is_passed (number (counted k)) p) e ++ zs)) (past c k n (suc p) es (omega arith)) ∙ ap (λ b. Ok (one_if b e ++ [])) f

-- the one at the position is passed alone; i nodes stand before it
pub numbered : (c : Context) (n p i : ℕ) (es : List Entry) → kept (λ d. Ok (number (counted (p + i)))) c n p es ≡ Ok (take 1 (drop i es))
numbered c n p zero [] = refl
numbered c n p (suc i) [] = refl
numbered c n p zero (e ∷ es) =
    let t : is_passed (number (counted (p + zero))) p ≡ true = grind arith in
    ap (λ m. with m (λ zs. one_if (is_passed (number (counted (p + zero))) p) e ++ zs)) (past c (p + zero) n (suc p) es (omega arith))
    ∙ ap (λ b. Ok (one_if b e ++ [])) t
numbered c n p (suc i) (e ∷ es) =
    let f : is_passed (number (counted (p + suc i))) p ≡ false = grind arith in
    let q : p + suc i ≡ suc p + i = omega arith in
    ap (λ b. with (kept (λ d. Ok (number (counted (p + suc i)))) c n (suc p) es) (λ zs. one_if b e ++ zs)) f
    ∙ ap (λ k. with (kept (λ d. Ok (number (counted k))) c n (suc p) es) (λ zs. zs)) q
    ∙ ap (λ m. with m (λ zs. zs)) (numbered c n (suc p) i es)
