use Rattle.std.proofs.Common.{◌≡◌, ℕ, List, not, ◌==◌, Some, None, arith, sym, ap, ◌∙◌}
use Rattle.std.specs.List.{position}
use Rattle.vtd_index.specs.Heads.{slice}
use Rattle.vtd_index.proofs.Heads.{found_nonzero, none_nonzero, length_slice, nonzero_within}
use Rattle.vtd_index.proofs.head.first_nonzero.Goals as goal

pub returns-in-Some : goal.returns-in-Some
returns-in-Some c =
    let e : position (λ (b : ℕ). not (b == 0)) (slice c.args.at c.args.len c.args.file.now) ≡ Some c.in-Some.i =
    ap (λ (bs : List ℕ). position (λ (b : ℕ). not (b == 0)) bs) (sym c.part.ensures) ∙ sym c.nonzero_index.ensures ∙ c.in-Some.is in
    sym (found_nonzero c.args.at c.in-Some.i (slice c.args.at c.args.len c.args.file.now) e)

pub returns-in-None : goal.returns-in-None
returns-in-None c =
    let e : position (λ (b : ℕ). not (b == 0)) (slice c.args.at c.args.len c.args.file.now) ≡ None =
    ap (λ (bs : List ℕ). position (λ (b : ℕ). not (b == 0)) bs) (sym c.part.ensures) ∙ sym c.nonzero_index.ensures ∙ c.in-None.is in
    sym (none_nonzero c.args.at (slice c.args.at c.args.len c.args.file.now) e)

pub overflow_cast-result : goal.overflow_cast-result
overflow_cast-result c =
    let e : position (λ (b : ℕ). not (b == 0)) (slice c.args.at c.args.len c.args.file.now) ≡ Some c.in-Some.i =
    ap (λ (bs : List ℕ). position (λ (b : ℕ). not (b == 0)) bs) (sym c.part.ensures) ∙ sym c.nonzero_index.ensures ∙ c.in-Some.is in
    let w = nonzero_within c.in-Some.i (slice c.args.at c.args.len c.args.file.now) e in
    let l = length_slice c.args.at c.args.len c.args.file.now c.requires.within in
    omega (arith, w, l, c.requires.few, c.requires.within)
