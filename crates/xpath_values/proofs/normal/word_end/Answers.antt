use Rattle.std.proofs.Common.{◌≡◌, ◌≢◌, ℕ, ◌+◌, ◌-◌, arith, get_or, subst}
use Rattle.xpath_values.specs.Normal.{AreSingle, Stays}
use Rattle.xpath_values.proofs.KeptLemmas.{word_spaced, word_inside}
use Rattle.xpath_values.proofs.normal.word_end.Goals as goal

pub returns-then-bytes-place-eq32 : goal.returns-then-bytes-place-eq32
returns-then-bytes-place-eq32 c =
    let i : ℕ = c.args.place - 1 in
    let next : i + 1 ≡ c.args.place = omega arith in
    subst (λ k. Stays c.args.bytes.now i k) next (word_spaced c.args.bytes.now i (omega (arith, c.requires.within)) (λ k lt.
    c.requires.single k (omega arith)) c.if-bytes-place-eq32.true)

pub returns : goal.returns
returns c =
    let i : ℕ = c.args.place - 1 in
    let next : i + 1 ≡ c.args.place = omega arith in
    subst (λ k. Stays c.args.bytes.now k k) next (word_inside c.args.bytes.now i (omega (arith, c.requires.within)) (λ k lt.
    c.requires.single k (omega arith)) c.if-bytes-place-eq32.false)
