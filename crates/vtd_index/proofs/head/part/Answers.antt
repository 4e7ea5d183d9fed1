use Rattle.std.proofs.Common.{◌≡◌, ◌+◌, ◌-◌, ℕ, arith, ap, take, drop}
use Rattle.vtd_index.specs.Heads.{slice}
use Rattle.vtd_index.proofs.head.part.Goals as goal

pub returns : goal.returns
unfolding slice
returns c =
    let e : c.args.at + c.args.len - c.args.at ≡ c.args.len = omega arith in
    ap (λ (n : ℕ). take n (drop c.args.at c.args.file.now)) e
