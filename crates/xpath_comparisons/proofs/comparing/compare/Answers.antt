use Rattle.xpath_values.proofs.SeenLemmas.{held_seen, texts}
use Rattle.xpath_comparisons.proofs.CompareLemmas.{compared_meant}
use Rattle.xpath_comparisons.proofs.comparing.compare.Goals as goal

pub returns : goal.returns
returns g c = λ nest is v w h k.
    compared_meant _ c.args.how c.args.left.now c.args.right.now v w c.compare_seen.result h k
    (c.compare_seen.ensures (texts v) (texts w) (held_seen _ _ nest is c.args.left.now v h) (held_seen _ _ nest is c.args.right.now w k))
