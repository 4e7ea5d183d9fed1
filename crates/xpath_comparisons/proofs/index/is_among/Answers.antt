use Rattle.std.proofs.Common.{◌∙◌, ap}
use Rattle.std.specs.BTreeSet.{contains}
use Rattle.xpath_comparisons.specs.Sets.{key_cmp}
use Rattle.xpath_comparisons.proofs.index.is_among.Goals as goal

pub returns : goal.returns
returns g c = λ t us h i. c.contains.ensures ∙ ap (contains key_cmp c.args.index.now) (c.key_at-key.ensures t h) ∙ i t
