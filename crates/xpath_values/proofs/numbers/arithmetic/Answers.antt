use Rattle.xpath_values.proofs.FitLemmas.{arithmetic_fits}
use Rattle.xpath_values.proofs.numbers.arithmetic.Goals as goal

pub returns-clause-fits : goal.returns-clause-fits
returns-clause-fits c =
    arithmetic_fits c.args.how c.args.left c.args.right c.combine.result c.requires.left c.requires.right c.combine.ensures
