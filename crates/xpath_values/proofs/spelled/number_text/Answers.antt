use Rattle.std.proofs.Common.{rules}
use Rattle.std.specs.Str.{chars}
use Rattle.xpath_values.proofs.spelled.number_text.Goals as goal

pub returns-in-Nan : goal.returns-in-Nan
unfolding chars
returns-in-Nan c = search rules
