use Rattle.vtd_words.specs.Numbers.{number_bytes}
use Rattle.vtd_index.proofs.numbers.put_short.Goals as goal

pub returns : goal.returns
unfolding number_bytes
returns c = c.write_u32.ensures
