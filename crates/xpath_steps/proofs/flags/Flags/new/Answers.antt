use Rattle.std.proofs.Common.{refl}
use Rattle.xpath_steps.proofs.ParentLemmas.{flag_none}
use Rattle.xpath_steps.proofs.flags.Flags.new.Goals as goal

pub returns : goal.returns
returns c = flag_none 257 _ refl
