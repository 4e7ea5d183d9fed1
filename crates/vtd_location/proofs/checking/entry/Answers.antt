use Rattle.std.proofs.Common.{refl}
use Rattle.xml_model.specs.Levels.{level_word}
use Rattle.vtd_location.proofs.checking.entry.Goals as goal

pub returns : goal.returns
unfolding level_word
returns c = refl
