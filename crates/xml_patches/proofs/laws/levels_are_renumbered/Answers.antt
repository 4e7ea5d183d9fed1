use Rattle.xml_patches.proofs.Renumber.{level_renumbered, tags_renumbered}
use Rattle.xml_patches.proofs.laws.levels_are_renumbered.Goals as goal

pub returns : goal.returns
returns c = record { level = level_renumbered; last = tags_renumbered }
