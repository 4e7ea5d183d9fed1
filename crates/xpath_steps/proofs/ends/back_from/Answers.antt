use Rattle.vtd_words.proofs.Same.{node_holds}
use Rattle.xpath_steps.proofs.ends.back_from.Goals as goal

pub preceding_of-requires-clause-each : goal.preceding_of-requires-clause-each
preceding_of-requires-clause-each g c = λ nest s. node_holds _ _ c.words-words.ensures.table.few c.args.node c.requires nest s
