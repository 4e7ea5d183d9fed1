use Rattle.vtd_words.specs.Table.{IsNodeOf}
use Rattle.xpath_steps.proofs.AboveLemmas.{each_index}
use Rattle.conformance_queries.proofs.steps.write_answer.Goals as goal

pub write_step-requires : goal.write_step-requires
write_step-requires g c = rw c.deref.ensures.value (each_index (IsNodeOf _ _) _ c.in_ok-contexts.ensures)
