use Rattle.vtd_namespaces.proofs.TagLemmas.{other_offence}
use Rattle.vtd_namespaces.proofs.walk.offence_at.Goals as goal

pub returns-clause-offence : goal.returns-clause-offence
returns-clause-offence g c = λ nest s h. other_offence _ _ nest c.words.ensures.table.few s c.args.at c.parts_at-parts.result (rw c.words.ensures.value at c.parts_at-parts.ensures.parts) c.if-parts.false c.if-parts-2.false
