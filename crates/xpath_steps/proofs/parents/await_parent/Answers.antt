use Rattle.std.proofs.Common.{sym, ◌∙◌}
use Rattle.xpath_steps.proofs.ParentLemmas.{root_waits, other_waits}
use Rattle.xpath_steps.proofs.parents.await_parent.Goals as goal

pub returns-in-Root : goal.returns-in-Root
returns-in-Root g c = λ nest s e w ds held h. root_waits nest _ s.accepted.document.nests e w.0 ds _ held _ w.2 h (w.1 ∙ c.in-Root.is)

pub returns-in_default : goal.returns-in_default
returns-in_default g c = λ nest s e w ds held h.
    other_waits nest _ s.accepted.document.nests e w.0 ds _ held _ w.2 h (λ t. c.in_default.not-Root (sym w.1 ∙ t)) _
    c.level_at.result (c.level_at.ensures.level nest s e w) c.put.ensures
