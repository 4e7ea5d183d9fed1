use Rattle.std.proofs.Common.{◌∙◌, true, ap, sym}
use Rattle.std.proofs.lemmas.Result.{IfOk-weaker}
use Rattle.xpath_steps.specs.Forward.{put_beside}
use Rattle.xpath_steps.specs.Waits.{flagged}
use Rattle.xpath_steps.proofs.EarlierLemmas.{context_waits}
use Rattle.xpath_steps.proofs.earlier.pass_context.Goals as goal

pub returns-clause-gathered : goal.returns-clause-gathered
returns-clause-gathered g c = IfOk-weaker c.pass_down.result _ _
    (λ stop h nest s e w ds l m. h nest s _ l
    (context_waits nest _ s.accepted.document.nests e w.0 ds (flagged c.args.waiting.now) c.args.held.now.items c.args.node.at w.2 m
    c.level_at-level.result (c.level_at-level.ensures.level nest s e w) _
    (λ n. c.flag_beside.ensures n ∙ ap (λ k. put_beside k c.level_at-level.result true (flagged c.args.waiting.now) n) (sym w.1))))
    c.pass_down.ensures.gathered
