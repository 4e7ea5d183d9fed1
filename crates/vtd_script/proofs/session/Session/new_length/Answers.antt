use Rattle.std.proofs.Common.{List, length, ap, sym, ◌∙◌}
use Rattle.vtd_edits.specs.Splices.{spliced}
use Rattle.vtd_edits.specs.declared.splice.Splice.{Splice}
use Rattle.vtd_script.specs.States.{Work, new_bytes}
use Rattle.vtd_script.proofs.session.Session.new_length.Goals as goal

pub returns : goal.returns
returns c =
    c.length.ensures c.self.inside.held.bytes (sym c.edits.ensures.len)
    ∙ ap (λ (xs : List Splice). length (spliced c.self.inside.held.bytes xs)) c.edits.ensures.splices
    ∙ ap (λ (w : Work). length (new_bytes w)) c.self.view_is
