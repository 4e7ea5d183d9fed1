use Rattle.std.proofs.Common.{ℕ, ap, ◌∙◌}
use Rattle.vtd_script.specs.Steps.{saved_line}
use Rattle.vtd_script.proofs.Parts.{prepares_file}
use Rattle.vtd_script.proofs.session.Session.save.Goals as goal

pub returns-in-Ok-clause-known : goal.returns-in-Ok-clause-known
returns-in-Ok-clause-known c = λ files.
    prepares_file ⊥ c.args.file _ c.ready.result c.in-Ok.lines.items c.ready.ensures.change c.ready.ensures.lines
    (c.in-Ok.ensures ∙ ap (λ (m : ℕ). saved_line m) c.new_length.ensures)
