use Rattle.std.proofs.Common.{Ok, Err, ◌∙◌}
use Rattle.vtd_script.proofs.StageParts.{answers_as, stage_done, stage_fault, stage_refused}
use Rattle.vtd_script.proofs.session.Session.stage.Goals as goal

pub returns-in-Err-clause-known : goal.returns-in-Err-clause-known
returns-in-Err-clause-known c = λ files.
    stage_fault c.self.inside.bindings c.self.inside.held c.utf8_of-expr.result.now c.args.expr.now c.args.operation c.in-Err.fault _
    c.operation_stop.result files
    (answers_as c.of-document.result c.self.inside.held.bytes c.self.inside.bindings c.utf8_of-expr.result.now c.args.operation (Err c.in-Err.fault)
    (c.of-document.ensures ∙ c.shown.ensures) c.in-Err.ensures.answers) c.self.view_is c.utf8_of-expr.ensures c.operation_stop.ensures

pub returns-in-Err-stage-clause-known : goal.returns-in-Err-stage-clause-known
returns-in-Err-stage-clause-known c = λ files.
    stage_refused c.self.inside.bindings c.self.inside.held c.stage.new.self c.utf8_of-expr.result.now c.args.expr.now c.args.operation
    c.in-Ok.made c.in-Err-stage.fault _ c.stage_stop.result files
    (answers_as c.of-document.result c.self.inside.held.bytes c.self.inside.bindings c.utf8_of-expr.result.now c.args.operation (Ok c.in-Ok.made)
    (c.of-document.ensures ∙ c.shown.ensures) c.in-Ok.ensures.answers) c.in-Err-stage.ensures.refused
    c.self.view_is c.utf8_of-expr.ensures c.stage_stop.ensures c.in-Err-stage.ensures.unchanged

pub returns-clause-known : goal.returns-clause-known
returns-clause-known c = λ files.
    stage_done c.self.inside.bindings c.self.inside.held c.stage.new.self c.utf8_of-expr.result.now c.args.expr.now c.args.operation
    c.in-Ok.made c.edits-fits.result.now _ c.ready.result _ files
    (answers_as c.of-document.result c.self.inside.held.bytes c.self.inside.bindings c.utf8_of-expr.result.now c.args.operation (Ok c.in-Ok.made)
    (c.of-document.ensures ∙ c.shown.ensures) c.in-Ok.ensures.answers) c.in_default-stage.ensures.staged
    c.edits-fits.ensures.splices c.edits-fits.ensures.edits c.in-Ok-staged_lines.ensures c.ready.ensures.change c.ready.ensures.lines
    c.self.view_is c.utf8_of-expr.ensures
