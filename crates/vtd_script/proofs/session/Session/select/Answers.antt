use Rattle.std.proofs.Common.{ap, refl}
use Rattle.vtd_script.specs.Queries.{Selects}
use Rattle.vtd_script.specs.States.{Work}
use Rattle.vtd_lines.specs.declared.commands.Command.TheVariants.{Select}
use Rattle.vtd_script.proofs.Parts.{prepares_told, stops_told, tells_no_file}
use Rattle.vtd_script.proofs.AskLemmas.{to_select}
use Rattle.vtd_script.proofs.session.Session.select.Goals as goal

pub returns-in-Ok-clause-known : goal.returns-in-Ok-clause-known
returns-in-Ok-clause-known c = λ files.
    prepares_told _ (Select c.args.expr.now) _ _ c.in-Ok.lines
    (to_select _ _ _ _ _ c.document.ensures (ap (λ (w : Work). w.bound) c.self.view_is) c.utf8_of.ensures) refl refl c.in-Ok.ensures

pub returns-in-Err-clause-known : goal.returns-in-Err-clause-known
returns-in-Err-clause-known c = λ files.
    stops_told _ (Select c.args.expr.now) _ c.in-Err.stop
    (to_select _ _ _ _ _ c.document.ensures (ap (λ (w : Work). w.bound) c.self.view_is) c.utf8_of.ensures) c.in-Err.ensures

pub returns-in-Err-clause-no_file : goal.returns-in-Err-clause-no_file
returns-in-Err-clause-no_file c = tells_no_file (Selects c.document.result c.self.inside.bindings c.utf8_of.result.now) c.in-Err.stop c.in-Err.ensures
