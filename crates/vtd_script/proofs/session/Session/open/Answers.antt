use Rattle.std.proofs.Common.{refl}
use Rattle.vtd_script.specs.Steps.{Takes, with_document}
use Rattle.vtd_lines.specs.declared.commands.Command.TheVariants.{Open}
use Rattle.vtd_script.proofs.ChangeParts.{counts_taken, prepares_taken, stays_made}
use Rattle.vtd_script.proofs.FileParts.{stops_opened}
use Rattle.vtd_script.proofs.Parts.{counts_same}
use Rattle.vtd_script.proofs.session.Session.open.Goals as goal

pub returns-in-Ok-clause-known : goal.returns-in-Ok-clause-known
returns-in-Ok-clause-known g c = λ map files.
    prepares_taken (Takes with_document) _ (Open c.args.file.now) c.args.file.now _ _ map c.in-Ok.made c.take.result (λ a h. h) (c.in-Ok.ensures.known map files)
    c.take.ensures.work c.take.ensures.change c.take.ensures.lines c.take.ensures.stop c.take.ensures.stays

pub returns-in-Ok-clause-stays : goal.returns-in-Ok-clause-stays
returns-in-Ok-clause-stays g c = stays_made c.take.result _ _ c.take.ensures.change c.take.ensures.stays

pub returns-in-Ok-clause-counts : goal.returns-in-Ok-clause-counts
returns-in-Ok-clause-counts g c = counts_taken c.take.result _ _ _ _ c.take.ensures.stop c.in-Ok.ensures.counts

pub returns-in-Err-clause-known : goal.returns-in-Err-clause-known
returns-in-Err-clause-known g c = λ map files.
    stops_opened (Takes with_document) _ (Open c.args.file.now) c.args.file.now _ map c.in-Err.stop refl (λ a h. h) (c.in-Err.ensures.known map files)

pub returns-in-Err-clause-counts : goal.returns-in-Err-clause-counts
returns-in-Err-clause-counts g c = counts_same c.in-Err.stop _ _ _ _ c.in-Err.ensures.counts
