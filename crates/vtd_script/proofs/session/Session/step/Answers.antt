use Rattle.std.proofs.Common.{Err, ap, refl, ◌∙◌}
use Rattle.vtd_script.specs.Changes.{touches_file}
use Rattle.vtd_script.specs.declared.ready.Stop.{Stop}
use Rattle.vtd_script.specs.declared.ready.Stop.TheVariants as stop
use Rattle.vtd_script.proofs.Parts.{asked_as, step_skipped, step_unread, step_refused, step_unopened, step_done, step_undone, step_no_memory}
use Rattle.vtd_script.proofs.Parts.{read_none, read_some, read_refused, prepares_stop, rose_from, counts_from, stays, stays_undone}
use Rattle.vtd_script.proofs.session.Session.step.Goals as goal

pub returns-in-Ok-None-clause-known : goal.returns-in-Ok-None-clause-known
returns-in-Ok-None-clause-known g c = λ map sent files to. step_skipped _ _ c.args.line.now _ map sent _ _
    (read_none c.in-Ok-None.field-0 _ c.in-Ok-None.field-0-is c.in-Ok-None.ensures) files to

pub returns-in-Err-Refused-clause-known : goal.returns-in-Err-Refused-clause-known
returns-in-Err-Refused-clause-known g c = λ map sent files to.
    step_unread _ _ c.args.line.now _ map sent _ _ c.in-Err-Refused.refusal c.refuse.result
    (read_refused c.in-Err-Refused.field-0 c.in-Err-Refused.refusal _ c.in-Err-Refused.field-0-is c.in-Err-Refused.ensures) files
    (c.refuse.ensures.known sent to)

pub returns-in-Ok-complete-clause-known : goal.returns-in-Ok-complete-clause-known
returns-in-Ok-complete-clause-known g c = λ map sent files to.
    step_done ⊥ _ _ _ c.args.line.now c.in-Ok-Some.command c.in-Ok.ready _ _ _ map sent _ _ c.in-Ok-complete.field-0
    (read_some c.in-Ok-Some.field-0 c.in-Ok-Some.command _ c.in-Ok-Some.field-0-is c.in-Ok-Some.ensures) (c.in-Ok.ensures.known map files)
    (c.in-Ok-complete.ensures.known map sent (c.prepare.ensures.files_stay ∙ files) to)

pub returns-in-Err-complete-clause-known : goal.returns-in-Err-complete-clause-known
returns-in-Err-complete-clause-known g c = λ map sent files to.
    step_undone ⊥ _ _ _ c.args.line.now c.in-Ok-Some.command c.in-Ok.ready _ _ _ map sent _ _ c.in-Err-complete.fault
    (λ r. rose_from _ _ _ c.in-Ok.ensures.counts.1 r)
    (read_some c.in-Ok-Some.field-0 c.in-Ok-Some.command _ c.in-Ok-Some.field-0-is c.in-Ok-Some.ensures) (c.in-Ok.ensures.known map files)
    (c.in-Err-complete.ensures.known map sent (c.prepare.ensures.files_stay ∙ files) to)

pub returns-in-Err-Refused-prepare-clause-known : goal.returns-in-Err-Refused-prepare-clause-known
returns-in-Err-Refused-prepare-clause-known g c = λ map sent files to.
    step_refused ⊥ _ _ c.args.line.now c.in-Ok-Some.command _ _ map sent _ _ c.in-Err-Refused-prepare.refusal c.refuse-in-Err-Refused-prepare.result
    (read_some c.in-Ok-Some.field-0 c.in-Ok-Some.command _ c.in-Ok-Some.field-0-is c.in-Ok-Some.ensures)
    (prepares_stop _ _ _ _ _ _ c.in-Err-Refused-prepare.field-0-is (c.in-Err-Refused-prepare.ensures.known map files))
    (c.prepare.ensures.files_stay ∙ files) (c.refuse-in-Err-Refused-prepare.ensures.known sent to)

pub returns-in-Err-File-clause-known : goal.returns-in-Err-File-clause-known
returns-in-Err-File-clause-known g c = λ map sent files to.
    step_unopened _ _ c.args.line.now c.in-Ok-Some.command _ _ map sent _ _
    (read_some c.in-Ok-Some.field-0 c.in-Ok-Some.command _ c.in-Ok-Some.field-0-is c.in-Ok-Some.ensures)
    (prepares_stop _ _ _ _ _ _ c.in-Err-File.field-0-is (c.in-Err-File.ensures.known map files)) (c.prepare.ensures.files_stay ∙ files) to

pub returns-in-Err-NoMemory-clause-known : goal.returns-in-Err-NoMemory-clause-known
returns-in-Err-NoMemory-clause-known g c = λ map sent files to.
    step_no_memory _ _ c.args.line.now _ _ map sent _ _
    (prepares_stop _ c.in-Ok-Some.command _ _ c.in-Err-NoMemory.field-0 stop.NoMemory c.in-Err-NoMemory.field-0-is (c.in-Err-NoMemory.ensures.known map files))
    (c.prepare.ensures.files_stay ∙ files) to

pub returns-in-Err-Refused-clause-session_stays : goal.returns-in-Err-Refused-clause-session_stays
returns-in-Err-Refused-clause-session_stays g c = stays c.refuse.result _ _ refl

pub returns-in-Err-complete-clause-session_stays : goal.returns-in-Err-complete-clause-session_stays
returns-in-Err-complete-clause-session_stays g c = stays_undone c.in-Err-complete.fault c.in-Ok.ready _ _ c.in-Err-complete.ensures.no_memory
    c.in-Err-complete.ensures.file c.in-Ok.ensures.stays

pub returns-in-Err-Refused-prepare-clause-session_stays : goal.returns-in-Err-Refused-prepare-clause-session_stays
returns-in-Err-Refused-prepare-clause-session_stays g c = stays c.refuse-in-Err-Refused-prepare.result _ _ c.in-Err-Refused-prepare.ensures.stays

pub returns-in-Err-complete-clause-counts : goal.returns-in-Err-complete-clause-counts
returns-in-Err-complete-clause-counts g c =
    counts_from _ _ _ _ _ _ _ c.in-Ok.ensures.counts.0 c.in-Ok.ensures.counts.1 c.in-Err-complete.ensures.counts

pub returns-in-Err-complete-clause-asked : goal.returns-in-Err-complete-clause-asked
returns-in-Err-complete-clause-asked g c = λ t. asked_as c.args.line.now c.in-Ok-Some.field-0 c.in-Ok-Some.command c.in-Ok-Some.field-0-is
    c.in-Ok-Some.ensures (c.in-Ok.ensures.asks (c.in-Err-complete.ensures.file t))

pub returns-in-Err-File-clause-asked : goal.returns-in-Err-File-clause-asked
returns-in-Err-File-clause-asked g c = λ t. asked_as c.args.line.now c.in-Ok-Some.field-0 c.in-Ok-Some.command c.in-Ok-Some.field-0-is
    c.in-Ok-Some.ensures (c.in-Err-File.ensures.asks (ap touches_file (ap (λ (x : Stop). Err x) c.in-Err-File.field-0-is)))
