use Rattle.std.proofs.Common.{◌∙◌, sym, ap}
use Rattle.vtd_running.specs.Seen.{form_seen}
use Rattle.vtd_running.proofs.Endings.{ran_document, ran_usage, ran_no_memory}
use Rattle.vtd_running.proofs.Generations.{ran_generated}
use Rattle.vtd_running.proofs.IndexEndings.{ran_index}
use Rattle.vtd_running.proofs.Outcomes.{exact_ran}
use Rattle.vtd_running.proofs.running.run.Goals as goal

pub returns-in-Ok-Document-clause-ends : goal.returns-in-Ok-Document-clause-ends
returns-in-Ok-Document-clause-ends g c = λ contents left taken known files from to errs.
    ran_document _ _ _ _ _ c.in-Ok-Document.name.now c.in-Ok-Document.keep contents left _ _ taken _ known _ c.run_document.result
    (sym (ap form_seen c.in-Ok-Document.field-0-is) ∙ c.in-Ok-Document.ensures) (c.run_document.ensures.known contents left taken files from to) errs

pub returns-in-Ok-Generation-clause-ends : goal.returns-in-Ok-Generation-clause-ends
returns-in-Ok-Generation-clause-ends g c = λ contents left taken known files from to errs.
    ran_generated _ _ _ _ _ c.in-Ok-Generation.count contents left _ _ taken _ known _ c.run_generated.result
    (sym (ap form_seen c.in-Ok-Generation.field-0-is) ∙ c.in-Ok-Generation.ensures) (c.run_generated.ensures.known taken to) files from errs

pub returns-in-Ok-NoForm-clause-ends : goal.returns-in-Ok-NoForm-clause-ends
returns-in-Ok-NoForm-clause-ends g c = λ contents left taken known files from to errs.
    ran_usage _ _ _ _ _ contents left _ _ taken _ known _ c.say_usage.result
    (sym (ap form_seen c.in-Ok-NoForm.field-0-is) ∙ c.in-Ok-NoForm.ensures) (c.say_usage.ensures.known known errs) files from to

pub returns-in-Err-clause-ends : goal.returns-in-Err-clause-ends
returns-in-Err-clause-ends g c = λ contents left taken known files from to errs.
    ran_no_memory _ _ _ _ _ contents left _ _ taken _ known _ files from to errs

pub returns-in-Ok-Document-clause-exact : goal.returns-in-Ok-Document-clause-exact
returns-in-Ok-Document-clause-exact g c = λ contents left taken known files from to errs noread nofile nowrite noerr.
    exact_ran _ _ _ _ _ contents left _ _ taken _ known _ c.run_document.result noread nofile nowrite noerr
    (returns-in-Ok-Document-clause-ends g c contents left taken known files from to errs)

pub returns-in-Ok-Generation-clause-exact : goal.returns-in-Ok-Generation-clause-exact
returns-in-Ok-Generation-clause-exact g c = λ contents left taken known files from to errs noread nofile nowrite noerr.
    exact_ran _ _ _ _ _ contents left _ _ taken _ known _ c.run_generated.result noread nofile nowrite noerr
    (returns-in-Ok-Generation-clause-ends g c contents left taken known files from to errs)

pub returns-in-Ok-NoForm-clause-exact : goal.returns-in-Ok-NoForm-clause-exact
returns-in-Ok-NoForm-clause-exact g c = λ contents left taken known files from to errs noread nofile nowrite noerr.
    exact_ran _ _ _ _ _ contents left _ _ taken _ known _ c.say_usage.result noread nofile nowrite noerr
    (returns-in-Ok-NoForm-clause-ends g c contents left taken known files from to errs)

pub returns-in-Ok-IndexFile-clause-ends : goal.returns-in-Ok-IndexFile-clause-ends
returns-in-Ok-IndexFile-clause-ends g c = λ contents left taken known files from to errs.
    ran_index _ _ _ _ _ c.in-Ok-IndexFile.name.now c.in-Ok-IndexFile.keep contents left _ _ taken _ known _ c.run_index.result
    (sym (ap form_seen c.in-Ok-IndexFile.field-0-is) ∙ c.in-Ok-IndexFile.ensures) (c.run_index.ensures.known contents left taken files from to) errs

pub returns-in-Ok-IndexFile-clause-exact : goal.returns-in-Ok-IndexFile-clause-exact
returns-in-Ok-IndexFile-clause-exact g c = λ contents left taken known files from to errs noread nofile nowrite noerr.
    exact_ran _ _ _ _ _ contents left _ _ taken _ known _ c.run_index.result noread nofile nowrite noerr
    (returns-in-Ok-IndexFile-clause-ends g c contents left taken known files from to errs)
