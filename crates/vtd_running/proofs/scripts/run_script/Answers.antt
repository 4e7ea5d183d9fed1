use Rattle.vtd_running.proofs.Endings.{script_carried, script_failed, script_no_memory, script_too_long}
use Rattle.vtd_running.proofs.scripts.run_script.Goals as goal

pub returns-in-Ok-clause-known : goal.returns-in-Ok-clause-known
returns-in-Ok-clause-known g c = λ map left sent files from to.
    script_carried _ _ _ c.args.keep _ left c.deref.result.now _ _ _ sent _ c.carry_out.result c.status_of.result from
    (rw c.deref.ensures.value c.in-Ok.ensures.all) (c.carry_out.ensures.known map sent files to) c.status_of.ensures

pub returns-in-Err-Failed-clause-known : goal.returns-in-Err-Failed-clause-known
returns-in-Err-Failed-clause-known g c = λ map left sent files from to.
    script_failed _ _ _ c.args.keep _ left _ _ _ sent _ c.in-Err-Failed.field-0 from c.in-Err-Failed.ensures.prefix c.in-Err-Failed.field-0-is
    (rw c.in-Err-Failed.field-0-is at c.in-Err-Failed.ensures.cause) files to

pub returns-in-Err-Long-clause-known : goal.returns-in-Err-Long-clause-known
returns-in-Err-Long-clause-known g c = λ map left sent files from to.
    script_too_long _ _ _ c.args.keep _ left _ _ _ sent _ c.in-Err-Long.field-0 c.refuse.result from c.in-Err-Long.ensures.prefix
    c.in-Err-Long.field-0-is files (c.refuse.ensures.known sent to)

pub returns-clause-known : goal.returns-clause-known
returns-clause-known g c = λ map left sent files from to.
    script_no_memory _ _ _ c.args.keep _ left _ _ _ sent _ c.in-Err-NoMemory.field-0 from c.in-Err-NoMemory.ensures.prefix
    c.in-Err-NoMemory.field-0-is files to
