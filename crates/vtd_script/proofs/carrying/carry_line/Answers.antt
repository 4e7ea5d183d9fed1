use Rattle.vtd_script.proofs.Loop.{ok_known, err_known, turned_skipped, turned_done, turned_refused, turned_stopped, turned_file, turned_write, turned_memory}
use Rattle.vtd_script.proofs.carrying.carry_line.Goals as goal

pub returns-in-Ok-Skipped-clause-known : goal.returns-in-Ok-Skipped-clause-known
returns-in-Ok-Skipped-clause-known g c = λ map sent files to. turned_skipped _ _ c.args.keep _ c.args.line.now c.args.refused _ _ sent _
    (ok_known _ _ _ _ _ _ _ _ _ _ c.in-Ok-Skipped.field-0-is (c.in-Ok-Skipped.ensures.known map sent files to))

pub returns-in-Ok-Done-clause-known : goal.returns-in-Ok-Done-clause-known
returns-in-Ok-Done-clause-known g c = λ map sent files to. turned_done _ _ c.args.keep _ c.args.line.now c.args.refused _ _ sent _
    (ok_known _ _ _ _ _ _ _ _ _ _ c.in-Ok-Done.field-0-is (c.in-Ok-Done.ensures.known map sent files to))

pub returns-then-not-keep-clause-known : goal.returns-then-not-keep-clause-known
returns-then-not-keep-clause-known g c = λ map sent files to.
    turned_stopped _ _ c.args.keep _ c.args.line.now c.args.refused c.in-Ok-Refused.field-0-0 _ _ sent _ c.if-not-keep.true
    (ok_known _ _ _ _ _ _ _ _ _ _ c.in-Ok-Refused.field-0-is (c.in-Ok-Refused.ensures.known map sent files to))

pub returns-else-not-keep-clause-known : goal.returns-else-not-keep-clause-known
returns-else-not-keep-clause-known g c = λ map sent files to.
    turned_refused _ _ c.args.keep _ c.args.line.now c.args.refused c.in-Ok-Refused.field-0-0 _ _ sent _ c.if-not-keep.false
    (ok_known _ _ _ _ _ _ _ _ _ _ c.in-Ok-Refused.field-0-is (c.in-Ok-Refused.ensures.known map sent files to))

pub returns-in-Err-File-clause-known : goal.returns-in-Err-File-clause-known
returns-in-Err-File-clause-known g c = λ map sent files to. turned_file _ _ c.args.keep _ c.args.line.now c.args.refused _ _ sent _
    (err_known _ _ _ _ _ _ _ _ _ _ c.in-Err-File.field-0-is (c.in-Err-File.ensures.known map sent files to))

pub returns-in-Err-Write-clause-known : goal.returns-in-Err-Write-clause-known
returns-in-Err-Write-clause-known g c = λ map sent files to. turned_write _ _ c.args.keep _ c.args.line.now c.args.refused _ _ sent _
    (err_known _ _ _ _ _ _ _ _ _ _ c.in-Err-Write.field-0-is (c.in-Err-Write.ensures.known map sent files to))

pub returns-in-Err-NoMemory-clause-known : goal.returns-in-Err-NoMemory-clause-known
returns-in-Err-NoMemory-clause-known g c = λ map sent files to. turned_memory _ _ c.args.keep _ c.args.line.now c.args.refused _ _ sent _
    (err_known _ _ _ _ _ _ _ _ _ _ c.in-Err-NoMemory.field-0-is (c.in-Err-NoMemory.ensures.known map sent files to))
