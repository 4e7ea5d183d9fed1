use Rattle.std.proofs.Common.{◌∙◌}
use Rattle.vtd_running.proofs.IndexEndings.{index_begun, index_failed, index_no_memory, index_too_long, index_unfit_line}
use Rattle.vtd_running.proofs.running.run_index.Goals as goal

pub returns-in-Ok-clause-known : goal.returns-in-Ok-clause-known
returns-in-Ok-clause-known g c = λ map left sent files from to.
    index_begun _ _ _ _ _ c.args.keep map c.args.name.now left c.in-Ok.session _ _ sent _ c.run_script.result (c.in-Ok.ensures.cause.1)
    (c.in-Ok.ensures.reads map files) (c.run_script.ensures.known map left sent (c.read_index.ensures.files_stay ∙ files) from to)

pub returns-in-Err-Failed-clause-known : goal.returns-in-Err-Failed-clause-known
returns-in-Err-Failed-clause-known g c = λ map left sent files from to.
    index_failed _ _ _ _ _ _ c.args.keep _ map c.args.name.now left c.in-Err-Failed.field-0 _ _ sent _ files c.in-Err-Failed.field-0-is
    c.in-Err-Failed.ensures.cause (c.read_index.ensures.files_stay ∙ files) from to

pub returns-in-Err-NoMemory-clause-known : goal.returns-in-Err-NoMemory-clause-known
returns-in-Err-NoMemory-clause-known g c = λ map left sent files from to.
    index_no_memory _ _ _ c.args.keep map c.args.name.now left _ _ sent _ (c.read_index.ensures.files_stay ∙ files) from to

pub returns-in-Err-Long-clause-known : goal.returns-in-Err-Long-clause-known
returns-in-Err-Long-clause-known g c = λ map left sent files from to.
    index_too_long _ _ _ c.args.keep map c.args.name.now left c.in-Err-Long.field-0 _ _ sent _ c.refuse.result c.in-Err-Long.field-0-is
    (c.in-Err-Long.ensures.reads map files) (c.refuse.ensures.known sent to) (c.read_index.ensures.files_stay ∙ files) from

pub returns-in-Ok-index_fault_line-clause-known : goal.returns-in-Ok-index_fault_line-clause-known
returns-in-Ok-index_fault_line-clause-known g c = λ map left sent files from to.
    index_unfit_line _ _ _ c.args.keep map c.args.name.now left _ c.in-Err-Unfit.field-0 c.in-Err-Unfit.fault _ _ sent _ c.refuse-in-Ok-index_fault_line.result
    c.in-Err-Unfit.field-0-is (c.in-Err-Unfit.ensures.reads map files) (c.deref.ensures.value ∙ c.in-Ok-index_fault_line.ensures)
    (c.refuse-in-Ok-index_fault_line.ensures.known sent to) (c.read_index.ensures.files_stay ∙ files) from

pub returns-in-Err-clause-known : goal.returns-in-Err-clause-known
returns-in-Err-clause-known g c = λ map left sent files from to.
    index_no_memory _ _ _ c.args.keep map c.args.name.now left _ _ sent _ (c.read_index.ensures.files_stay ∙ files) from to
