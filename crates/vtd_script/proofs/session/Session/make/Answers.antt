use Rattle.std.proofs.Common.{◌∙◌, ap, ap₂, sym, length, List, ℕ}
use Rattle.vtd_edits.specs.Splices.{spliced}
use Rattle.vtd_edits.specs.declared.splice.Splice.{Splice}
use Rattle.vtd_script.specs.States.{Work}
use Rattle.vtd_script.proofs.IndexParts.{change_index}
use Rattle.vtd_script.proofs.Parts.{change_file, rose_by, missed_by}
use Rattle.vtd_script.proofs.session.Session.make.Goals as goal

pub write-requires-clause-length : goal.write-requires-clause-length
write-requires-clause-length g c =
    ap (λ (b : List ℕ). length b) (c.bytes.ensures.value ∙ c.document.ensures ∙ sym (ap (λ (w : Work). w.bytes) c.self.view_is)) ∙ sym c.edits.ensures.len

pub returns-in-File-clause-known : goal.returns-in-File-clause-known
returns-in-File-clause-known g c = λ map files.
    change_file _ c.args.change c.in-File.name _ map _ _ c.name_of.result.now _ c.write.result c.in-File.is c.name_of.ensures
    (ap₂ (λ (b : List ℕ) (xs : List Splice). spliced b xs) (c.bytes.ensures.value ∙ c.document.ensures)
    (c.edits.ensures.splices ∙ ap (λ (w : Work). w.staged) c.self.view_is)) files c.write.ensures.writes
    (rose_by _ _ _ _ c.write.result c.write.ensures.cause)

pub returns-in-File-clause-missed : goal.returns-in-File-clause-missed
returns-in-File-clause-missed g c = missed_by _ _ _ _ c.write.result c.write.ensures.cause

pub returns-in-File-clause-fault : goal.returns-in-File-clause-fault
returns-in-File-clause-fault g c = rose_by _ _ _ _ c.write.result c.write.ensures.cause

pub returns-in-Index-clause-known : goal.returns-in-Index-clause-known
returns-in-Index-clause-known g c = λ map files.
    change_index _ c.args.change c.in-Index.name _ map _ _ c.name_of-in-Index.result.now c.document-in-Index.result c.write_index.result c.in-Index.is
    c.name_of-in-Index.ensures c.document-in-Index.ensures files c.write_index.ensures.writes
    (rose_by _ _ _ _ c.write_index.result c.write_index.ensures.cause)

pub returns-in-Index-clause-missed : goal.returns-in-Index-clause-missed
returns-in-Index-clause-missed g c = missed_by _ _ _ _ c.write_index.result c.write_index.ensures.cause

pub returns-in-Index-clause-fault : goal.returns-in-Index-clause-fault
returns-in-Index-clause-fault g c = rose_by _ _ _ _ c.write_index.result c.write_index.ensures.cause
