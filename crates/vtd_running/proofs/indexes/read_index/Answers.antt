use Rattle.vtd_documents.proofs.Loading.{fault_of}
use Rattle.vtd_running.proofs.IndexEndings.{reads_index, reads_no_index}
use Rattle.vtd_running.proofs.indexes.read_index.Goals as goal

pub returns-in-Ok-start_index-clause-reads : goal.returns-in-Ok-start_index-clause-reads
returns-in-Ok-start_index-clause-reads g c = λ map files.
    reads_index _ map _ _ c.in-Ok.file.items c.in-Ok-start_index.session files c.in-Ok.ensures.all c.in-Ok.ensures.within
    c.start_index.ensures.of_bytes c.in-Ok-start_index.ensures.index c.in-Ok-start_index.ensures.started

pub returns-in-Err-Index-clause-reads : goal.returns-in-Err-Index-clause-reads
returns-in-Err-Index-clause-reads g c = λ map files.
    reads_no_index _ map _ _ c.in-Ok.file.items c.in-Err-Index.fault files c.in-Ok.ensures.all c.in-Ok.ensures.within
    c.start_index.ensures.of_bytes (fault_of c.in-Ok.file.items _ c.in-Err-Index.fault c.in-Err-Index.field-0-is c.in-Err-Index.ensures.fault)
