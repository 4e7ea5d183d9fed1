use Rattle.vtd_running.proofs.Endings.{reads_unfit}
use Rattle.vtd_running.proofs.reading.read_document.Goals as goal

pub returns-in-Err-default-Doc-clause-reads : goal.returns-in-Err-default-Doc-clause-reads
returns-in-Err-default-Doc-clause-reads g c = λ map files.
    reads_unfit _ map _ _ c.in-Ok.bytes.items c.in-Err-default-Doc.fault files c.in-Ok.ensures.all c.in-Ok.ensures.within
    (c.in-Err-default-Doc.ensures.refused c.in-Err-default-Doc.fault c.in-Err-default-Doc.field-0-1-is)
