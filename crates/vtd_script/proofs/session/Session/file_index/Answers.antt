use Rattle.vtd_script.specs.Steps.{TakesIndex, index_too_long}
use Rattle.vtd_script.proofs.FileParts.{index_given, opens_made, opens_stop}
use Rattle.vtd_script.proofs.Parts.{counts_read}
use Rattle.vtd_script.proofs.session.Session.file_index.Goals as goal

pub returns-in-Ok-clause-known : goal.returns-in-Ok-clause-known
returns-in-Ok-clause-known g c = λ map files.
    opens_made TakesIndex _ _ c.args.file.now c.in-Ok.bytes _ c.read_index.result (c.in-Ok.ensures.known map files)
    (index_given c.in-Ok.bytes _ c.read_index.result c.bytes.view_is c.in-Ok.ensures.within c.read_index.ensures.of_bytes c.read_index.ensures.reads)

pub returns-in-Ok-clause-counts : goal.returns-in-Ok-clause-counts
returns-in-Ok-clause-counts g c =
    counts_read c.read_index.result _ _ _ _ c.read_index.ensures.no_file c.in-Ok.ensures.counts.0 c.in-Ok.ensures.counts.1

pub returns-in-Err-clause-known : goal.returns-in-Err-clause-known
returns-in-Err-clause-known g c = λ map files.
    opens_stop TakesIndex _ _ c.args.file.now _ c.in-Err.stop (λ bytes l. index_too_long l) (c.in-Err.ensures.known map files)
