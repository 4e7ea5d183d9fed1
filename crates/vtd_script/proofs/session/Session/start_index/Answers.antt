use Rattle.vtd_documents.proofs.Loading.{copied_file}
use Rattle.vtd_script.proofs.ChangeParts.{begun_index, first_as}
use Rattle.vtd_script.proofs.session.Session.start_index.Goals as goal

pub returns-in-Ok-of-clause-index : goal.returns-in-Ok-of-clause-index
returns-in-Ok-of-clause-index c = begun_index c.args.file.items _ _ _ c.over.ensures c.in-Ok-of.ensures.held c.in-Ok.ensures.index

pub returns-in-Ok-of-clause-started : goal.returns-in-Ok-of-clause-started
returns-in-Ok-of-clause-started c = first_as _ _ _ c.over.ensures c.in-Ok-of.ensures.held

pub returns-in-Err-of-clause-fault : goal.returns-in-Err-of-clause-fault
returns-in-Err-of-clause-fault c = copied_file c.args.file.items _ c.in-Err-of.ensures.no_memory c.in-Ok.ensures.opened
