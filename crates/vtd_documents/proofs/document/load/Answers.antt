use Rattle.vtd_documents.proofs.Loading.{load_answer, load_faults}
use Rattle.vtd_documents.proofs.document.load.Goals as goal

pub returns-clause-index : goal.returns-clause-index
returns-clause-index c = load_answer c.args.file.items c.open_index.result c.open_index.ensures.opened

pub returns-clause-fault : goal.returns-clause-fault
returns-clause-fault c = load_faults c.args.file.items c.open_index.result c.open_index.ensures.fault c.open_index.ensures.no_memory
