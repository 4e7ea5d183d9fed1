use Rattle.std.proofs.Common.{ap, ◌∙◌}
use Rattle.vtd_index.specs.declared.faults.IndexFault.{IndexFault}
use Rattle.vtd_documents.proofs.Loading.{fault_of}
use Rattle.vtd_script.specs.Steps.{index_refusal}
use Rattle.vtd_script.proofs.FileParts.{index_lined, lined_as}
use Rattle.vtd_script.proofs.preparing.read_index.Goals as goal

pub returns-in-Ok-document_lines-clause-reads : goal.returns-in-Ok-document_lines-clause-reads
returns-in-Ok-document_lines-clause-reads c =
    index_lined c.args.file.items _ _ c.in-Ok.ensures.index (lined_as _ _ _ (c.of.ensures ∙ c.show.ensures) c.in-Ok-document_lines.ensures)

pub returns-in-Err-default-Index-clause-reads : goal.returns-in-Err-default-Index-clause-reads
returns-in-Err-default-Index-clause-reads c = (
  c.in-Err-default-Index.fault,
  fault_of c.args.file.items _ c.in-Err-default-Index.fault c.in-Err-default-Index.field-0-1-is c.in-Err-default-Index.ensures.fault,
  c.index_refusal.ensures ∙ ap (λ (f : IndexFault). index_refusal f) c.in-Err-default-Index.fault-is,
)
