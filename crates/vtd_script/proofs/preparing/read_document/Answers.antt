use Rattle.std.proofs.Common.{ap, ◌∙◌}
use Rattle.xml_model.specs.declared.DocFault.{DocFault}
use Rattle.vtd_script.specs.Steps.{refusal_of}
use Rattle.vtd_script.proofs.FileParts.{lined_as}
use Rattle.vtd_script.proofs.preparing.read_document.Goals as goal

pub returns-in-Err-default-Doc-clause-reads : goal.returns-in-Err-default-Doc-clause-reads
returns-in-Err-default-Doc-clause-reads c = (
  c.in-Err-default-Doc.fault,
  c.in-Err-default-Doc.ensures.refused c.in-Err-default-Doc.fault c.in-Err-default-Doc.field-0-1-is,
  c.refusal_of.ensures ∙ ap (λ (f : DocFault). refusal_of f) c.in-Err-default-Doc.fault-is,
)

pub returns-in-Ok-document_lines-clause-reads : goal.returns-in-Ok-document_lines-clause-reads
returns-in-Ok-document_lines-clause-reads c =
    (c.in-Ok.ensures.kept, lined_as _ _ _ (c.of.ensures ∙ c.in-Ok.ensures.kept) c.in-Ok-document_lines.ensures)
