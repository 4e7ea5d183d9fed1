use Rattle.std.proofs.Common.{Ok, Err, refl}
use Rattle.vtd_index.specs.declared.opening.Opened.TheVariants as opens
use Rattle.vtd_script.specs.Steps.{Takes, too_long, with_document}
use Rattle.vtd_script.specs.declared.ready.Made.{Made}
use Rattle.vtd_script.proofs.FileParts.{document_made, document_stop, opens_made, opens_stop}
use Rattle.vtd_script.proofs.session.Session.file_document.Goals as goal

pub returns-in-Err-clause-known : goal.returns-in-Err-clause-known
returns-in-Err-clause-known g c = λ map files.
    opens_stop (Takes with_document) _ _ c.args.file.now _ c.in-Err.stop (λ bytes l. too_long l) (c.in-Err.ensures.known map files)

pub returns-in-Ok-read_document-clause-known : goal.returns-in-Ok-read_document-clause-known
returns-in-Ok-read_document-clause-known g c =
    let built = c.in-Ok-read_document.field-0 in
    let made : Made = record { document = opens.Built built.document; lines = built.lines } in
    λ map files.
    opens_made (Takes with_document) ⊥ _ c.args.file.now c.in-Ok.bytes _ (Ok made) (c.in-Ok.ensures.known map files)
    (document_made c.in-Ok.bytes _ built made c.bytes.view_is c.in-Ok.ensures.within refl refl c.in-Ok-read_document.ensures.reads)

pub returns-in-Err-read_document-clause-known : goal.returns-in-Err-read_document-clause-known
returns-in-Err-read_document-clause-known g c = λ map files.
    opens_made (Takes with_document) _ _ c.args.file.now c.in-Ok.bytes _ (Err c.in-Err-read_document.stop) (c.in-Ok.ensures.known map files)
    (document_stop c.in-Ok.bytes _ c.in-Err-read_document.stop c.bytes.view_is c.in-Ok.ensures.within c.in-Err-read_document.ensures.reads)
