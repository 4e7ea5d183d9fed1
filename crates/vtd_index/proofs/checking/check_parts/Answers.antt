use Rattle.std.proofs.Common.{arith}
use Rattle.xml_model.specs.Items.{first_place}
use Rattle.xml_model.specs.Records.{records}
use Rattle.std.proofs.lemmas.Result.{err_from_is_err_and}
use Rattle.vtd_index.specs.declared.faults.IndexFault.TheVariants as faults
use Rattle.vtd_index.proofs.Checks.{few_records, parts_index, short_document, shown}
use Rattle.vtd_index.proofs.Verdicts.{parts_fault}
use Rattle.vtd_index.proofs.checking.check_parts.Goals as goal

pub check_document-requires : goal.check_document-requires
check_document-requires c = short_document c.args.file.now c.args.head.now c.args.bytes.now c.requires.head c.requires.document

pub compare_levels-requires-clause-records : goal.compare_levels-requires-clause-records
compare_levels-requires-clause-records c = few_records c.args.file.now c.args.head.now c.args.words.now c.requires.few c.requires.head c.requires.words

pub returns-clause-index : goal.returns-clause-index
returns-clause-index c =
    let d = c.in_ok-check_document.ensures.document in
    let few = short_document c.args.file.now c.args.head.now c.args.bytes.now c.requires.head c.requires.document in
    let s = shown c.args.bytes.now c.args.words.now d.0 few d.1 in
    parts_index c.args.file.now c.args.head.now c.args.bytes.now c.args.words.now d.0 (λ k. let f = c.type_inv.file k in omega arith) c.requires.head
    c.requires.document c.requires.words d.1 (c.in_default.ensures.same (records d.0 (first_place c.args.bytes.now)) s)

pub returns-in-Err-clause-fault : goal.returns-in-Err-clause-fault
returns-in-Err-clause-fault c =
    let d = c.in_ok-check_document.ensures.document in
    let few = short_document c.args.file.now c.args.head.now c.args.bytes.now c.requires.head c.requires.document in
    let s = shown c.args.bytes.now c.args.words.now d.0 few d.1 in
    parts_fault c.args.file.now c.args.head.now c.args.bytes.now c.args.words.now (faults.Caches c.in-Err.diff.level c.in-Err.diff.at) c.requires.head
    c.requires.document c.requires.words
    (record { nest = d.0; recorded = d.1; first = c.in-Err.ensures.differ (records d.0 (first_place c.args.bytes.now)) s })

pub returns-in_err-check_document-clause-fault : goal.returns-in_err-check_document-clause-fault
returns-in_err-check_document-clause-fault c =
    let p = err_from_is_err_and c.from_residual.result c.from_residual.ensures.1 in
    rw (p.1, p.2) (parts_fault c.args.file.now c.args.head.now c.args.bytes.now c.args.words.now c.in_err-check_document.field-0.0 c.requires.head
    c.requires.document c.requires.words (c.in_err-check_document.ensures.fault c.args.head.now.version))
