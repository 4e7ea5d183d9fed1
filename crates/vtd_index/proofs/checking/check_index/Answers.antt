use Rattle.std.proofs.lemmas.Result.{err_from_is_err_and}
use Rattle.std.proofs.Common.{◌∙◌, sym, subst}
use Rattle.vtd_index.specs.declared.head.Version.{Version}
use Rattle.vtd_index.specs.declared.head.Version.TheVariants.{One, Two}
use Rattle.vtd_index.specs.Index.{IsIndexBy}
use Rattle.vtd_index.proofs.Checks.{exactly_version, index_doc, no_version}
use Rattle.vtd_index.proofs.Verdicts.{accepted_err, exactly_err, exactly_ok, head_fault}
use Rattle.vtd_index.proofs.checking.check_index.Goals as goal

-- the fault of a head
pub returns-in_err-head-clause-version : goal.returns-in_err-head-clause-version
returns-in_err-head-clause-version c =
    let p = err_from_is_err_and c.from_residual.result c.from_residual.ensures.1 in
    rw p.1 (no_version c.args.file.now c.in_err-head.field-0.0 (head_fault c.args.file.now _ (sym c.read_head.ensures ∙ c.in_err-head.was)))

pub returns-in_err-head-clause-accepted : goal.returns-in_err-head-clause-accepted
returns-in_err-head-clause-accepted c =
    let p = err_from_is_err_and c.from_residual.result c.from_residual.ensures.1 in
    rw p.1 (accepted_err c.args.file.now c.in_err-head.field-0.0 (head_fault c.args.file.now _ (sym c.read_head.ensures ∙ c.in_err-head.was)))

-- a fault of the parts
pub returns-in-Err-clause-version : goal.returns-in-Err-clause-version
returns-in-Err-clause-version c = no_version c.args.file.now c.in-Err.fault c.in-Err.ensures.fault

pub returns-in-Err-clause-accepted : goal.returns-in-Err-clause-accepted
returns-in-Err-clause-accepted c = accepted_err c.args.file.now c.in-Err.fault c.in-Err.ensures.fault

pub returns-in-Err-clause-fault : goal.returns-in-Err-clause-fault
returns-in-Err-clause-fault c = exactly_err c.args.file.now c.in-Err.fault c.in-Err.ensures.fault

-- an index file of either version
pub returns-in-One-clause-version : goal.returns-in-One-clause-version
returns-in-One-clause-version c =
    let i = subst (λ (v : Version). IsIndexBy v c.args.file.now c.document-bytes.result.now) c.in-One.is c.in_default.ensures.index in
    exactly_version c.args.file.now One (c.document-bytes.result.now, i)

pub returns-in-One-clause-fault : goal.returns-in-One-clause-fault
returns-in-One-clause-fault c =
    let i = subst (λ (v : Version). IsIndexBy v c.args.file.now c.document-bytes.result.now) c.in-One.is c.in_default.ensures.index in
    exactly_ok c.args.file.now _ (One, (c.document-bytes.result.now, i))

pub of-requires : goal.of-requires
of-requires c =
    let i = subst (λ (v : Version). IsIndexBy v c.args.file.now c.document-bytes.result.now) c.in-Two.is c.in_default.ensures.index in
    rw (c.document-bytes.ensures, c.words-words.ensures)
    (index_doc c.args.file.now c.document-bytes.result.now c.in_ok-head.head i (sym c.read_head.ensures ∙ c.in_ok-head.was))

pub returns-in-Two-clause-version : goal.returns-in-Two-clause-version
returns-in-Two-clause-version c =
    let i = subst (λ (v : Version). IsIndexBy v c.args.file.now c.document-bytes.result.now) c.in-Two.is c.in_default.ensures.index in
    exactly_version c.args.file.now Two (c.document-bytes.result.now, i)

pub returns-in-Two-clause-fault : goal.returns-in-Two-clause-fault
returns-in-Two-clause-fault c =
    let i = subst (λ (v : Version). IsIndexBy v c.args.file.now c.document-bytes.result.now) c.in-Two.is c.in_default.ensures.index in
    exactly_ok c.args.file.now _ (Two, (c.document-bytes.result.now, i))
