use Rattle.vtd_index.proofs.checking.check_document.Goals as goal

pub returns-clause-document : goal.returns-clause-document
returns-clause-document c =
    let a = c.in_default.ensures.accepted in
    let r = c.in_default-compare_records.ensures.same a.0 a.1 in
    let w = c.in_default-check_recorded.ensures.accepted a.0 (record { accepted = a.1; recorded = r }) in
    (a.0, record { accepted = w; recorded = r })
