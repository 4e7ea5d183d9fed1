use Rattle.std.proofs.lemmas.Result.{err_from_is_err_and}
use Rattle.vtd_builder.specs.Offered.{record_words}
use Rattle.vtd_builder.proofs.Refused.{stopped_iff, stopped_taken, passed, passed_iff}
use Rattle.vtd_builder.proofs.emission.emit.Goals as goal

pub returns-in_err-offer_records-clause-refused : goal.returns-in_err-offer_records-clause-refused
returns-in_err-offer_records-clause-refused g c = λ nest a k.
    let p = err_from_is_err_and c.from_residual.result c.from_residual.ensures.1 in
    rw (p.1, p.2) (stopped_iff _ _ (record_words c.args.bytes.now nest) _ _ k (c.in_err-offer_records.ensures.outcome nest a))

pub returns-in_err-offer_records-clause-taken_before : goal.returns-in_err-offer_records-clause-taken_before
returns-in_err-offer_records-clause-taken_before g c = λ nest a.
    let p = err_from_is_err_and c.from_residual.result c.from_residual.ensures.1 in
    rw (p.1, p.2) (stopped_taken _ _ (record_words c.args.bytes.now nest) _ _ (c.in_err-offer_records.ensures.outcome nest a))

pub returns-clause-refused : goal.returns-clause-refused
returns-clause-refused g c = λ nest a k. passed_iff _ _ (record_words c.args.bytes.now nest) _ _ k (c.in_ok-offer_records.ensures.outcome nest a)

pub returns-clause-taken : goal.returns-clause-taken
returns-clause-taken g c = λ nest a. (passed _ _ 0 (record_words c.args.bytes.now nest) _ _ (c.in_ok-offer_records.ensures.outcome nest a)).taken
