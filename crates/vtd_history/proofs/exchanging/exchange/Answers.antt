use Rattle.vtd_history.proofs.Making.{not_refused}
use Rattle.vtd_history.proofs.exchanging.exchange.Goals as goal

pub unreachable-requires : goal.unreachable-requires
unreachable-requires c =
    let fault = c.in-Err-Doc.field-0-0 in
    not_refused _ fault c.requires.accepted (c.in-Err-Doc.ensures.refused fault c.in-Err-Doc.field-0-is)
