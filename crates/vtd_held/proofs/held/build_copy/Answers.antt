use Rattle.std.proofs.Common.{rules}
use Rattle.vtd_history.specs.Versions.{IsAcceptedDocument}
use Rattle.vtd_history.proofs.Making.{not_refused}
use Rattle.vtd_held.proofs.held.build_copy.Goals as goal

pub unreachable-requires : goal.unreachable-requires
unreachable-requires c =
    let made : IsAcceptedDocument c.in-Ok.copy.items = search rules in
    let fault = c.in-Err-default-Doc.field-0-1-0 in
    not_refused c.in-Ok.copy.items fault made (c.in-Err-default-Doc.ensures.refused fault c.in-Err-default-Doc.field-0-1-is)
