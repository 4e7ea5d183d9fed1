use Rattle.vtd_index.proofs.Opens.{not_refused}
use Rattle.vtd_index.proofs.opening.build_copy.Goals as goal

pub unreachable-requires : goal.unreachable-requires
unreachable-requires c =
    not_refused c.args.bytes.now c.in-Ok.copy.items c.in-Err-default-Doc.field-0-1-0 (c.in-Ok.ensures.items_if_clones_equal (λ x y e. e)) c.requires.accepted
    (c.in-Err-default-Doc.ensures.refused c.in-Err-default-Doc.field-0-1-0 c.in-Err-default-Doc.field-0-1-is)
