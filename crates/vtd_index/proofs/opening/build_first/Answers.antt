use Rattle.vtd_index.proofs.opening.build_first.Goals as goal

pub returns-in-Err : goal.returns-in-Err
returns-in-Err c = (c.check_index.ensures.fault c.in-Err.fault).0 c.in-Err.is
