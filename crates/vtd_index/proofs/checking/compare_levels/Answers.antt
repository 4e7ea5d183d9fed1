use Rattle.vtd_index.proofs.Heads.{is_head, can_view}
use Rattle.vtd_index.proofs.Checks.{levels_lie, on_ok, same_one, same_two}
use Rattle.vtd_index.proofs.checking.compare_levels.Goals as goal

pub check_levels_one-requires-clause-level1 : goal.check_levels_one-requires-clause-level1
check_levels_one-requires-clause-level1 c =
    let h = is_head c.args.file.now c.args.head.now c.requires.head in
    rw c.outer_levels.ensures.one (can_view c.args.file.now c.args.head.now h c.requires.few).level1

pub check_levels_one-requires-clause-level2 : goal.check_levels_one-requires-clause-level2
check_levels_one-requires-clause-level2 c =
    let h = is_head c.args.file.now c.args.head.now c.requires.head in
    rw c.outer_levels.ensures.two (can_view c.args.file.now c.args.head.now h c.requires.few).level2

pub check_levels_one-requires-clause-level3 : goal.check_levels_one-requires-clause-level3
check_levels_one-requires-clause-level3 c =
    let h = is_head c.args.file.now c.args.head.now c.requires.head in
    rw c.outer_levels.ensures.last (can_view c.args.file.now c.args.head.now h c.requires.few).level5

pub returns-in-One-clause-same : goal.returns-in-One-clause-same
returns-in-One-clause-same c =
    let lie = levels_lie c.args.file.now c.args.head.now c.args.words.now c.outer_levels.result.0.now c.outer_levels.result.1.now
    c.outer_levels.result.2.now c.requires.words c.outer_levels.ensures.one c.outer_levels.ensures.two c.outer_levels.ensures.last in
    on_ok c.check_levels_one.result _ _ c.check_levels_one.ensures.same
    (λ same rs s. same_one c.args.head.now.version c.args.words.now rs _ c.in-One.is lie (same rs s))

pub returns-in-Two-clause-same : goal.returns-in-Two-clause-same
returns-in-Two-clause-same c =
    on_ok c.check_levels.result _ _ c.check_levels.ensures.same
    (λ same rs s. same_two c.args.head.now.version c.args.words.now rs c.in-Two.is (same rs s))
