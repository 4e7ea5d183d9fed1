use Rattle.std.proofs.Common.{ap, sym, ◌∙◌}
use Rattle.xml_model.specs.Scan.{level_of}
use Rattle.xml_model.specs.Laws.{is_child_thing}
use Rattle.vtd_cursor.proofs.SearchLemmas.{other_level, this_level}
use Rattle.vtd_cursor.proofs.searches.child_of_level.Goals as goal

pub returns-then-found-level-clause-at : goal.returns-then-found-level-clause-at
returns-then-found-level-clause-at g c = λ nest s. other_level _ _ nest s is_child_thing c.args.level _ c.args.at (ap level_of
    (c.requires.shown nest s)) (λ e. c.if-found-level.true (c.level_of-found.ensures ∙ e))

pub returns-clause-at : goal.returns-clause-at
returns-clause-at g c = λ nest s. this_level is_child_thing c.args.level _ _ c.args.at c.child_at.result (sym c.level_of-found.ensures
    ∙ c.if-found-level.false) (c.child_at.ensures.at nest s)
