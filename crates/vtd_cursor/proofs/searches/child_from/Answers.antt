use Rattle.std.proofs.Common.{◌∙◌, sym, arith}
use Rattle.xml_model.specs.Laws.{is_child_thing}
use Rattle.xml_model.specs.Scan.{is_within}
use Rattle.vtd_cursor.proofs.SearchLemmas.{lower_stops, higher_passes, child_pass, stop_from, found_from, on_from, end_from_there}
use Rattle.vtd_words.proofs.Nodes.{record_shown, level_shown, indexes_within}
use Rattle.xml_model.proofs.Inside.{levels_shown}
use Rattle.vtd_cursor.proofs.searches.child_from.Goals as goal

pub child_of_level-requires-clause-parts : goal.child_of_level-requires-clause-parts
child_of_level-requires-clause-parts g c = rw c.words-words.ensures.value at c.parts_at-parts.ensures.parts

pub child_of_level-requires-clause-shown : goal.child_of_level-requires-clause-shown
child_of_level-requires-clause-shown g c = λ nest s.
    record_shown _ _ c.words-words.ensures.table.few c.loop-at.at c.parts_at-parts.result
    (rw c.words-words.ensures.value at c.parts_at-parts.ensures.parts) nest s

pub returns-then-found-level-clause-first : goal.returns-then-found-level-clause-first
returns-then-found-level-clause-first g c = λ nest s.
    let found = level_shown _ _ c.words-words.ensures.table.few c.loop-at.at c.level_of-found.result c.parts_at-parts.result
    (rw c.words-words.ensures.value at c.parts_at-parts.ensures.parts) c.level_of-found.ensures nest s in
    stop_from (is_within c.args.level) is_child_thing c.args.level _ _ c.args.from c.loop-at.at c.loop-at.auto.at (c.loop-at.invariant nest s)
    (child_pass _ _ nest s c.args.level)
    (lower_stops c.args.table.now.bytes nest c.args.level c.level_of-found.result c.loop-at.at found c.if-found-level.true)

pub returns-in-Some-clause-first : goal.returns-in-Some-clause-first
returns-in-Some-clause-first g c = λ nest s.
    let found = level_shown _ _ c.words-words.ensures.table.few c.loop-at.at c.level_of-found.result c.parts_at-parts.result
    (rw c.words-words.ensures.value at c.parts_at-parts.ensures.parts) c.level_of-found.ensures nest s in
    let node = (rw c.in-Some.is at c.child_of_level.ensures.at) nest s in
    found_from (is_within c.args.level) is_child_thing c.args.level _ _ c.args.from c.loop-at.at c.in-Some.node c.loop-at.auto.at
    (c.loop-at.invariant nest s) (levels_shown nest _ s.accepted.document.nests) (sym found ∙ c.level_of-found.ensures ∙ node.0) node.1

pub loop-at-preserved : goal.loop-at-preserved
loop-at-preserved g c = λ nest s.
    let found = level_shown _ _ c.words-words.ensures.table.few c.loop-at.at c.level_of-found.result c.parts_at-parts.result
    (rw c.words-words.ensures.value at c.parts_at-parts.ensures.parts) c.level_of-found.ensures nest s in
    on_from (is_within c.args.level) is_child_thing c.args.level _ _ c.args.from c.loop-at.at (c.loop-at.invariant nest s)
    (higher_passes c.args.table.now.bytes nest c.args.level c.level_of-found.result c.loop-at.at found c.if-found-level.false)
    ((rw c.in_default.is at c.child_of_level.ensures.at) nest s)

pub returns-clause-first : goal.returns-clause-first
returns-clause-first g c = λ nest s.
    let many = rw c.words-words.ensures.value at c.len-at-end.ensures in
    end_from_there (is_within c.args.level) is_child_thing c.args.level _ _ c.args.from c.loop-at.at (c.loop-at.invariant nest s)
    (indexes_within _ _ c.words-words.ensures.table.few nest s c.loop-at.at (omega (arith, many, c.loop-at-test.false)))
