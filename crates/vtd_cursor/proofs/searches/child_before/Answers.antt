use Rattle.std.proofs.Common.{◌∙◌, ◌-◌, sym, arith}
use Rattle.xml_model.specs.Laws.{is_child_thing}
use Rattle.xml_model.specs.Scan.{is_within}
use Rattle.vtd_cursor.proofs.SearchLemmas.{lower_stops, higher_passes, child_pass, stop_before, found_before, on_before, before_again, end_before_there}
use Rattle.vtd_words.proofs.Nodes.{record_shown, level_shown}
use Rattle.xml_model.proofs.Inside.{levels_shown}
use Rattle.vtd_cursor.proofs.searches.child_before.Goals as goal

pub child_of_level-requires-clause-parts : goal.child_of_level-requires-clause-parts
child_of_level-requires-clause-parts g c = rw c.words-words.ensures.value at c.parts_at-parts.ensures.parts

pub child_of_level-requires-clause-shown : goal.child_of_level-requires-clause-shown
child_of_level-requires-clause-shown g c = λ nest s.
    record_shown _ _ c.words-words.ensures.table.few (c.loop-at.at - 1) c.parts_at-parts.result
    (rw c.words-words.ensures.value at c.parts_at-parts.ensures.parts) nest s

pub returns-then-found-level-clause-last : goal.returns-then-found-level-clause-last
returns-then-found-level-clause-last g c = λ nest s.
    let found = level_shown _ _ c.words-words.ensures.table.few (c.loop-at.at - 1) c.level_of-found.result c.parts_at-parts.result
    (rw c.words-words.ensures.value at c.parts_at-parts.ensures.parts) c.level_of-found.ensures nest s in
    let passed = before_again (is_within c.args.level) is_child_thing c.args.level _ _ c.args.end c.loop-at.at (omega arith)
    (c.loop-at.invariant nest s) in
    stop_before (is_within c.args.level) is_child_thing c.args.level _ _ c.args.end (c.loop-at.at - 1) (omega arith) passed
    (child_pass _ _ nest s c.args.level)
    (lower_stops c.args.table.now.bytes nest c.args.level c.level_of-found.result (c.loop-at.at - 1) found c.if-found-level.true)

pub returns-in-Some-clause-last : goal.returns-in-Some-clause-last
returns-in-Some-clause-last g c = λ nest s.
    let found = level_shown _ _ c.words-words.ensures.table.few (c.loop-at.at - 1) c.level_of-found.result c.parts_at-parts.result
    (rw c.words-words.ensures.value at c.parts_at-parts.ensures.parts) c.level_of-found.ensures nest s in
    let passed = before_again (is_within c.args.level) is_child_thing c.args.level _ _ c.args.end c.loop-at.at (omega arith)
    (c.loop-at.invariant nest s) in
    let node = (rw c.in-Some.is at c.child_of_level.ensures.at) nest s in
    found_before (is_within c.args.level) is_child_thing c.args.level _ _ c.args.end (c.loop-at.at - 1) c.in-Some.node (omega arith) passed
    (levels_shown nest _ s.accepted.document.nests) (sym found ∙ c.level_of-found.ensures ∙ node.0) node.1

pub loop-at-preserved : goal.loop-at-preserved
loop-at-preserved g c = λ nest s.
    let found = level_shown _ _ c.words-words.ensures.table.few (c.loop-at.at - 1) c.level_of-found.result c.parts_at-parts.result
    (rw c.words-words.ensures.value at c.parts_at-parts.ensures.parts) c.level_of-found.ensures nest s in
    let passed = before_again (is_within c.args.level) is_child_thing c.args.level _ _ c.args.end c.loop-at.at (omega arith)
    (c.loop-at.invariant nest s) in
    on_before (is_within c.args.level) is_child_thing c.args.level _ _ c.args.end (c.loop-at.at - 1) passed
    (higher_passes c.args.table.now.bytes nest c.args.level c.level_of-found.result (c.loop-at.at - 1) found c.if-found-level.false)
    ((rw c.in_default.is at c.child_of_level.ensures.at) nest s)

pub returns-clause-last : goal.returns-clause-last
returns-clause-last g c = λ nest s. end_before_there _ _ nest s (is_within c.args.level) c.args.level c.args.end c.loop-at.at
    (c.loop-at.invariant nest s) (omega arith)
