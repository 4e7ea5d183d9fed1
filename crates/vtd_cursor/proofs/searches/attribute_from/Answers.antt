use Rattle.std.proofs.Common.{◌∙◌, sym, arith, ap}
use Rattle.xml_model.specs.Laws.{is_attribute_thing}
use Rattle.xml_model.specs.Scan.{is_attribute_part}
use Rattle.vtd_cursor.proofs.SearchLemmas.{attribute_pass, stop_from, attribute_found, on_from, end_from_there, none_of_level}
use Rattle.vtd_words.proofs.Nodes.{record_shown, indexes_within}
use Rattle.vtd_cursor.proofs.searches.attribute_from.Goals as goal

pub returns-then-not-is_attribute_part-clause-first : goal.returns-then-not-is_attribute_part-clause-first
returns-then-not-is_attribute_part-clause-first g c = λ nest s.
    let found = record_shown _ _ c.words-words.ensures.table.few c.loop-at.at c.parts_at-parts.result
    (rw c.words-words.ensures.value at c.parts_at-parts.ensures.parts) nest s in
    stop_from (is_attribute_part c.args.level) is_attribute_thing c.args.level _ _ c.args.from c.loop-at.at c.loop-at.auto.at
    (c.loop-at.invariant nest s) (attribute_pass _ _ nest s c.args.level)
    (ap (is_attribute_part c.args.level) (sym found) ∙ sym c.is_attribute_part.ensures ∙ c.if-not-is_attribute_part.true)

pub returns-in-Some-clause-first : goal.returns-in-Some-clause-first
returns-in-Some-clause-first g c = λ nest s.
    let found = record_shown _ _ c.words-words.ensures.table.few c.loop-at.at c.parts_at-parts.result
    (rw c.words-words.ensures.value at c.parts_at-parts.ensures.parts) nest s in
    attribute_found _ _ nest s c.args.level c.args.from c.loop-at.at c.in-Some.node c.loop-at.auto.at (c.loop-at.invariant nest s)
    (ap (is_attribute_part c.args.level) (sym found) ∙ sym c.is_attribute_part.ensures ∙ c.if-not-is_attribute_part.false)
    ((rw c.in-Some.is at c.attribute_at.ensures.at) nest s)

pub loop-at-preserved : goal.loop-at-preserved
loop-at-preserved g c = λ nest s.
    let found = record_shown _ _ c.words-words.ensures.table.few c.loop-at.at c.parts_at-parts.result
    (rw c.words-words.ensures.value at c.parts_at-parts.ensures.parts) nest s in
    on_from (is_attribute_part c.args.level) is_attribute_thing c.args.level _ _ c.args.from c.loop-at.at (c.loop-at.invariant nest s)
    (ap (is_attribute_part c.args.level) (sym found) ∙ sym c.is_attribute_part.ensures ∙ c.if-not-is_attribute_part.false)
    (none_of_level is_attribute_thing c.args.level _ c.loop-at.at ((rw c.in_default.is at c.attribute_at.ensures.at) nest s))

pub returns-clause-first : goal.returns-clause-first
returns-clause-first g c = λ nest s.
    let many = rw c.words-words.ensures.value at c.len-at-end.ensures in
    end_from_there (is_attribute_part c.args.level) is_attribute_thing c.args.level _ _ c.args.from c.loop-at.at (c.loop-at.invariant nest s)
    (indexes_within _ _ c.words-words.ensures.table.few nest s c.loop-at.at (omega (arith, many, c.loop-at-test.false)))
