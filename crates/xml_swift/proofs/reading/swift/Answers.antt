use Rattle.xml_swift.proofs.ItemLemmas.{some_so, ends_there, spans_there}
use Rattle.xml_swift.proofs.reading.swift.Goals as goal

pub returns-clause-place : goal.returns-clause-place
returns-clause-place c = some_so _ _ c.common_item.result (λ x. ends_there c.args.bytes.now c.args.at x c.requires.utf8 c.requires.place) c.common_item.ensures.item

pub returns-clause-spans : goal.returns-clause-spans
returns-clause-spans c = some_so _ _ c.common_item.result (λ x. spans_there c.args.bytes.now c.args.at x c.requires.utf8 c.requires.place) c.common_item.ensures.item
