use Rattle.std.proofs.Common.{◌<◌, ◌∙◌, ap, arith, length}
use Rattle.vtd_words.specs.Lists.{list_of}
use Rattle.vtd_location.specs.Children.{entry_record}
use Rattle.vtd_location.proofs.ChildLemmas.{next_some, next_past}
use Rattle.vtd_location.proofs.children.ahead.Goals as goal

pub returns-then-found-bound-clause-some : goal.returns-then-found-bound-clause-some
returns-then-found-bound-clause-some g c =
    let within : c.args.at < length (list_of c.args.part c.args.meter.now.lists) = omega (arith, c.if-at-len.false, c.len.ensures) in
    let value = c.entry_record-found.ensures ∙ ap (entry_record c.args.part) c.word.ensures.value in
    next_some c.args.part c.args.meter.now.lists c.args.at c.args.bound c.entry_record-found.result within value c.if-found-bound.true

pub returns-else-found-bound-clause-none : goal.returns-else-found-bound-clause-none
returns-else-found-bound-clause-none g c =
    let within : c.args.at < length (list_of c.args.part c.args.meter.now.lists) = omega (arith, c.if-at-len.false, c.len.ensures) in
    let value = c.entry_record-found.ensures ∙ ap (entry_record c.args.part) c.word.ensures.value in
    next_past c.args.part c.args.meter.now.lists c.args.at c.args.bound c.entry_record-found.result within value c.if-found-bound.false
