use Rattle.std.proofs.Common.{ℕ, ◌<◌, ◌∙◌, List, ap, arith, length, sym}
use Rattle.vtd_words.specs.Lists.{list_of}
use Rattle.vtd_location.specs.Children.{entry_record, first_of}
use Rattle.vtd_location.proofs.ChildLemmas.{entry_next}
use Rattle.vtd_location.proofs.children.bound_at.Goals as goal

pub returns-then-at-len-clause-value : goal.returns-then-at-len-clause-value
returns-then-at-len-clause-value g c =
    let lists = c.args.meter.now.lists in
    let within : c.args.at < length (list_of c.args.part lists) = omega (arith, c.if-at-len.true, c.len.ensures) in
    let value = c.entry_record.ensures ∙ ap (entry_record c.args.part) c.word.ensures.value in
    value ∙ sym (ap (λ (xs : List ℕ). first_of xs (length lists.records)) (entry_next c.args.part lists c.args.at within))
