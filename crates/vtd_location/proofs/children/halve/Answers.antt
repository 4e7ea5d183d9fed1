use Rattle.std.proofs.Common.{◌≡◌, ◌+◌, ◌-◌, ◌/◌, ◌<◌, ◌≤◌, ◌∙◌, ap, arith, length, refl, slice_index, sym}
use Rattle.vtd_words.specs.Lists.{list_of}
use Rattle.vtd_location.specs.Children.{entry_record, entry_records}
use Rattle.vtd_location.proofs.ChildLemmas.{entry_at}
use Rattle.vtd_location.proofs.SearchLemmas.{search_higher, search_lower}
use Rattle.vtd_location.proofs.children.halve.Goals as goal

pub returns-then-entry_record-wanted-clause-on : goal.returns-then-entry_record-wanted-clause-on
returns-then-entry_record-wanted-clause-on g c = λ start s.
    let lists = c.args.meter.now.lists in
    let part = c.args.part in
    let middle = c.args.range.low + (c.args.range.high - c.args.range.low) / 2 in
    let within : middle < length (list_of part lists) = omega (arith, c.requires.some, c.requires.within) in
    let value : c.entry_record.result ≡ slice_index (entry_records part lists) middle =
    c.entry_record.ensures ∙ ap (entry_record part) c.word.ensures.value ∙ sym (entry_at part lists middle within) in
    let below : slice_index (entry_records part lists) middle < c.args.wanted = omega (arith, value, c.if-entry_record-wanted.true) in
    search_higher (entry_records part lists) c.args.wanted start c.args.meter.now.reads c.word.new.self.reads c.args.range.low c.args.range.high middle
    c.requires.sorted c.requires.some refl below (omega (arith, c.word.ensures.reads)) s

pub returns-else-entry_record-wanted-clause-on : goal.returns-else-entry_record-wanted-clause-on
returns-else-entry_record-wanted-clause-on g c = λ start s.
    let lists = c.args.meter.now.lists in
    let part = c.args.part in
    let middle = c.args.range.low + (c.args.range.high - c.args.range.low) / 2 in
    let within : middle < length (list_of part lists) = omega (arith, c.requires.some, c.requires.within) in
    let value : c.entry_record.result ≡ slice_index (entry_records part lists) middle =
    c.entry_record.ensures ∙ ap (entry_record part) c.word.ensures.value ∙ sym (entry_at part lists middle within) in
    let above : c.args.wanted ≤ slice_index (entry_records part lists) middle = omega (arith, value, c.if-entry_record-wanted.false) in
    search_lower (entry_records part lists) c.args.wanted start c.args.meter.now.reads c.word.new.self.reads c.args.range.low c.args.range.high middle
    c.requires.sorted c.requires.some refl above (omega (arith, c.word.ensures.reads)) s
