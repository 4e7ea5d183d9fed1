use Rattle.std.proofs.Common.{sym, ◌∙◌, arith}
use Rattle.vtd_builder.proofs.Passing.{end_facts}
use Rattle.vtd_builder.proofs.offers.past_end_tag.Goals as goal

pub next_byte-requires-clause-place : goal.next_byte-requires-clause-place
next_byte-requires-clause-place c =
    let t = c.requires.tag in
    (end_facts t.0 c.args.bytes.now c.args.at c.args.level c.requires.place t.1.begins t.1.kind).first

pub returns-clause-passed : goal.returns-clause-passed
returns-clause-passed c = λ i k.
    let f = end_facts i c.args.bytes.now c.args.at c.args.level c.requires.place k.begins k.kind in
    record { place = omega (arith, f.past, c.next_byte.ensures.value); inside = c.saturating_sub.ensures ∙ sym f.inside }
