use Rattle.std.proofs.Common.{◌<◌, ◌/◌, arith, length, sym, ◌∙◌}
use Rattle.vtd_words.proofs.Numbered.{length_words, at_words}
use Rattle.vtd_words.proofs.view.short_at.Goals as goal

pub short_from-requires : goal.short_from-requires
short_from-requires c = omega (arith, length_words 4 c.args.bytes.now)

pub returns : goal.returns
returns c =
    let low : c.args.at < length c.args.bytes.now / 4 = omega (arith, length_words 4 c.args.bytes.now) in
    c.short_from.ensures ∙ sym (at_words 4 c.args.bytes.now c.args.at low)
