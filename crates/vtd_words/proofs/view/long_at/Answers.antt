use Rattle.std.proofs.Common.{◌<◌, ◌/◌, arith, length, sym, ◌∙◌}
use Rattle.vtd_words.proofs.Numbered.{length_words, at_words}
use Rattle.vtd_words.proofs.view.long_at.Goals as goal

pub long_from-requires : goal.long_from-requires
long_from-requires c = omega (arith, length_words 8 c.args.bytes.now)

pub returns : goal.returns
returns c =
    let low : c.args.at < length c.args.bytes.now / 8 = omega (arith, length_words 8 c.args.bytes.now) in
    c.long_from.ensures ∙ sym (at_words 8 c.args.bytes.now c.args.at low)
