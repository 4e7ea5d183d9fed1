use Rattle.std.proofs.Common.{arith}
use Rattle.vtd_words.specs.Packed.{record_of}
use Rattle.vtd_text.proofs.PlainLemmas.{row_below}
use Rattle.vtd_text.proofs.slices.ends.Goals as goal

pub returns-clause-ended : goal.returns-clause-ended
returns-clause-ended g c = λ below rs s. row_below _ c.args.at c.args.end (record_of c.parts_at.result) c.level_of.result (omega (arith, c.if-at-end.false)) c.requires c.parts_at.ensures.parts c.level_of.ensures below rs s
