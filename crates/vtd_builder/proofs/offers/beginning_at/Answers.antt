use Rattle.std.proofs.Common.{ap₂, ◌∙◌, arith}
use Rattle.vtd_builder.specs.Cuts.{beginning_by}
use Rattle.vtd_builder.proofs.Beginnings.{beginning_known}
use Rattle.vtd_builder.proofs.offers.beginning_at.Goals as goal

pub returns : goal.returns
returns c = λ i h. c.beginning_by.ensures ∙ ap₂ beginning_by c.byte_at.ensures c.byte_at-2.ensures ∙ beginning_known i c.args.bytes.now c.args.at (omega arith) h
