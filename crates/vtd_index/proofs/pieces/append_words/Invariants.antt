use Rattle.std.proofs.Common.{◌-◌}
use Rattle.vtd_words.specs.Lists.{list_of}
use Rattle.vtd_index.specs.Sending.{Sent}
use Rattle.vtd_index.proofs.pieces.append_words.Given as goal

abbrev pub invariant-loop-at : goal.invariant-loop-at
invariant-loop-at g l = Sent (g.F.Files.seen l.fn.files) (g.F.Files.seen l.files) l.size (list_of l.part (g.W.Words.lists l.words)) l.at

abbrev pub decreases-loop-at : goal.decreases-loop-at
decreases-loop-at g l = l.len - l.at
