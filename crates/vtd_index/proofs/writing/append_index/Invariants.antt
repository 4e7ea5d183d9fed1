use Rattle.vtd_index.specs.Pieces.{Going}
use Rattle.vtd_index.proofs.writing.append_index.Given as goal

abbrev pub invariant-loop-piece : goal.invariant-loop-piece
invariant-loop-piece g l = Going (g.F.Files.seen l.fn.files) (g.F.Files.seen l.files) l.bytes (g.W.Words.lists l.words) l.piece-items l.piece-index
