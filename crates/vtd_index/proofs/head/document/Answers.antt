use Rattle.std.proofs.Common.{arith}
use Rattle.vtd_index.proofs.Heads.{is_head}
use Rattle.vtd_index.proofs.head.document.Goals as goal

pub part-requires : goal.part-requires
part-requires c = let h = is_head c.args.file.now c.args.head.now c.requires in omega (arith, h.fills, c.document_start.ensures.value)
