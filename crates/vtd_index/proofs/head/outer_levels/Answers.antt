use Rattle.std.proofs.Common.{arith}
use Rattle.vtd_index.proofs.Heads.{is_head}
use Rattle.vtd_index.proofs.head.outer_levels.Goals as goal

pub part-requires-3 : goal.part-requires-3
part-requires-3 c = let h = is_head c.args.file.now c.args.head.now c.requires in omega (arith, h.fills, c.records_start.ensures)
