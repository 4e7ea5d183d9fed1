use Rattle.std.proofs.lemmas.Str.{IsCharBoundary-start}
use Rattle.speed.proofs.items.count_items.Goals as goal

pub loop-init : goal.loop-init
loop-init c = IsCharBoundary-start c.args.bytes.now c.requires.utf8
