use Rattle.std.proofs.Common.{arith}
use Rattle.vtd_words.proofs.Shown.{shown_length}
use Rattle.vtd_namespaces.proofs.UndeclaredLemmas.{none_after}
use Rattle.vtd_namespaces.proofs.declarations.declarations_end.Goals as goal

pub loop-at-init : goal.loop-at-init
loop-at-init g c = λ rs s. none_after rs c.len-records.result (omega (arith, c.len-records.ensures, shown_length _ rs s))
