use Rattle.std.proofs.Common.{◌≡◌, ◌++◌, codes}
use Rattle.vtd_generator.specs.Generated.{orders}
use Rattle.vtd_generator.proofs.generated_document.Given as goal

abbrev pub invariant-loop-number : goal.invariant-loop-number
invariant-loop-number l = l.document.items ≡ codes "<orders>" ++ orders l.number
