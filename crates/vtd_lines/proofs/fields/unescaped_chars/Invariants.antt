use Rattle.std.proofs.Common.{◌≡◌, ◌++◌, length, option_map}
use Rattle.vtd_lines.specs.Fields.{unescaped}
use Rattle.vtd_lines.proofs.fields.unescaped_chars.Given as goal

-- what the characters so far stand for is before what those that are left do
abbrev pub invariant-loop-rest : goal.invariant-loop-rest
invariant-loop-rest l = unescaped l.fn.field ≡ option_map (λ cs. l.text.items ++ cs) (unescaped l.rest)

abbrev pub decreases-loop-rest : goal.decreases-loop-rest
decreases-loop-rest l = length l.rest
