use Rattle.std.proofs.Common.{◌≡◌, ◌+◌, drop, not}
use Rattle.std.specs.List.{prefix_len}
use Rattle.vtd_text.specs.Tokens.{is_special}
use Rattle.vtd_text.specs.declared.token.Rule.TheVariants.{Value}
use Rattle.vtd_text.proofs.token.plain_value_len.Given as goal

abbrev pub invariant-loop-i : goal.invariant-loop-i
invariant-loop-i l = l.i + prefix_len (λ b. not (is_special Value b)) (drop l.i l.bytes) ≡ prefix_len (λ b. not (is_special Value b)) l.bytes
