use Rattle.std.proofs.Common.{◌≡◌, ◌<◌, ◌^◌, length, fold}
use Rattle.vtd_text.specs.Fingerprints.{mixed}
use Rattle.vtd_text.proofs.fingerprints.mix_chars.Given as goal

abbrev pub invariant-loop-c : goal.invariant-loop-c
invariant-loop-c g l = record { same : fold mixed l.fingerprint l.left ≡ fold mixed 0 l.fn.chars; fits : l.fingerprint < 2 ^ 32 }

abbrev pub decreases-loop-c : goal.decreases-loop-c
decreases-loop-c g l = length l.left
