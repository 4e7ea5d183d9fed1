use Rattle.std.proofs.Common.{◌≡◌, ◌<◌, ◌^◌, take, fold}
use Rattle.vtd_text.specs.Fingerprints.{mixed}
use Rattle.vtd_text.proofs.fingerprints.mix_bytes.Given as goal

abbrev pub invariant-loop-byte : goal.invariant-loop-byte
invariant-loop-byte l = (l.fingerprint ≡ fold mixed l.before (take l.byte-index l.bytes)) × (l.fingerprint < 2 ^ 32)
