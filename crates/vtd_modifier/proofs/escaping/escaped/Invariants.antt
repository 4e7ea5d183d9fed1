use Rattle.std.proofs.Common.{◌≡◌, take}
use Rattle.vtd_modifier.specs.Escapes.{escaped}
use Rattle.vtd_modifier.proofs.escaping.escaped.Given as goal

abbrev pub invariant-loop-byte : goal.invariant-loop-byte
invariant-loop-byte l = l.held.items ≡ escaped l.escape (take l.byte-index l.text)
