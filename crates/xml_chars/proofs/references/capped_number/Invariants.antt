use Rattle.std.proofs.Common.{◌≡◌, ◌≤◌, drop}
use Rattle.xml_chars.specs.Numbers.{capped_from}
use Rattle.xml_chars.proofs.references.capped_number.Given as goal

abbrev pub invariant-loop-b : goal.invariant-loop-b
invariant-loop-b l = record { same : capped_from l.base l.number (drop l.b-index l.digits) ≡ capped_from l.base 0 l.digits; small : l.number ≤ 0x11_0000 }
