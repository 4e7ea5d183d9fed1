use Rattle.std.proofs.Common.{◌≡◌, drop}
use Rattle.xml_model.specs.Chars.{begins}
use Rattle.xml_chars.proofs.text.begins_with.Given as goal

abbrev pub invariant-loop-wanted : goal.invariant-loop-wanted
invariant-loop-wanted l = begins (drop l.wanted-index l.mark) l.rest ≡ begins l.mark l.bytes
