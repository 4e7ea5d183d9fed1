use Rattle.std.proofs.Common.{◌≡◌, ◌+◌, drop}
use Rattle.std.specs.List.{prefix_len}
use Rattle.xml_chars.specs.Wide.{is_ascii_name}
use Rattle.xml_chars.proofs.names.ascii_name_len.Given as goal

abbrev pub invariant-loop-i : goal.invariant-loop-i
invariant-loop-i l = l.i + prefix_len is_ascii_name (drop l.i l.bytes) ≡ prefix_len is_ascii_name l.bytes
