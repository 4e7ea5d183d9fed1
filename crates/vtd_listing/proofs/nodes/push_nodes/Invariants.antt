use Rattle.std.proofs.Common.{◌≡◌, ◌++◌, drop}
use Rattle.vtd_listing.specs.Nodes.{paired_lines}
use Rattle.vtd_listing.proofs.nodes.push_nodes.Given as goal

-- what is added so far is before the lines of the pairs that are left
abbrev pub invariant-loop-i : goal.invariant-loop-i
invariant-loop-i l = l.lines.items ++ paired_lines (drop l.i l.nodes) (drop l.i l.spans) ≡ l.fn.lines.items ++ paired_lines l.nodes l.spans
