use Rattle.std.proofs.Common.{◌≡◌, ◌++◌, take, length, codes}
use Rattle.std.specs.List.{flat_map}
use Rattle.std.specs.Fmt.{decimal}
use Rattle.vtd_listing.specs.Listing.{element_line, line_feed}
use Rattle.vtd_listing.proofs.elements.span_lines.Given as goal

-- the lines of the spans so far are after the first
abbrev pub invariant-loop-span : goal.invariant-loop-span
invariant-loop-span l = l.lines.items ≡ codes "nodes " ++ decimal (length l.spans) ++ line_feed ++ flat_map element_line (take l.span-index l.spans)
