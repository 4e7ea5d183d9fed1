use Rattle.std.proofs.Common.{◌≡◌, ◌++◌, length}
use Rattle.std.specs.List.{flat_map}
use Rattle.vtd_listing.specs.Escapes.{escaped_char}
use Rattle.vtd_listing.proofs.values.push_escaped.Given as goal

-- what is added so far is before what is left of the text, as it is written
abbrev pub invariant-loop-before : goal.invariant-loop-before
invariant-loop-before l = l.line.items ++ flat_map escaped_char l.rest ≡ l.fn.line.items ++ flat_map escaped_char l.fn.text

abbrev pub decreases-loop-before : goal.decreases-loop-before
decreases-loop-before l = length l.rest
