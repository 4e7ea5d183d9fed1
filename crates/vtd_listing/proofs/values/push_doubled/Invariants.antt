use Rattle.std.proofs.Common.{◌≡◌, ◌++◌, length}
use Rattle.std.specs.List.{flat_map}
use Rattle.vtd_listing.specs.Escapes.{doubled_char}
use Rattle.vtd_listing.proofs.values.push_doubled.Given as goal

-- what is added so far is before what is left of the text, as it is written
abbrev pub invariant-loop-before : goal.invariant-loop-before
invariant-loop-before l = l.line.items ++ flat_map doubled_char l.rest ≡ l.fn.line.items ++ flat_map doubled_char l.fn.text

abbrev pub decreases-loop-before : goal.decreases-loop-before
decreases-loop-before l = length l.rest
