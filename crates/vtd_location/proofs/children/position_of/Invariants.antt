use Rattle.std.proofs.Common.{◌≡◌, ◌-◌, ◌≤◌, length}
use Rattle.vtd_location.specs.Children.{Searching, entry_records}
use Rattle.vtd_words.specs.Lists.{list_of}
use Rattle.vtd_location.proofs.children.position_of.Given as goal

abbrev pub invariant-search : goal.invariant-search
invariant-search g l = record {
  lists : l.meter.lists ≡ l.initial.meter.lists;
  within : l.range.high ≤ length (list_of l.part l.initial.meter.lists);
  searching : Searching (entry_records l.part l.initial.meter.lists) l.wanted l.initial.meter.reads l.meter.reads l.range.low l.range.high;
}

abbrev pub decreases-search : goal.decreases-search
decreases-search g l = l.range.high - l.range.low
