use Rattle.std.proofs.Common.{◌≡◌, ℕ, length}
use Rattle.std.specs.BTreeMap.{get}
use Rattle.std.specs.Ordering.{nat_cmp}
use Rattle.std.specs.Str.{chars}
use denote.Shadow.{shadow}
use denote.Text.{Utf8}
use Rattle.xpath_values.specs.Translating.{becomes, noted}
use Rattle.xpath_values.proofs.translating.changes.Given as goal

abbrev pub invariant-loop-c : goal.invariant-loop-c
invariant-loop-c l = record {
  same : (c : ℕ) → noted (get nat_cmp l.found c) (becomes (chars l.left) (chars l.there) c) ≡ becomes (chars l.fn.from) (chars l.fn.to) c;
  text : shadow (Utf8 l.left);
  other : shadow (Utf8 l.there);
}

abbrev pub decreases-loop-c : goal.decreases-loop-c
decreases-loop-c l = length l.left
