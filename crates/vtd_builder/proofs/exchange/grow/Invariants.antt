use Rattle.std.proofs.Common.{◌≡◌, ◌≤◌, ◌+◌, ◌++◌, replicate, vec_len, vec_capacity}
use Rattle.vtd_builder.proofs.exchange.grow.Given as goal

abbrev pub invariant-loop : goal.invariant-loop
invariant-loop l = record {
  items : l.items.items ≡ l.initial.items.items ++ replicate l.counter 0;
  len : vec_len l.items ≡ vec_len l.initial.items + l.counter;
  capacity : vec_capacity l.initial.items ≤ vec_capacity l.items;
}
