-- How long the generated document is.
use Rattle.std.proofs.Common.{ℕ, zero, suc, ◌+◌, ◌*◌, ◌%◌, ◌^◌, ◌<◌, ◌≤◌, length, length-append, arith}
use Rattle.std.specs.Fmt.{decimal}
use Rattle.std.proofs.lemmas.Fmt.{length-decimal-le}
use Rattle.vtd_generator.specs.Generated.{generated, item, order, orders}

item_size : (n : ℕ) → length (item n) ≤ 33
unfolding item
item_size n =
    let quantity : length (decimal (n % 7)) ≤ 1 = length-decimal-le 1 (n % 7) (omega arith) (omega arith) (omega arith) in
    let text : length (decimal ((7 * n) % 100)) ≤ 2 = length-decimal-le 2 ((7 * n) % 100) (omega arith) (omega arith) (omega arith) in
    simp length-append (omega arith)

order_size : (n : ℕ) → n < 2 ^ 32 → length (order n) ≤ 53
unfolding order
order_size n h =
    let number : length (decimal n) ≤ 10 = length-decimal-le 10 n (omega arith) (omega arith) (omega arith) in
    let rest = item_size n in
    simp length-append (omega arith)

orders_size : (n : ℕ) → n < 2 ^ 32 → length (orders n) ≤ 53 * n
orders_size zero h = omega arith
orders_size (suc n) h =
    let first = orders_size n (omega arith) in
    let last = order_size (suc n) h in
    simp length-append (omega arith)

pub generated_size : (n : ℕ) → n < 2 ^ 32 → length (generated n) ≤ 53 * n + 17
unfolding generated
generated_size n h =
    let inner = orders_size n h in
    simp length-append (omega arith)
