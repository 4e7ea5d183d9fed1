-- A fingerprint filter (this project's own): a table of buckets of slots, where each key has one bucket and a mark in
-- one of its slots, and keys may share both.
use Rattle.std.specs.Prelude.{ℕ, ◌+◌, ◌*◌, ◌%◌, ◌/◌, ◌^◌, ◌==◌, ◌||◌, Bool, List, fold, take, drop}
use Rattle.std.specs.List.{list_any}

-- a key's fingerprint of 32 bits, from that of its bytes, or code points, before the last
abbrev pub mixed : ℕ → ℕ → ℕ
mixed sum byte = (sum * 0x9E37_79B1 + byte) % 2 ^ 32

-- the bucket of a key: the upper bits of its fingerprint with one byte more, so that the last byte says too
abbrev pub bucket_of : List ℕ → ℕ
bucket_of key = mixed (fold mixed 0 key) 0 / 2 ^ 19

-- the mark of a key in its bucket: from 1 to 65,521
abbrev pub mark_of : List ℕ → ℕ
mark_of key = fold mixed 0 key % 65_521 + 1

-- whether what a slot holds stands for a mark: it is that mark, or it stands for all marks
abbrev pub is_mark_for : ℕ → ℕ → Bool
is_mark_for mark held = held == mark || held == 65_535

-- the sixteen slots of a bucket
abbrev pub in_bucket : ℕ → List ℕ → List ℕ
in_bucket bucket slots = take 16 (drop (16 * bucket) slots)

-- whether a key may have been noted: where not, no key that is the same was
abbrev pub is_taken : List ℕ → List ℕ → Bool
is_taken slots key = list_any (is_mark_for (mark_of key)) (in_bucket (bucket_of key) slots)
