-- Words that are read with a count (this project's own).
use Rattle.std.specs.Prelude.{ℕ, ◌+◌, ◌-◌, ◌^◌, min}
use Rattle.vtd_words.specs.Lists.{Lists}

-- what a meter is: the lists that it reads, and how many words it has read
pub record Metered : Type 0 where
  pub lists : Lists
  pub reads : ℕ

-- one read more, of at most so many as 64 bits count
abbrev pub one_read : ℕ → ℕ
one_read reads = min (reads + 1) (2 ^ 64 - 1)
