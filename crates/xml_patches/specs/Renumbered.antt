-- Indexes of records, where some records were exchanged for others.
use Rattle.std.specs.Prelude.{ℕ, ◌+◌, ◌-◌, Bool, cond, not, List, nat_lt}
use Rattle.std.specs.List.{list_all}
use Rattle.xml_model.specs.Records.{Record}
use Rattle.xml_model.specs.Levels.{is_tag}

-- an index, where the records from one on were so many and are so many
abbrev pub renumbered : ℕ → ℕ → ℕ → ℕ → ℕ
renumbered first were are n = cond (nat_lt n first) n (n - were + are)

-- an entry of a level with its index renumbered
abbrev pub renumbered_entry : ℕ → ℕ → ℕ → ℕ × ℕ → ℕ × ℕ
renumbered_entry first were are e = (renumbered first were are e.0, e.1)

-- no record is a starting tag's
abbrev pub is_tagless : List Record → Bool
is_tagless rs = list_all (λ r. not (is_tag r)) rs
