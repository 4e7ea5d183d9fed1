-- Words in six slices of bytes (this project's own): the records and levels 1 to 4 have 8 bytes a word, level 5 has 4.
use Rattle.std.specs.Prelude.{ℕ, List}
use Rattle.vtd_words.specs.Lists.{Lists}
use Rattle.vtd_words.specs.Numbers.{AreWords, words_in}

-- the lists in six slices
abbrev pub lists_in : List ℕ → List ℕ → List ℕ → List ℕ → List ℕ → List ℕ → Lists
lists_in records level1 level2 level3 level4 level5 = record {
  records = words_in 8 records;
  level1 = words_in 8 level1;
  level2 = words_in 8 level2;
  level3 = words_in 8 level3;
  level4 = words_in 8 level4;
  level5 = words_in 4 level5;
}

-- six slices hold whole words, no more of each than 32 bits count
pub record CanView (rs l1 l2 l3 l4 l5 : List ℕ) : Type 0 where
  pub records : AreWords 8 rs
  pub level1 : AreWords 8 l1
  pub level2 : AreWords 8 l2
  pub level3 : AreWords 8 l3
  pub level4 : AreWords 8 l4
  pub level5 : AreWords 4 l5
