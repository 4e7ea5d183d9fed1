-- Words that are added to a file (this project's own): what a private function's loop keeps.
use Rattle.std.specs.Prelude.{◌≡◌, ℕ, ◌≤◌, List, length, take, true, Ok}
use Rattle.vtd_outside.specs.declared.Failed.{Failed}
use Rattle.vtd_outside.specs.Known.{SeenFiles}
use Rattle.vtd_outside.specs.Written.{Adds}
use Rattle.vtd_words.specs.Numbers.{bytes_of}

-- the first n words were added, so many bytes each
pub record Sent (before now : SeenFiles) (size : ℕ) (words : List ℕ) (n : ℕ) : Type 0 where
  pub within : n ≤ length words
  pub adds : Adds {T = Unit {0}} {E = Failed} before now (bytes_of size (take n words)) (Ok tt)
  pub writing : now.is_writing ≡ true
