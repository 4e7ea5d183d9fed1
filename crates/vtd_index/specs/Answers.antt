-- What callers read: what checking an index file and opening one answer (this project's own).
use Rattle.std.specs.Prelude.{◌≡◌, ℕ, List, Option, Some, None, Result, Ok, Err}
use Rattle.vtd_builder.specs.Documents.{Document}
use Rattle.vtd_index.specs.declared.checking.Checked.{Checked}
use Rattle.vtd_index.specs.declared.checking.Checked.TheVariants as checked
use Rattle.vtd_index.specs.declared.faults.IndexFault.{IndexFault}
use Rattle.vtd_index.specs.declared.head.Version.{Version}
use Rattle.vtd_index.specs.declared.head.Version.TheVariants.{One, Two}
use Rattle.vtd_index.specs.Index.{IsIndexOf, IsIndexOneOf}
use Rattle.vtd_index.specs.Loading.{held_in, IsLoaded}

-- what is in a file of the second version: its document and its words, where its head has them
pub record IsView (file : List ℕ) (held : Document) : Type 0 where
  pub parts : held ≡ held_in file
  pub index : IsIndexOf file held.bytes
  pub loaded : IsLoaded file

-- what a check of a file hands out
abbrev pub IsChecked : List ℕ → Checked → Type 0
IsChecked file (checked.One bytes) = IsIndexOneOf file bytes.now
IsChecked file (checked.Two parts) = IsView file parts

-- the version of what it hands out
abbrev pub version_of : Checked → Version
version_of (checked.One bytes) = One
version_of (checked.Two parts) = Two

abbrev pub checked_version : Result Checked IndexFault → Option Version
checked_version (Ok held) = Some (version_of held)
checked_version (Err fault) = None
