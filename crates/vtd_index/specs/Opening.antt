-- What callers read: what opening an index file answers (this project's own).
use Rattle.std.specs.Prelude.{ℕ, List, Option, Some, None, Result, Ok, Err}
use Rattle.vtd_builder.specs.Documents.{Document, IsDoc}
use Rattle.vtd_index.specs.declared.head.Version.{Version}
use Rattle.vtd_index.specs.declared.head.Version.TheVariants.{One, Two}
use Rattle.vtd_index.specs.declared.opening.LoadFault.{LoadFault}
use Rattle.vtd_index.specs.declared.opening.LoadFault.TheVariants as loads
use Rattle.vtd_index.specs.declared.opening.Opened.{Opened}
use Rattle.vtd_index.specs.declared.opening.Opened.TheVariants as opens
use Rattle.vtd_index.specs.Answers.{IsView}
use Rattle.vtd_index.specs.Index.{IsFault, IsFileBy, IsIndexOneOf}

-- the document of a file of the first version, with its words
pub record IsCopy (file : List ℕ) (held : Document) : Type 0 where
  pub index : IsIndexOneOf file held.bytes
  pub document : IsDoc held.bytes held.words

-- what an index file opens to
abbrev pub IsOpened : List ℕ → Opened → Type 0
IsOpened file (opens.View loaded) = IsView file loaded
IsOpened file (opens.Built doc) = IsCopy file doc

-- the version of the file that was opened
abbrev pub version_of : Opened → Version
version_of (opens.View loaded) = Two
version_of (opens.Built doc) = One

abbrev pub opened_version : {E : Type 0} → Result Opened E → Option Version
opened_version (Ok held) = Some (version_of held)
opened_version (Err fault) = None

-- why a file is not opened
abbrev pub IsLoadFault : List ℕ → LoadFault → Type 0
IsLoadFault file (loads.Index fault) = IsFault file fault
IsLoadFault file loads.NoMemory = IsFileBy One file

-- what is built of a file: the document of one of the first version, and nothing of one of the second
abbrev pub IsBuilt : List ℕ → Result (Option Document) LoadFault → Type 0
IsBuilt file (Ok (Some doc)) = IsCopy file doc
IsBuilt file (Ok None) = IsFileBy Two file
IsBuilt file (Err fault) = IsLoadFault file fault
