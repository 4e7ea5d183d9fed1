-- What is in an index file (this project's own): its document and its words, where they lie.
use Rattle.std.specs.Prelude.{◌≡◌, ℕ, ◌^◌, ◌<◌, List, [], length, Result, Ok, Err}
use Rattle.vtd_words.specs.Lists.{none}
use Rattle.vtd_builder.specs.Documents.{Document, IsDoc}
use Rattle.vtd_index.specs.declared.faults.IndexFault.{IndexFault}
use Rattle.vtd_index.specs.declared.head.Head.{Head}
use Rattle.vtd_index.specs.Heads.{document_in, head_of, lists_at}

-- by what the head of the file is
abbrev pub held_by : List ℕ → Result Head IndexFault → Document
held_by file (Ok h) = record { bytes = document_in file h; words = lists_at file h }
held_by file (Err fault) = record { bytes = []; words = none }

-- the document and the words at the places that the head of a file tells
abbrev pub held_in : List ℕ → Document
held_in file = held_by file (head_of file)

-- a file of fewer than 2 to the power 32 bytes whose head is found, and whose words are those of its document
pub record IsLoaded (file : List ℕ) : Type 0 where
  pub few : length file < 2 ^ 32
  pub head : Head
  pub found : head_of file ≡ Ok head
  pub document : IsDoc (document_in file head) (lists_at file head)
