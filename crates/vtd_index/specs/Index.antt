-- Index files of documents: what is one, and what is wrong with a file that is none (this project's own).
use Rattle.std.specs.Prelude.{◌≡◌, ℕ, ◌^◌, ◌<◌, ◌≤◌, List, length, Option, Some, Result, Ok, Err}
use Rattle.xml_model.specs.declared.DocFault.{DocFault}
use Rattle.xml_model.specs.Accepted.{Accepted, IsRefusal, layer}
use Rattle.xml_model.specs.Items.{first_place}
use Rattle.xml_model.specs.Levels.{levels, levels_one}
use Rattle.xml_model.specs.Nest.{Forest}
use Rattle.xml_model.specs.Records.{Record, records}
use Rattle.vtd_words.specs.Lists.{Lists}
use Rattle.vtd_words.specs.Table.{IsNestTo}
use Rattle.vtd_location.specs.declared.checking.CacheDiff.{CacheDiff}
use Rattle.vtd_location.specs.Differences.{differ, differ_levels, differ_levels_one}
use Rattle.vtd_location.specs.Nav.{levels_in}
use Rattle.vtd_location.specs.ScanningOne.{levels_one_in}
use Rattle.vtd_builder.specs.Documents.{words_of}
use Rattle.vtd_builder.specs.Offered.{record_words}
use Rattle.vtd_index.specs.declared.faults.IndexFault.{IndexFault}
use Rattle.vtd_index.specs.declared.faults.IndexFault.TheVariants as faults
use Rattle.vtd_index.specs.declared.head.Head.{Head}
use Rattle.vtd_index.specs.declared.head.Version.{Version}
use Rattle.vtd_index.specs.declared.head.Version.TheVariants.{One, Two}
use Rattle.vtd_index.specs.Heads.{document_in, head_of, lists_at}
use Rattle.vtd_index.specs.Layout.{file_of, file_one}

-- the index file of a document: its bytes, beside the words of its records and levels
abbrev pub index_of : List ℕ → Forest → List ℕ
index_of bytes nest = file_of bytes (words_of bytes nest)

-- its index file of the first version, with three levels
abbrev pub index_one : List ℕ → Forest → List ℕ
index_one bytes nest = file_one bytes (record_words bytes nest) (levels_one (records nest (first_place bytes)))

-- of either version
abbrev pub index_by : Version → List ℕ → Forest → List ℕ
index_by One bytes nest = index_one bytes nest
index_by Two bytes nest = index_of bytes nest

-- the file is the index file of a version of a document of fewer than 2 to the power 30 bytes that no check refuses
pub record IsIndexBy (version : Version) (file bytes : List ℕ) : Type 0 where
  pub few : length bytes < 2 ^ 30
  pub nest : Forest
  pub accepted : Accepted 8 bytes nest
  pub written : file ≡ index_by version bytes nest

-- of the version that is written, and of the first
abbrev pub IsIndexOf : List ℕ → List ℕ → Type 0
IsIndexOf file bytes = IsIndexBy Two file bytes

abbrev pub IsIndexOneOf : List ℕ → List ℕ → Type 0
IsIndexOneOf file bytes = IsIndexBy One file bytes

-- of some document, by version
abbrev pub IsFileBy : Version → List ℕ → Type 0
IsFileBy version file = (bytes : List ℕ) × IsIndexBy version file bytes

-- of some document and either version
abbrev pub IsIndexFile : List ℕ → Type 0
IsIndexFile file = (version : Version) × IsFileBy version file

-- where the stored levels differ from those that a version has for the records
abbrev pub differ_by : Version → Lists → List Record → Option CacheDiff
differ_by One stored rs = differ_levels_one (levels_one_in stored) (levels_one rs)
differ_by Two stored rs = differ_levels (levels_in stored) (levels rs)

-- Faults after those of the head, each with what holds before it. The document is refused; by layers 7 and 8 only where
-- the stored records are those of the document.
pub record RefusesDocument (bytes : List ℕ) (stored : Lists) (fault : DocFault) : Type 0 where
  pub refusal : IsRefusal bytes fault
  pub recorded : 7 ≤ layer fault → (nest : Forest) × IsNestTo 6 bytes stored nest

-- The stored records are not those of the document, which the first six layers accept.
pub record RefusesRecords (bytes : List ℕ) (stored : Lists) (at : ℕ) : Type 0 where
  pub nest : Forest
  pub accepted : Accepted 6 bytes nest
  pub first : differ 0 stored.records (record_words bytes nest) ≡ Some at

-- The stored levels are not those that the version has for the records, which are those of a document that is accepted.
pub record RefusesCaches (version : Version) (bytes : List ℕ) (stored : Lists) (level at : ℕ) : Type 0 where
  pub nest : Forest
  pub recorded : IsNestTo 8 bytes stored nest
  pub first : differ_by version stored (records nest (first_place bytes)) ≡ Some (record { level = level; at = at })

-- a document and stored words have a fault
abbrev pub RefusesParts : Version → List ℕ → Lists → IndexFault → Type 0
RefusesParts version bytes stored (faults.Doc fault) = RefusesDocument bytes stored fault
RefusesParts version bytes stored (faults.Records at) = RefusesRecords bytes stored at
RefusesParts version bytes stored (faults.Caches level at) = RefusesCaches version bytes stored level at
RefusesParts version bytes stored _ = ⊥

-- a file has a fault, by what its head is
abbrev pub FaultBy : List ℕ → IndexFault → Result Head IndexFault → Type 0
FaultBy file fault (Err first) = fault ≡ first
FaultBy file fault (Ok h) = RefusesParts h.version (document_in file h) (lists_at file h) fault

-- the fault of a file: the first that it has, in the order in which they are tried
abbrev pub IsFault : List ℕ → IndexFault → Type 0
IsFault file fault = FaultBy file fault (head_of file)
