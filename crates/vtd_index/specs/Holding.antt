-- What the index file of bytes and words can hold, and that it is read back (this project's own).
use Rattle.std.specs.Prelude.{◌≡◌, ℕ, ◌*◌, ◌<◌, ◌^◌, List, [], length, Ok}
use Rattle.std.specs.List.{AllByRecursion}
use Rattle.xml_model.specs.Levels.{LevelsOne}
use Rattle.vtd_words.specs.Lists.{Lists}
use Rattle.vtd_location.specs.ScanningOne.{levels_one_in}
use Rattle.vtd_index.specs.declared.head.Head.{Head}
use Rattle.vtd_index.specs.declared.head.Version.{Version}
use Rattle.vtd_index.specs.declared.head.Version.TheVariants.{One, Two}
use Rattle.vtd_index.specs.Heads.{head_of, document_in, lists_at}
use Rattle.vtd_index.specs.Layout.{file_of, file_one}

-- fewer words than a number of 4 bytes counts, each of which fits so many bytes
pub record Fit (size : ℕ) (words : List ℕ) : Type 0 where
  pub each : AllByRecursion (λ w. w < 256 ^ size) words
  pub few : length words < 2 ^ 32

-- bytes and words that a file can hold
pub record CanHold (bytes : List ℕ) (words : Lists) : Type 0 where
  pub few : length bytes < 2 ^ 30
  pub records : Fit 8 words.records
  pub level1 : Fit 8 words.level1
  pub level2 : Fit 8 words.level2
  pub level3 : Fit 8 words.level3
  pub level4 : Fit 8 words.level4
  pub level5 : Fit 4 words.level5

-- the head of the file of bytes and words
abbrev pub head_for : Version → List ℕ → Lists → Head
head_for version bytes words = record {
  version = version;
  document = length bytes;
  records = 8 * length words.records;
  level1 = 8 * length words.level1;
  level2 = 8 * length words.level2;
  level3 = 8 * length words.level3;
  level4 = 8 * length words.level4;
  level5 = 4 * length words.level5;
}

-- words of three levels, the last of which is in place of the fifth
abbrev pub lists_one : List ℕ → LevelsOne → Lists
lists_one records levels = record {
  records = records;
  level1 = levels.level1;
  level2 = levels.level2;
  level3 = [];
  level4 = [];
  level5 = levels.level3;
}

-- words that the files of a version hold
abbrev pub Shape : Version → Lists → Type 0
Shape One words = words ≡ lists_one words.records (levels_one_in words)
Shape Two words = Unit {0}

-- the file of a version
abbrev pub file_by : Version → List ℕ → Lists → List ℕ
file_by One bytes words = file_one bytes words.records (levels_one_in words)
file_by Two bytes words = file_of bytes words

-- a file is read back: its head has no fault, and its parts are the bytes and the words
pub record ReadBack (version : Version) (file bytes : List ℕ) (lists : Lists) : Type 0 where
  pub head : head_of file ≡ Ok (head_for version bytes lists)
  pub document : document_in file (head_for version bytes lists) ≡ bytes
  pub words : lists_at file (head_for version bytes lists) ≡ lists
