-- The words that the index files of a version hold for a document.
use Rattle.std.proofs.Common.{◌≡◌, ℕ, List, None, refl, ap₂, ◌∙◌}
use Rattle.xml_model.specs.Items.{first_place}
use Rattle.xml_model.specs.Levels.{levels, levels_one, LevelsOne}
use Rattle.xml_model.specs.Nest.{Forest}
use Rattle.xml_model.specs.Records.{records}
use Rattle.vtd_words.specs.Lists.{Lists}
use Rattle.vtd_location.specs.Nav.{levels_in}
use Rattle.vtd_location.specs.ScanningOne.{levels_one_in}
use Rattle.vtd_location.proofs.Passing.{same_levels}
use Rattle.vtd_location.proofs.PassingOne.{same_levels_one}
use Rattle.vtd_builder.specs.Documents.{words_of}
use Rattle.vtd_builder.specs.Offered.{record_words}
use Rattle.vtd_builder.proofs.Built.{words_are}
use Rattle.vtd_index.specs.declared.head.Version.{Version}
use Rattle.vtd_index.specs.declared.head.Version.TheVariants.{One, Two}
use Rattle.vtd_index.specs.Holding.{file_by, lists_one, Shape}
use Rattle.vtd_index.specs.Index.{differ_by, index_by}
use Rattle.vtd_index.proofs.Differing.{same_none}

abbrev pub words_one : List ℕ → Forest → Lists
words_one bytes nest = lists_one (record_words bytes nest) (levels_one (records nest (first_place bytes)))

abbrev pub words_by : Version → List ℕ → Forest → Lists
words_by One bytes nest = words_one bytes nest
words_by Two bytes nest = words_of bytes nest

pub records_by : (v : Version) (bytes : List ℕ) (nest : Forest) → (words_by v bytes nest).records ≡ record_words bytes nest
records_by One bytes nest = refl
records_by Two bytes nest = refl

pub shape_by : (v : Version) (bytes : List ℕ) (nest : Forest) → Shape v (words_by v bytes nest)
shape_by One bytes nest = refl
shape_by Two bytes nest = tt

pub file_index : (v : Version) (bytes : List ℕ) (nest : Forest) → index_by v bytes nest ≡ file_by v bytes (words_by v bytes nest)
file_index One bytes nest = refl
file_index Two bytes nest = refl

-- they do not differ from those of the records
pub none_by : (v : Version) (bytes : List ℕ) (nest : Forest) → differ_by v (words_by v bytes nest) (records nest (first_place bytes)) ≡ None
none_by One bytes nest =
    let l = levels_one (records nest (first_place bytes)) in
    rw (same_none 0 l.level1, same_none 0 l.level2, same_none 0 l.level3) refl
none_by Two bytes nest =
    let w = words_of bytes nest in
    rw (same_none 0 w.level1, same_none 0 w.level2, same_none 0 w.level3, same_none 0 w.level4, same_none 0 w.level5) refl

-- words that do not differ from them are these
pub words_same : (v : Version) (bytes : List ℕ) (stored : Lists) (nest : Forest) → Shape v stored → stored.records ≡ record_words bytes nest
    → differ_by v stored (records nest (first_place bytes)) ≡ None → stored ≡ words_by v bytes nest
words_same One bytes stored nest s e d =
    let l = same_levels_one (levels_one_in stored) (levels_one (records nest (first_place bytes))) d in
    s ∙ ap₂ (λ (ws : List ℕ) (x : LevelsOne). lists_one ws x) e l
words_same Two bytes stored nest s e d =
    words_are bytes stored nest e (same_levels (levels_in stored) (levels (records nest (first_place bytes))) d)
