-- Documents with their records (this project's own).
use Rattle.std.specs.Prelude.{◌≡◌, ℕ, ◌<◌, ◌^◌, List, [], ◌∷◌, length}
use Rattle.xml_model.specs.Nest.{Forest}
use Rattle.xml_model.specs.Accepted.{Accepted}
use Rattle.xml_model.specs.declared.Counts.{Counts}
use Rattle.xml_model.specs.Items.{first_place}
use Rattle.xml_model.specs.Levels.{levels}
use Rattle.xml_model.specs.Records.{records}
use Rattle.vtd_words.specs.Lists.{Lists, Growing, HasRoom, none}
use Rattle.vtd_builder.specs.Offered.{record_words}

-- the words of a document: those of the records of a nest of its bytes, and the levels of these
abbrev pub words_of : List ℕ → Forest → Lists
words_of bytes nest = record {
  records = record_words bytes nest;
  level1 = (levels (records nest (first_place bytes))).level1;
  level2 = (levels (records nest (first_place bytes))).level2;
  level3 = (levels (records nest (first_place bytes))).level3;
  level4 = (levels (records nest (first_place bytes))).level4;
  level5 = (levels (records nest (first_place bytes))).level5;
}

-- a document as its callers see it: its bytes, and its words
pub record Document : Type 0 where
  pub bytes : List ℕ
  pub words : Lists

-- the bytes are a document of fewer than 2 to the power 30 bytes that no check refuses, and the words are those of its
-- nest
pub record IsDoc (bytes : List ℕ) (words : Lists) : Type 0 where
  pub few : length bytes < 2 ^ 30
  pub nest : Forest
  pub accepted : Accepted 8 bytes nest
  pub recorded : words ≡ words_of bytes nest

-- the lengths of the levels, and the room that each has for further words
abbrev pub levels_of : Growing → List ℕ
levels_of g =
    length g.lists.level1 ∷ length g.lists.level2 ∷ length g.lists.level3 ∷ length g.lists.level4
    ∷ length g.lists.level5 ∷ g.room.level1 ∷ g.room.level2 ∷ g.room.level3 ∷ g.room.level4 ∷ g.room.level5 ∷ []

-- no levels yet, but room for so many words of each as are counted
pub record IsReserved (counts : Counts) (g : Growing) : Type 0 where
  pub empty : g.lists ≡ none
  pub room : HasRoom counts g.room
