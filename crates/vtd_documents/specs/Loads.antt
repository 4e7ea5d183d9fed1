-- Index files that documents are loaded from (this project's own).
use Rattle.std.specs.Prelude.{ℕ, List}
use Rattle.xml_model.specs.Nest.{Forest}
use Rattle.xml_model.specs.Accepted.{Accepted}
use Rattle.vtd_index.specs.Index.{IsIndexBy}
use Rattle.vtd_index.specs.declared.head.Version.{Version}

-- the file is the index file, of either version, of a document of these bytes
pub record IsFileOf (file bytes : List ℕ) : Type 0 where
  pub nest : Forest
  pub accepted : Accepted 8 bytes nest
  pub version : Version
  pub index : IsIndexBy version file bytes
