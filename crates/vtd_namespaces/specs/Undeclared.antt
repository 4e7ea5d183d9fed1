-- Where the declarations of namespaces end (this project's own): from there on no tag declares one, so its names need
-- no look.
use Rattle.std.specs.Prelude.{◌≢◌, ℕ, ◌≤◌, List}
use Rattle.xml_model.specs.declared.TokenKind.TheVariants as token
use Rattle.xml_model.specs.Records.{Record, kind_number}
use Rattle.xml_model.specs.Scan.{record_at}
use Rattle.vtd_words.specs.Table.{Shows}

-- no record from an index on is of a declaration's name
abbrev pub NoneDeclares : List Record → ℕ → Type 0
NoneDeclares rs n = (j : ℕ) → n ≤ j → (record_at j rs).token ≢ kind_number token.NamespaceName

-- the same of the records that words show
abbrev pub NoneDeclared : List ℕ → ℕ → Type 0
NoneDeclared words n = (rs : List Record) → Shows words rs → NoneDeclares rs n
