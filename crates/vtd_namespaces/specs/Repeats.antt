-- The names of a tag, by their records (this project's own).
use Rattle.std.specs.Prelude.{◌≡◌, ℕ, zero, suc, ◌+◌, ◌*◌, ◌≤◌, ◌⊎◌, false, List, [], ◌∷◌, length}
use Rattle.xml_model.specs.Records.{Record}
use Rattle.xml_model.specs.Scan.{record_at}
use Rattle.vtd_text.specs.Joined.{slice_of}
use Rattle.vtd_text.specs.NameRecords.{is_attribute_name}

-- the bytes of a tag's name with a number, the first name's being 0 and its record having an index
abbrev pub name_of : List ℕ → List Record → ℕ → ℕ → List ℕ
name_of bytes rs first n = slice_of bytes (record_at (first + 2 * n) rs)

-- the bytes of so many names of attributes, the last one first: the record of the first of them has an index
abbrev pub names_before : List ℕ → List Record → ℕ → ℕ → List (List ℕ)
names_before bytes rs first zero = []
names_before bytes rs first (suc n) = slice_of bytes (record_at (first + 2 * n) rs) ∷ names_before bytes rs first n

-- no attribute's name and value have the records from an index on
abbrev pub HasNoAttribute : List Record → ℕ → Type 0
HasNoAttribute rs n = (is_attribute_name (record_at n rs).token ≡ false) ⊎ (length rs ≤ n + 1)
