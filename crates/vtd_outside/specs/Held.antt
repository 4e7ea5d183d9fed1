-- How files are held in memory: a list, and what is being done with it. This project's own.
use Rattle.std.specs.Prelude.{◌≡◌, ◌≤◌, ◌<◌, ℕ, zero, suc, Bool, false, List, [], ◌∷◌, length, drop}
use Rattle.std.specs.Prelude.{Option, Some, None, string_bytes, bytes_eq}
use Rattle.vtd_outside.specs.declared.file_list.File.{File}
use Rattle.vtd_outside.specs.declared.memory_files.Activity.{Activity}
use Rattle.vtd_outside.specs.declared.memory_files.Activity.TheVariants as doing
use Rattle.vtd_outside.specs.Known.{OpenFile}
use Rattle.vtd_outside.specs.Objects.{NamedFile, BodyState}

-- what contracts see of a file
abbrev pub shown : File → NamedFile
shown file = record { name = string_bytes file.name; body = file.body; there = file.is_there }

-- whether the file has that name
abbrev pub has_name : List ℕ → File → Bool
has_name name file = bytes_eq (string_bytes file.name) name

-- the file of that index: its name, what it holds, its bytes, and whether it is there
abbrev pub name_at : List NamedFile → ℕ → List ℕ
name_at [] index = []
name_at (file ∷ files) zero = file.name
name_at (file ∷ files) (suc index) = name_at files index

abbrev pub body_at : List NamedFile → ℕ → BodyState
body_at [] index = record { bytes = []; room = 0 }
body_at (file ∷ files) zero = file.body
body_at (file ∷ files) (suc index) = body_at files index

abbrev pub held_at : List NamedFile → ℕ → List ℕ
held_at files index = (body_at files index).bytes

abbrev pub there_at : List NamedFile → ℕ → Bool
there_at [] index = false
there_at (file ∷ files) zero = file.there
there_at (file ∷ files) (suc index) = there_at files index

-- the files with another body in the one of that index
abbrev pub with_body : List NamedFile → ℕ → BodyState → Bool → List NamedFile
with_body [] index body there = []
with_body (file ∷ files) zero body there = record { name = file.name; body = body; there = there } ∷ files
with_body (file ∷ files) (suc index) body there = file ∷ with_body files index body there

-- the first file of that name has that index
abbrev pub IsSlot : List NamedFile → List ℕ → ℕ → Type 0
IsSlot [] name index = ⊥
IsSlot (file ∷ files) name zero = file.name ≡ name
IsSlot (file ∷ files) name (suc index) = (bytes_eq file.name name ≡ false) × IsSlot files name index

-- no file has that name
abbrev pub IsAbsent : List NamedFile → List ℕ → Type 0
IsAbsent [] name = Unit {0}
IsAbsent (file ∷ files) name = (bytes_eq file.name name ≡ false) × IsAbsent files name

-- the file being read, from its place on
abbrev pub opened_in : List NamedFile → Activity → Option OpenFile
opened_in files doing.Idle = None
opened_in files (doing.Reading place) =
    Some (record { name = name_at files place.file; rest = drop place.at (held_at files place.file) })
opened_in files (doing.Writing index) = None

-- the name of the file being written
abbrev pub written_in : List NamedFile → Activity → Option (List ℕ)
written_in files doing.Idle = None
written_in files (doing.Reading place) = None
written_in files (doing.Writing index) = Some (name_at files index)

-- the place is in a file that is held, or at its end; the file being written is the first of its name, and is there
abbrev pub IsActive : List NamedFile → Activity → Type 0
IsActive files doing.Idle = Unit {0}
IsActive files (doing.Reading place) = (place.file < length files) × (place.at ≤ length (held_at files place.file))
IsActive files (doing.Writing index) = IsSlot files (name_at files index) index
