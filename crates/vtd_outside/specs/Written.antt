-- What one appending after another leaves, and what a writing leaves, where the bytes are known. This project's own.
use Rattle.std.specs.Prelude.{◌⊎◌, ◌≡◌, ◌≤◌, ℕ, true, false, List, ◌++◌, length, take, Option, Some, None, is_some}
use Rattle.std.specs.Prelude.{Result, Ok, Err, OnOk, OnErr}
use Rattle.vtd_outside.specs.declared.Failed.{Failed}
use Rattle.vtd_outside.specs.Causes.{HasFileCause}
use Rattle.vtd_outside.specs.Known.{NameMap, SeenFiles, Holds, put_into}

-- a prefix of the bytes was added after those that the file held
pub record AppendsPrefix (contents : Option NameMap) (base : NameMap) (name held bytes : List ℕ) : Type 0 where
  pub count : ℕ
  pub within : count ≤ length bytes
  pub files : contents ≡ Some (put_into base name (held ++ take count bytes))

-- all bytes were added, or at a fault a prefix
abbrev pub AppendsAll : {T E : Type 0} → Option NameMap → NameMap → List ℕ → List ℕ → List ℕ → Result T E → Type 0
AppendsAll contents base name held bytes (Ok x) = contents ≡ Some (put_into base name (held ++ bytes))
AppendsAll contents base name held bytes (Err e) = AppendsPrefix contents base name held bytes

-- All bytes were added to the file being written, and every other file stays; or at a fault a prefix was, a count rose,
-- and no file is being written.
pub record Adds {T E : Type 0} (before after : SeenFiles) (bytes : List ℕ) (result : Result T E) : Type 0 where
  pub added : (base : NameMap) (name held : List ℕ) → Holds before base name held →
      AppendsAll after.contents base name held bytes result
  pub known : is_some after.contents ≡ is_some before.contents
  pub same_file : OnOk result (after.writing ≡ before.writing)
  pub ok : OnOk result (after.is_writing ≡ true)
  pub err : OnErr result (after.is_writing ≡ false)
  pub cause : HasFileCause false before.missed after.missed before.proper after.proper result

-- All files are as before, or the one of that name holds a prefix of the bytes.
abbrev pub LeavesPrefix : NameMap → NameMap → List ℕ → List ℕ → Type 0
LeavesPrefix before after name bytes =
    (after ≡ before) ⊎ ((count : ℕ) × (count ≤ length bytes) × (after ≡ put_into before name (take count bytes)))

-- the file of that name holds the bytes, or at a fault all is as before or it holds a prefix; every other file stays
abbrev pub Writes : {T E : Type 0} → Option NameMap → Option NameMap → List ℕ → List ℕ → Result T E → Type 0
Writes None None name bytes result = Unit {0}
Writes (Some before) (Some after) name bytes (Ok x) = after ≡ put_into before name bytes
Writes (Some before) (Some after) name bytes (Err e) = LeavesPrefix before after name bytes
Writes None (Some after) name bytes result = ⊥
Writes (Some before) None name bytes result = ⊥

-- What the loop of an appending keeps: the first `sent` bytes were added.
pub record Appending (before now : SeenFiles) (bytes : List ℕ) (sent : ℕ) : Type 0 where
  pub within : sent ≤ length bytes
  pub adds : Adds {T = Unit {0}} {E = Failed} before now (take sent bytes) (Ok tt)
