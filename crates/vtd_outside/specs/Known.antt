-- What one call does to bytes that are known. An object says its bytes (`Some`) or not (`None`), and no call changes
-- which of the two it is. This project's own.
use Rattle.std.specs.Prelude.{◌≡◌, ℕ, ◌≤◌, ◌<◌, List, [], ◌++◌, length, take, drop, Option, Some, None, Result, Ok, Err}
use Rattle.std.specs.Prelude.{IsSome, option_map, Bool, cond, bytes_eq}

-- from names, as the bytes of their text, to the bytes of the files of these names
abbrev pub NameMap : Type 0
NameMap = List ℕ → Option (List ℕ)

-- the file being read: its name and the bytes of it that are left to read
pub record OpenFile : Type 0 where
  pub name : List ℕ
  pub rest : List ℕ

-- Files as contracts see them: which names are there and the bytes of each, where that is known; the file being read
-- and the name of the file being written, where that is known; whether one is being read or written; and the two
-- counts of faults.
pub record SeenFiles : Type 0 where
  pub contents : Option NameMap
  pub opened : Option OpenFile
  pub writing : Option (List ℕ)
  pub is_reading : Bool
  pub is_writing : Bool
  pub missed : ℕ
  pub proper : ℕ

-- n bytes of `rest` were put into the start of a buffer, and taken. None come only at the end, or for an empty buffer
pub record ReadsPrefix (rest left old new : List ℕ) (n : ℕ) : Type 0 where
  pub taken : n ≤ length rest
  pub rest_after : left ≡ drop n rest
  pub buffer : new ≡ take n rest ++ drop n old
  pub ends : 0 < length old → n ≡ 0 → rest ≡ []

-- a read; one that failed takes none
abbrev pub Reads : {E : Type 0} → Option (List ℕ) → Option (List ℕ) → List ℕ → List ℕ → Result ℕ E → Type 0
Reads None None old new result = Unit {0}
Reads (Some rest) (Some left) old new (Ok n) = ReadsPrefix rest left old new n
Reads (Some rest) (Some left) old new (Err e) = left ≡ rest
Reads None (Some left) old new result = ⊥
Reads (Some rest) None old new result = ⊥

-- a write of `bytes`, the first n of which were taken; one that failed takes none
abbrev pub Takes : {E : Type 0} → Option (List ℕ) → Option (List ℕ) → List ℕ → Result ℕ E → Type 0
Takes None None bytes result = Unit {0}
Takes (Some before) (Some after) bytes (Ok n) = after ≡ before ++ take n bytes
Takes (Some before) (Some after) bytes (Err e) = after ≡ before
Takes None (Some after) bytes result = ⊥
Takes (Some before) None bytes result = ⊥

-- the file of that name, to be read from its start, where it is there
abbrev pub start_of : NameMap → List ℕ → Option OpenFile
start_of contents name = option_map (λ bytes. record { name = name; rest = bytes }) (contents name)

-- a file begins to be read, only where the name is there; after a failure none is read
abbrev pub Begins : {T E : Type 0} → Option NameMap → List ℕ → Option OpenFile → Result T E → Type 0
Begins None name opened result = opened ≡ None
Begins (Some contents) name opened (Ok x) = IsSome (contents name) × (opened ≡ start_of contents name)
Begins (Some contents) name opened (Err e) = opened ≡ None

-- a read of the file being read, which stays the same file; after a failure none is read
abbrev pub ReadsFile : {E : Type 0} → Option OpenFile → Option OpenFile → List ℕ → List ℕ → Result ℕ E → Type 0
ReadsFile None None old new result = Unit {0}
ReadsFile None (Some after) old new result = ⊥
ReadsFile (Some file) (Some after) old new (Ok n) = (after.name ≡ file.name)
    × ReadsPrefix file.rest after.rest old new n
ReadsFile (Some file) None old new (Err e) = Unit {0}
ReadsFile (Some file) None old new (Ok n) = ⊥
ReadsFile (Some file) (Some after) old new (Err e) = ⊥

-- what is there after the file of that name holds these bytes: every other file stays
abbrev pub put_into : NameMap → List ℕ → List ℕ → NameMap
put_into contents name bytes other = cond (bytes_eq name other) (Some bytes) (contents other)

-- A file begins to be written: it is there and empty, and every other file stays. After a failure all stay.
abbrev pub BeginsWrite : {T E : Type 0} → Option NameMap → Option NameMap → List ℕ → Option (List ℕ) → Result T E →
    Type 0
BeginsWrite None None name writing result = writing ≡ None
BeginsWrite (Some before) (Some after) name writing (Ok x) = (after ≡ put_into before name []) × (writing ≡ Some name)
BeginsWrite (Some before) (Some after) name writing (Err e) = after ≡ before
BeginsWrite None (Some after) name writing result = ⊥
BeginsWrite (Some before) None name writing result = ⊥

-- These files are there but for the file being written, of that name, which holds these bytes.
pub record Holds (files : SeenFiles) (base : NameMap) (name held : List ℕ) : Type 0 where
  pub contents_are : files.contents ≡ Some (put_into base name held)
  pub named : files.writing ≡ Some name

-- how many bytes a call took; one that failed takes none
abbrev pub count_taken : {E : Type 0} → Result ℕ E → ℕ
count_taken (Ok n) = n
count_taken (Err e) = 0

-- an appending of `bytes`, the first n of which were added to the file being written, whatever the others are
abbrev pub Appends : SeenFiles → Option NameMap → List ℕ → ℕ → Type 0
Appends before after bytes n = (base : NameMap) (name held : List ℕ) → Holds before base name held →
    after ≡ Some (put_into base name (held ++ take n bytes))
