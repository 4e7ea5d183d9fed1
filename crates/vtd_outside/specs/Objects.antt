-- What contracts see of the objects that hold all in memory. This project's own.
use Rattle.std.specs.Prelude.{ℕ, ◌+◌, ◌-◌, ◌^◌, min, Bool, true, cond, not, nat_eq, nat_le, nat_lt}
use Rattle.std.specs.Prelude.{List, [], ◌∷◌, Option, Some, None}
use Rattle.std.specs.Prelude.{length, bytes_eq}
use Rattle.std.specs.List.{list_any}
use Rattle.vtd_outside.specs.Known.{NameMap, OpenFile}
pub use Rattle.vtd_outside.specs.Known.{put_into}

-- the trait calls on an object: the numbers of those that fail, the most bytes that one moves, the number of the next
pub record Calls : Type 0 where
  pub failing : List ℕ
  pub piece : ℕ
  pub next : ℕ

-- whether the next call is listed among those that fail
abbrev pub is_listed : Calls → Bool
is_listed calls = list_any (λ number. nat_eq number calls.next) calls.failing

-- a call is over; the number stays at its end, 2 ^ 32 - 1
abbrev pub after_call : Calls → Calls
after_call calls = record { failing = calls.failing; piece = calls.piece; next = min (calls.next + 1) (2 ^ 32 - 1) }

-- a count that rises by one, or stays at its end, 2 ^ 64 - 1
abbrev pub raised : ℕ → ℕ
raised faults = min (faults + 1) (2 ^ 64 - 1)

-- a source: the bytes that are left
pub record SourceState : Type 0 where
  pub left : List ℕ
  pub calls : Calls
  pub faults : ℕ

-- a sink: the bytes that it took, and how many more it has room for
pub record SinkState : Type 0 where
  pub taken : List ℕ
  pub room : ℕ
  pub calls : Calls
  pub faults : ℕ

-- whether what one call would take of so many bytes passes the room left
abbrev pub is_short : SinkState → ℕ → Bool
is_short sink count = nat_lt sink.room (min count sink.calls.piece)

-- the bytes of a file, and the room that was made for it
pub record BodyState : Type 0 where
  pub bytes : List ℕ
  pub room : ℕ

-- a file by its name, which is there or only prepared
pub record NamedFile : Type 0 where
  pub name : List ℕ
  pub body : BodyState
  pub there : Bool

-- what is said of a name by its file, the first in the list
abbrev pub found : {A : Type 0} → (BodyState → Bool → Option A) → List NamedFile → List ℕ → Option A
found said [] name = None
found said (file ∷ files) name = cond (bytes_eq file.name name) (said file.body file.there) (found said files name)

abbrev pub bytes_if : BodyState → Bool → Option (List ℕ)
bytes_if body there = cond there (Some body.bytes) None

abbrev pub room_if : BodyState → Bool → Option ℕ
room_if body there = Some body.room

abbrev pub body_if : BodyState → Bool → Option BodyState
body_if body there = Some body

-- the bytes of the file of that name, where it is there
abbrev pub lookup : List NamedFile → NameMap
lookup files name = found bytes_if files name

-- from names to the room that was made for the files of these names, where they are there or prepared
abbrev pub RoomMap : Type 0
RoomMap = List ℕ → Option ℕ

abbrev pub rooms : List NamedFile → RoomMap
rooms files name = found room_if files name

-- what is prepared after room is made for the file of that name: all other room stays
abbrev pub make_room : RoomMap → List ℕ → ℕ → RoomMap
make_room made name room other = cond (bytes_eq name other) (Some room) (made other)

-- the room that is there, or none
abbrev pub room_or_none : Option ℕ → ℕ
room_or_none None = 0
room_or_none (Some room) = room

-- whether so many more bytes pass the room that was made
abbrev pub is_past : Option BodyState → ℕ → Bool
is_past None count = true
is_past (Some body) count = not (nat_le (length body.bytes + count) body.room)

-- whether so many more bytes in the file being written pass the room that was made for its name
abbrev pub passes_room : List NamedFile → Option (List ℕ) → ℕ → Bool
passes_room files None count = true
passes_room files (Some name) count = is_past (found body_if files name) count

-- files: those that are there or prepared, what is being read and written, and the two counts
pub record FilesState : Type 0 where
  pub files : List NamedFile
  pub opened : Option OpenFile
  pub writing : Option (List ℕ)
  pub calls : Calls
  pub missed : ℕ
  pub proper : ℕ

-- how many bytes are left of the file being read
abbrev pub rest_length : Option OpenFile → ℕ
rest_length None = 0
rest_length (Some file) = length file.rest
