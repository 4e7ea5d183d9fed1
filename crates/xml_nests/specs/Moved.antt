-- Records further on in a document.
use Rattle.std.specs.Prelude.{ℕ, ◌+◌, ◌-◌}
use Rattle.xml_model.specs.Records.{Record}

-- a record so many bytes further on
abbrev pub later : ℕ → Record → Record
later n r = record r { offset = r.offset + n }

-- a record of what stood from one place on, and stands from another one on now
abbrev pub moved : ℕ → ℕ → Record → Record
moved from to r = record r { offset = r.offset - from + to }
