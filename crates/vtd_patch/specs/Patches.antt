-- Documents with the text of a text node or the value of an attribute changed (this project's own).
use Rattle.std.specs.Prelude.{ℕ, ◌≤◌, ◌<◌, ◌^◌, List, [], length}
use Rattle.std.specs.Option.{unwrap_or}
use Rattle.xml_model.specs.Tree.{Entry}
use Rattle.xml_model.specs.Accepted.{IsRefusal}
use Rattle.vtd_edits.specs.Splices.{spliced}
use Rattle.vtd_modifier.specs.Rows.{set_to}
use Rattle.vtd_modifier.specs.Parts.{part_of}
use Rattle.vtd_patch.specs.declared.patching.PatchFault.{PatchFault}
use Rattle.vtd_patch.specs.declared.patching.PatchFault.TheVariants as faults

-- the bytes of a document in which a node is set to a text: those that the splices of the operation `Set` make
abbrev pub patched : List ℕ → List ℕ → Entry → List ℕ
patched bytes text e = spliced bytes (unwrap_or (set_to bytes text (part_of bytes e)) [])

-- what a refusal says of the bytes that would have been made: they are too many, or else they have this refusal
abbrev pub IsRefusedFor : List ℕ → PatchFault → Type 0
IsRefusedFor new faults.Long = 2 ^ 30 ≤ length new
IsRefusedFor new (faults.Doc fault) = (length new < 2 ^ 30) × IsRefusal new fault
IsRefusedFor new faults.NoMemory = Unit {0}
