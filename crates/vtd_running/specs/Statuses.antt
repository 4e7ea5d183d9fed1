-- The statuses of a run (this project's own).
use Rattle.std.specs.Prelude.{◌≡◌, ℕ, Bool, true, false}
use Rattle.vtd_outside.specs.Causes.{Rose}
use Rattle.vtd_script.specs.Changes.{FileCounts}
use Rattle.vtd_script.specs.declared.endings.End.{End}
use Rattle.vtd_script.specs.declared.endings.End.TheVariants as ends
use Rattle.vtd_running.specs.Form.{Form, document, generation, index_file, no_form}
use Rattle.vtd_running.specs.declared.status.Status.{Status}
use Rattle.vtd_running.specs.declared.status.Status.TheVariants as statuses

-- the number with which the program ends
abbrev pub status_number : Status → ℕ
status_number statuses.Done = 0
status_number statuses.Refused = 1
status_number statuses.Usage = 2
status_number statuses.ReadFault = 3
status_number statuses.WriteFault = 4
status_number statuses.FileFault = 5
status_number statuses.NoMemory = 6

-- the status with which a run over a script ends
abbrev pub status_of : End → Status
status_of ends.Done = statuses.Done
status_of ends.Stopped = statuses.Refused
status_of ends.WriteFault = statuses.WriteFault
status_of ends.FileFault = statuses.FileFault
status_of ends.NoMemory = statuses.NoMemory

-- the statuses with which a run can be meant to end: without a fault, but for a name that is not there, and with memory
abbrev pub IsMeant : Status → Type 0
IsMeant statuses.Done = Unit {0}
IsMeant statuses.Refused = Unit {0}
IsMeant statuses.Usage = Unit {0}
IsMeant statuses.ReadFault = ⊥
IsMeant statuses.WriteFault = ⊥
IsMeant statuses.FileFault = Unit {0}
IsMeant statuses.NoMemory = ⊥

-- Counts of faults by the status: one rose only where that is the cause, and is as before at every other status.

-- that of the script
abbrev pub ReadCounts : Status → ℕ → ℕ → Type 0
ReadCounts statuses.ReadFault before now = Rose before now
ReadCounts statuses.Done before now = now ≡ before
ReadCounts statuses.Refused before now = now ≡ before
ReadCounts statuses.Usage before now = now ≡ before
ReadCounts statuses.WriteFault before now = now ≡ before
ReadCounts statuses.FileFault before now = now ≡ before
ReadCounts statuses.NoMemory before now = now ≡ before

-- that of an output
abbrev pub WriteCounts : Status → ℕ → ℕ → Type 0
WriteCounts statuses.WriteFault before now = Rose before now
WriteCounts statuses.Done before now = now ≡ before
WriteCounts statuses.Refused before now = now ≡ before
WriteCounts statuses.Usage before now = now ≡ before
WriteCounts statuses.ReadFault before now = now ≡ before
WriteCounts statuses.FileFault before now = now ≡ before
WriteCounts statuses.NoMemory before now = now ≡ before

-- those of both outputs: where the words are not of the form, all is sent to standard error, and else to standard
-- output
abbrev pub SendCounts : Form → Status → ℕ → ℕ → ℕ → ℕ → Type 0
SendCounts (document name keep) status out_before out err_before err =
    WriteCounts status out_before out × (err ≡ err_before)
SendCounts (index_file name keep) status out_before out err_before err =
    WriteCounts status out_before out × (err ≡ err_before)
SendCounts (generation count) status out_before out err_before err =
    WriteCounts status out_before out × (err ≡ err_before)
SendCounts no_form status out_before out err_before err = (out ≡ out_before) × WriteCounts status err_before err

-- the two of the files, of which one alone rises
abbrev pub is_file_fault : Status → Bool
is_file_fault statuses.FileFault = true
is_file_fault statuses.Done = false
is_file_fault statuses.Refused = false
is_file_fault statuses.Usage = false
is_file_fault statuses.ReadFault = false
is_file_fault statuses.WriteFault = false
is_file_fault statuses.NoMemory = false

abbrev pub RunFiles : Status → ℕ → ℕ → ℕ → ℕ → Type 0
RunFiles status missed_before missed proper_before proper =
    FileCounts (is_file_fault status) missed_before missed proper_before proper

-- how a generated run ends: neither its files nor its script can fail
abbrev pub EndsGenerated : Status → Type 0
EndsGenerated statuses.Usage = ⊥
EndsGenerated statuses.ReadFault = ⊥
EndsGenerated statuses.FileFault = ⊥
EndsGenerated status = Unit {0}

-- What the words alone tell of the status, whatever the objects are: Usage comes exactly where they are not of the
-- form, unless a fault or want of memory ended the run.
abbrev pub FitsForm : Form → Status → Type 0
FitsForm (document name keep) statuses.Usage = ⊥
FitsForm (document name keep) status = Unit {0}
FitsForm (index_file name keep) statuses.Usage = ⊥
FitsForm (index_file name keep) status = Unit {0}
FitsForm (generation count) status = EndsGenerated status
FitsForm no_form statuses.Usage = Unit {0}
FitsForm no_form statuses.WriteFault = Unit {0}
FitsForm no_form statuses.NoMemory = Unit {0}
FitsForm no_form status = ⊥

-- how a run over a document that is not there ends
abbrev pub EndsMissing : Status → Type 0
EndsMissing statuses.FileFault = Unit {0}
EndsMissing statuses.NoMemory = Unit {0}
EndsMissing status = ⊥

-- how a run over a document ends: never with the usage line
abbrev pub EndsScript : Status → Type 0
EndsScript statuses.Usage = ⊥
EndsScript status = Unit {0}
