-- What the lines of a script mean one after the other, and how carrying them out may end (this project's own).
use Rattle.std.specs.Prelude.{◌⊎◌, ◌≡◌, ℕ, zero, suc, Bool, true, false, ◌||◌, List, [], ◌∷◌, ◌++◌}
use Rattle.std.specs.Prelude.{drop, Option, Some, None, Result, Ok, Err}
use Rattle.vtd_outside.specs.Known.{NameMap, put_into}
use Rattle.vtd_outside.specs.Written.{LeavesPrefix}
use Rattle.vtd_script.specs.States.{Work, State, state_of, Answer, skipped, printed, refused, missing}
use Rattle.vtd_script.specs.States.{lines_of, state_after, is_refused, goes_on, refused_line}
use Rattle.vtd_script.specs.Steps.{Step, asks_for, asks_file}
use Rattle.vtd_script.specs.declared.refusals.Refusal.{Refusal}
use Rattle.vtd_script.specs.declared.endings.End.{End}
use Rattle.vtd_script.specs.declared.endings.End.TheVariants.{Done, Stopped, WriteFault, FileFault, NoMemory}
use Rattle.vtd_script.specs.declared.endings.Ending.{Ending}
use Rattle.vtd_script.specs.declared.endings.Ending.TheVariants as endings
use Rattle.vtd_script.specs.declared.endings.StepFault.{StepFault}
use Rattle.vtd_script.specs.declared.endings.StepFault.TheVariants as faults

-- what some lines that were carried out leave: what they printed, the state, and whether one was refused
pub record Reached : Type 0 where
  pub out : List ℕ
  pub state : State
  pub refused : Bool

abbrev pub start : State → Reached
start s = record { out = []; state = s; refused = false }

abbrev pub with_answer : Reached → Answer → Reached
with_answer r a =
    record { out = r.out ++ lines_of a; state = state_after r.state a; refused = r.refused || is_refused a }

abbrev pub line_at : List (List ℕ) → ℕ → Option (List ℕ)
line_at [] k = None
line_at (line ∷ lines) zero = Some line
line_at (line ∷ lines) (suc k) = line_at lines k

-- one line is carried out, and the run goes on
pub record Turns (keep : Bool) (before : Reached) (line : Option (List ℕ)) (after : Reached) : Type 0 where
  pub text : List ℕ
  pub is_there : line ≡ Some text
  pub answer : Answer
  pub step : Step before.state text answer
  pub passes : goes_on keep answer ≡ true
  pub leaves : after ≡ with_answer before answer

-- the first k lines are carried out, from a state
abbrev pub Reaches : Bool → State → List (List ℕ) → ℕ → Reached → Type 0
Reaches keep s lines zero r = r ≡ start s
Reaches keep s lines (suc k) r =
    (before : Reached) × Reaches keep s lines k before × Turns keep before (line_at lines k) r

abbrev pub end_of : Bool → End
end_of true = Stopped
end_of false = Done

-- the whole is the prefix and more
pub record IsPrefix (prefix whole : List ℕ) : Type 0 where
  pub more : List ℕ
  pub split : whole ≡ prefix ++ more

-- The one file that a line writes holds a prefix of its new bytes.
pub record LeavesFile (s : State) (line : List ℕ) (files : NameMap) : Type 0 where
  pub lines : List ℕ
  pub after : State
  pub step : Step s line (printed lines after)
  pub name : List ℕ
  pub bytes : List ℕ
  pub writes : after.files ≡ put_into s.files name bytes
  pub leaves : LeavesPrefix s.files files name bytes

-- A file of a line could not be read or written, where a count of faults rose: the files are as before, or the one that
-- the line writes holds a prefix of its new bytes.
pub record FailsFile (rose : Type 0) (s : State) (line : List ℕ) (files : NameMap) : Type 0 where
  pub asks : asks_file (asks_for line) ≡ true
  pub cause : rose
  pub left : (files ≡ s.files) ⊎ LeavesFile s line files

-- A prefix of what a line prints was sent, where a count of faults rose; the state is that after the line.
pub record FailsSending (rose : Type 0) (s : State) (line : List ℕ) (out : List ℕ) (files : NameMap) : Type 0 where
  pub cause : rose
  pub answer : Answer
  pub step : Step s line answer
  pub prefix : IsPrefix out (lines_of answer)
  pub left : files ≡ (state_after s answer).files

-- a line that is refused ends the run
pub record IsStop (keep : Bool) (s : State) (line : List ℕ) (out : List ℕ) : Type 0 where
  pub refusal : Refusal
  pub step : Step s line (refused refusal)
  pub ends : keep ≡ false
  pub printed_is : out ≡ refused_line refusal

-- How a run ends after its first lines, by the line that is next, by what was taken since, and by the files.
abbrev pub EndsBy : Type 0 → Type 0 → Bool → Reached → Option (List ℕ) → End → List ℕ → NameMap → Type 0
EndsBy file_rose out_rose keep r None Done more files = (r.refused ≡ false) × (more ≡ []) × (files ≡ r.state.files)
EndsBy file_rose out_rose keep r None Stopped more files = (r.refused ≡ true) × (more ≡ []) × (files ≡ r.state.files)
EndsBy file_rose out_rose keep r None NoMemory more files = (more ≡ []) × (files ≡ r.state.files)
EndsBy file_rose out_rose keep r None WriteFault more files = ⊥
EndsBy file_rose out_rose keep r None FileFault more files = ⊥
EndsBy file_rose out_rose keep r (Some line) Done more files = ⊥
EndsBy file_rose out_rose keep r (Some line) Stopped more files =
    IsStop keep r.state line more × (files ≡ r.state.files)
EndsBy file_rose out_rose keep r (Some line) NoMemory more files = (more ≡ []) × (files ≡ r.state.files)
EndsBy file_rose out_rose keep r (Some line) WriteFault more files = FailsSending out_rose r.state line more files
EndsBy file_rose out_rose keep r (Some line) FileFault more files =
    (more ≡ []) × ((Step r.state line missing × (files ≡ r.state.files)) ⊎ FailsFile file_rose r.state line files)

-- The lines are carried out so far that for one k the first k are finished, and the run ends at the next or after the
-- last.
pub record Ends (file_rose out_rose : Type 0) (keep : Bool) (s : State) (lines : List (List ℕ)) (end : End)
    (out : List ℕ) (files : NameMap) : Type 0 where
  pub k : ℕ
  pub reached : Reached
  pub reaches : Reaches keep s lines k reached
  pub more : List ℕ
  pub out_is : out ≡ reached.out ++ more
  pub ends : EndsBy file_rose out_rose keep reached (line_at lines k) end more files

-- What the lines mean: they end with no fault, and with memory.
abbrev pub IsMeant : End → Type 0
IsMeant Done = Unit {0}
IsMeant Stopped = Unit {0}
IsMeant FileFault = Unit {0}
IsMeant WriteFault = ⊥
IsMeant NoMemory = ⊥

pub record Outcome : Type 0 where
  pub out : List ℕ
  pub files : NameMap
  pub end : End

pub record Means (keep : Bool) (s : State) (lines : List (List ℕ)) (m : Outcome) : Type 0 where
  pub meant : IsMeant m.end
  pub ends : Ends ⊥ ⊥ keep s lines m.end m.out m.files

-- An answer is known by this ending.
abbrev pub IsEnding : Ending → Answer → Type 0
IsEnding endings.Skipped a = a ≡ skipped
IsEnding endings.Done a = (lines : List ℕ) × (after : State) × (a ≡ printed lines after)
IsEnding (endings.Refused refusal) a = a ≡ refused refusal

-- a line was carried out to its end: all that it prints was sent, and the state is that after it
pub record Passes (s : State) (line : List ℕ) (ending : Ending) (now : State) (more : List ℕ) : Type 0 where
  pub answer : Answer
  pub step : Step s line answer
  pub known : IsEnding ending answer
  pub state_is : now ≡ state_after s answer
  pub lines_are : more ≡ lines_of answer

-- How the carrying out of one line ends, by what was taken in it and by the state then.
abbrev pub Steps : Type 0 → Type 0 → State → List ℕ → Result Ending StepFault → State → List ℕ → Type 0
Steps file_rose out_rose s line (Ok ending) now more = Passes s line ending now more
Steps file_rose out_rose s line (Err faults.File) now more =
    (more ≡ []) × (now.work ≡ s.work)
    × ((Step s line missing × (now.files ≡ s.files)) ⊎ FailsFile file_rose s line now.files)
Steps file_rose out_rose s line (Err faults.Write) now more =
    (f : FailsSending out_rose s line more now.files) × (now ≡ state_after s f.answer)
Steps file_rose out_rose s line (Err faults.NoMemory) now more = (more ≡ []) × (now ≡ s)

-- the same where files and output say their bytes
pub record StepsKnown (file_rose out_rose : Type 0) (s : State) (line : List ℕ) (result : Result Ending StepFault)
    (work : Work) (files_after : Option NameMap) (before : List ℕ) (out_after : Option (List ℕ)) : Type 0 where
  pub files : NameMap
  pub more : List ℕ
  pub files_are : files_after ≡ Some files
  pub taken : out_after ≡ Some (before ++ more)
  pub steps : Steps file_rose out_rose s line result (state_of work files) more

-- how the lines were carried out, where files and output say their bytes
pub record EndsKnown (file_rose out_rose : Type 0) (keep : Bool) (s : State) (lines : List (List ℕ)) (end : End)
    (files_after : Option NameMap) (before : List ℕ) (out_after : Option (List ℕ)) : Type 0 where
  pub files : NameMap
  pub out : List ℕ
  pub files_are : files_after ≡ Some files
  pub taken : out_after ≡ Some (before ++ out)
  pub ends : Ends file_rose out_rose keep s lines end out files

-- What private functions promise.

-- what the loop over the lines keeps: the first k lines are carried out, and these are left
pub record Carrying (keep : Bool) (s : State) (lines rest : List (List ℕ)) (work : Work) (files : Option NameMap)
    (before : List ℕ) (taken : Option (List ℕ)) (refused : Bool) : Type 0 where
  pub k : ℕ
  pub reached : Reached
  pub reaches : Reaches keep s lines k reached
  pub left : drop k lines ≡ rest
  pub work_is : work ≡ reached.state.work
  pub files_are : files ≡ Some reached.state.files
  pub taken_is : taken ≡ Some (before ++ reached.out)
  pub refused_is : refused ≡ reached.refused

-- One line was carried out and the run goes on, with whether a line was refused so far; or the run ends at it.
pub record PassesOn (keep : Bool) (s : State) (line : List ℕ) (refused_before refused_now : Bool)
    (now : State) (more : List ℕ) : Type 0 where
  pub answer : Answer
  pub step : Step s line answer
  pub passes : goes_on keep answer ≡ true
  pub state_is : now ≡ state_after s answer
  pub lines_are : more ≡ lines_of answer
  pub refused_is : refused_now ≡ (refused_before || is_refused answer)

abbrev pub Turned : Type 0 → Type 0 → Bool → State → List ℕ → Bool → Result Bool End → State → List ℕ → Type 0
Turned file_rose out_rose keep s line refused_before (Ok refused_now) now more =
    PassesOn keep s line refused_before refused_now now more
Turned file_rose out_rose keep s line refused_before (Err end) now more =
    EndsBy file_rose out_rose keep (start s) (Some line) end more now.files

pub record TurnedKnown (file_rose out_rose : Type 0) (keep : Bool) (s : State) (line : List ℕ)
    (refused_before : Bool) (result : Result Bool End) (work : Work) (files_after : Option NameMap)
    (before : List ℕ) (out_after : Option (List ℕ)) : Type 0 where
  pub files : NameMap
  pub more : List ℕ
  pub files_are : files_after ≡ Some files
  pub taken : out_after ≡ Some (before ++ more)
  pub turns : Turned file_rose out_rose keep s line refused_before result (state_of work files) more
