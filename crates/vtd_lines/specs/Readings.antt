-- What the reading of a line answers, by what the line asks for (this project's own). Want of memory may come in place
-- of any other answer.
use Rattle.std.specs.Prelude.{◌≡◌, ℕ, List, [], Option, Some, None, Result, Ok, Err}
use Rattle.vtd_lines.specs.Fields.{fields}
use Rattle.vtd_lines.specs.declared.commands.Command.{Command}
use Rattle.vtd_lines.specs.declared.commands.LineFault.{LineFault}
use Rattle.vtd_lines.specs.declared.commands.LineFault.TheVariants as faults
use Rattle.vtd_lines.specs.Commands.{Wrong, line_too_long, line_no_text, no_such_command, no_such_escape}

-- what was read of a line
abbrev pub Reads : Result (Option Command) LineFault → Option (Result Command Wrong) → Type 0
Reads (Ok None) asked = asked ≡ None
Reads (Ok (Some command)) asked = asked ≡ Some (Ok command)
Reads (Err faults.Long) asked = asked ≡ Some (Err line_too_long)
Reads (Err faults.Utf8) asked = asked ≡ Some (Err line_no_text)
Reads (Err faults.Command) asked = asked ≡ Some (Err no_such_command)
Reads (Err faults.Escape) asked = asked ≡ Some (Err no_such_escape)
Reads (Err faults.NoMemory) asked = Unit {0}

-- What private functions promise.

-- the command of a line whose length and bytes are no fault
abbrev pub IsCommand : Result Command LineFault → Result Command Wrong → Type 0
IsCommand (Ok command) asked = asked ≡ Ok command
IsCommand (Err faults.Long) asked = ⊥
IsCommand (Err faults.Utf8) asked = ⊥
IsCommand (Err faults.Command) asked = asked ≡ Err no_such_command
IsCommand (Err faults.Escape) asked = asked ≡ Err no_such_escape
IsCommand (Err faults.NoMemory) asked = Unit {0}

-- why the characters of a field stand for nothing
abbrev pub IsFieldFault : Option (List ℕ) → LineFault → Type 0
IsFieldFault text faults.Long = ⊥
IsFieldFault text faults.Utf8 = ⊥
IsFieldFault text faults.Command = ⊥
IsFieldFault text faults.Escape = text ≡ None
IsFieldFault text faults.NoMemory = Unit {0}

-- the fields of a line that may not be there
abbrev pub fields_of : Option (List ℕ) → List (List ℕ)
fields_of None = []
fields_of (Some line) = fields line
