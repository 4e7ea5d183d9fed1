-- What private functions promise: over which bytes a run goes on.
use Rattle.std.specs.Prelude.{ℕ, Bool}
use Rattle.xml_items.specs.declared.classes.Stops.{Stops}
use Rattle.xml_items.specs.Plain.{is_run_byte}

abbrev pub goes_on : Stops → ℕ → Bool
goes_on s b = is_run_byte s.first s.second s.third s.fourth b
