use Rattle.std.proofs.Common.{◌≡◌, ◌-◌, ◌≤◌, length, drop, List, ℕ, Some, true, false}
use Rattle.vtd_outside.specs.Known.{NameMap}
use Rattle.vtd_lines.specs.Lines.{lines}
use Rattle.vtd_script.specs.States.{state_of}
use Rattle.vtd_script.specs.Steps.{asks_any_file}
use Rattle.vtd_script.specs.Runs.{Carrying}
use Rattle.vtd_script.proofs.carrying.carry_out.Given as goal

abbrev pub invariant-loop-line : goal.invariant-loop-line
invariant-loop-line g l = record {
  within : l.at ≤ length l.script;
  so_far : (map : NameMap) (sent : List ℕ) → (g.F.Files.seen l.fn.files).contents ≡ Some map → g.K.Sink.taken l.fn.out ≡ Some sent
      → Carrying l.keep (state_of l.fn.session map) (lines l.script) (lines (drop l.at l.script)) l.session (g.F.Files.seen l.files).contents sent
      (g.K.Sink.taken l.out) l.refused;
  not_writing : (g.F.Files.seen l.files).is_writing ≡ false;
  missed_kept : (g.F.Files.seen l.files).missed ≡ (g.F.Files.seen l.fn.files).missed;
  proper_kept : (g.F.Files.seen l.files).proper ≡ (g.F.Files.seen l.fn.files).proper;
  asked : asks_any_file (lines (drop l.at l.script)) ≡ true → asks_any_file (lines l.script) ≡ true;
  faults_kept : g.K.Sink.faults l.out ≡ g.K.Sink.faults l.fn.out;
}

abbrev pub decreases-loop-line : goal.decreases-loop-line
decreases-loop-line g l = length l.script - l.at
