use Rattle.std.proofs.Common.{ℕ, List, length, Some, sym, ap, subst, ◌≤◌}
use Rattle.vtd_outside.specs.Objects.{FilesState, lookup}
use Rattle.vtd_running.specs.Meaning.{no_files}
use Rattle.vtd_running.proofs.Generations.{alone_status, no_file_fault, script_alone, script_fits}
use Rattle.vtd_running.proofs.generating.carry_generated.Goals as goal

pub carry_out-requires-clause-size : goal.carry_out-requires-clause-size
carry_out-requires-clause-size g c = subst (λ (x : List ℕ). length x ≤ 16777216) (sym c.generated_script.ensures) script_fits

pub returns-clause-known : goal.returns-clause-known
returns-clause-known g c = λ sent to.
    script_alone _ _ _ _ _ _ sent _ _ c.generated_script.ensures
    (no_file_fault _ _ c.generated_script.ensures c.carry_out.ensures.asked)
    (c.carry_out.ensures.known no_files sent (ap (λ (s : FilesState). Some (lookup s.files)) c.new-files.ensures) to) c.status_of.ensures

pub returns-clause-ends : goal.returns-clause-ends
returns-clause-ends g c = alone_status _ _ (no_file_fault _ _ c.generated_script.ensures c.carry_out.ensures.asked) c.status_of.ensures
