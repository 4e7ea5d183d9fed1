use Rattle.std.proofs.Common.{ℕ}
use Rattle.std.proofs.lemmas.List.Sorted.{IsNonDecreasingBy-from_sort}
use Rattle.vtd_edits.proofs.staging.sort_keys.Goals as goal

pub returns-in-Ok-clause-rises : goal.returns-in-Ok-clause-rises
returns-in-Ok-clause-rises c = IsNonDecreasingBy-from_sort (λ (k : ℕ). k) _ c.in-Ok.ensures.sorted
