use Rattle.std.proofs.Common.{rules, ◌%◌, ◌^◌, nat_lt, ℕ}
use Rattle.std.proofs.lemmas.Fn.{filter_same}
use Rattle.vtd_edits.proofs.staging.keep_below.Goals as goal

pub returns : goal.returns
returns c = filter_same _ (λ (k : ℕ). nat_lt (k % 2 ^ 32) c.args.count) _ (λ x b f' k. search rules) _ _ c.retain.ensures.filtered
