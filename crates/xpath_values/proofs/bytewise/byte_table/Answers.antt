use Rattle.std.proofs.Common.{◌≡◌, ℕ, ◌+◌, ◌-◌, arith, drop, subst, ◌∙◌}
use Rattle.std.proofs.Math.ListN.{length-set}
use Rattle.std.specs.List.{slice_index, slice_index_or}
use Rattle.xpath_values.specs.Translating.{IsBytewise}
use Rattle.xpath_values.proofs.BytewiseLemmas.{table_more}
use Rattle.xpath_values.proofs.bytewise.byte_table.Goals as goal

pub loop-left-preserved : goal.loop-left-preserved
loop-left-preserved c =
    let n : ℕ = c.loop-left.left - 1 in
    let back : c.loop-left.left ≡ n + 1 = omega arith in
    record {
      size = length-set c.loop-left.table (slice_index_or c.args.from.now n 0) (slice_index_or c.args.to.now n 0) ∙ c.loop-left.invariant.size;
      within = omega (arith, c.loop-left.invariant.within);
      table =
          table_more c.args.from.now c.args.to.now c.loop-left.table n (omega (arith, c.loop-left.invariant.within))
          (omega (arith, c.loop-left.invariant.within, c.requires.room)) c.loop-left.invariant.size (c.requires.from n) (c.requires.to n)
          (subst (λ k. IsBytewise (drop k c.args.from.now) (drop k c.args.to.now) (slice_index c.loop-left.table)) back c.loop-left.invariant.table);
    }
