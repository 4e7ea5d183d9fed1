use Rattle.std.proofs.Common.{ℕ, ◌∙◌, arith, subst, sym}
use Rattle.vtd_words.specs.Lists.{Lists}
use Rattle.vtd_location.specs.Children.{entry_records, Searching}
use Rattle.vtd_location.proofs.children.position_of.Goals as goal

pub search-preserved : goal.search-preserved
search-preserved g c =
    let e = c.search.invariant.lists in
    let start = c.args.meter.now.reads in
    let P = λ (reads low high : ℕ) (lists : Lists). Searching (entry_records c.args.part lists) c.args.wanted start reads low high in
    record {
      lists = c.halve-range.ensures.lists ∙ e;
      within = omega (arith, c.halve-range.ensures.within, c.search.invariant.within);
      searching =
          subst (P c.halve-range.new.meter.reads c.halve-range.result.low c.halve-range.result.high) e
          (c.halve-range.ensures.on start
          (subst (P c.search.meter.reads c.search.range.low c.search.range.high) (sym e) c.search.invariant.searching));
    }
