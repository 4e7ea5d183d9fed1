use Rattle.std.proofs.Common.{vec_len, length, ◌+◌, ◌*◌, ◌-◌}
use Rattle.xpath_grammar.specs.Grammar.{Arguments, Predicates, RelativeLocationPath, joined, exprs, walk, expr}
use Rattle.xpath_grammar.specs.Cutting.{AreCuts, rank_of, height, symbol, form, applied, AreBinary}
use Rattle.xpath_grammar.proofs.Remaining.{Remaining, adds}
use Rattle.xpath_grammar.specs.Tree.{trees_of, walk_of}
use Rattle.xpath_grammar.proofs.parser.+parser.Given as goal

abbrev pub decreases-chain : goal.decreases-chain
decreases-chain l = 32 * length l.tokens.now + 2 * height l.level

abbrev pub decreases-operand : goal.decreases-operand
decreases-operand l = 32 * length l.tokens.now + 2 * height l.level - 1

abbrev pub decreases-unary : goal.decreases-unary
decreases-unary l = 32 * length l.tokens.now + 18

abbrev pub decreases-path : goal.decreases-path
decreases-path l = 32 * length l.tokens.now + 14

abbrev pub decreases-from_filter : goal.decreases-from_filter
decreases-from_filter l = 32 * length l.tokens.now + 12

abbrev pub decreases-filter : goal.decreases-filter
decreases-filter l = 32 * length l.tokens.now + 10

abbrev pub decreases-primary : goal.decreases-primary
decreases-primary l = 32 * length l.tokens.now + 8

abbrev pub decreases-arguments : goal.decreases-arguments
decreases-arguments l = 32 * length l.tokens.now + 34

abbrev pub decreases-relative : goal.decreases-relative
decreases-relative l = 32 * length l.tokens.now + 6

abbrev pub decreases-step : goal.decreases-step
decreases-step l = 32 * length l.tokens.now + 4

abbrev pub decreases-predicates : goal.decreases-predicates
decreases-predicates l = 32 * length l.tokens.now + 2

abbrev pub invariant-arguments-loop-i : goal.invariant-arguments-loop-i
invariant-arguments-loop-i l = record {
  remaining : Remaining Arguments exprs (λ es. adds es (trees_of l.all)) l.tokens l.rest;
  cuts : AreCuts 0 l.rest l.cuts.items;
}

abbrev pub decreases-arguments-loop-i : goal.decreases-arguments-loop-i
decreases-arguments-loop-i l = vec_len l.cuts

abbrev pub invariant-predicates-loop-i : goal.invariant-predicates-loop-i
invariant-predicates-loop-i l = record {
  remaining : Remaining Predicates exprs (λ es. adds es (trees_of l.all)) l.tokens l.rest;
  cuts : AreCuts 10 l.rest l.cuts.items;
}

abbrev pub decreases-predicates-loop-i : goal.decreases-predicates-loop-i
decreases-predicates-loop-i l = vec_len l.cuts

abbrev pub invariant-relative-loop-i : goal.invariant-relative-loop-i
invariant-relative-loop-i l = record {
  remaining : Remaining RelativeLocationPath walk (λ w. joined w (walk_of l.all)) l.tokens l.rest;
  cuts : AreCuts 9 l.rest l.cuts.items;
}

abbrev pub decreases-relative-loop-i : goal.decreases-relative-loop-i
decreases-relative-loop-i l = vec_len l.cuts

abbrev pub invariant-chain-loop-i : goal.invariant-chain-loop-i
invariant-chain-loop-i l = record {
  remaining : Remaining (symbol (form l.level)) expr (λ a. applied a l.after.items) l.tokens l.rest;
  binary : AreBinary l.after.items;
  cuts : AreCuts (rank_of (form l.level)) l.rest l.cuts.items;
}

abbrev pub decreases-chain-loop-i : goal.decreases-chain-loop-i
decreases-chain-loop-i l = vec_len l.cuts
