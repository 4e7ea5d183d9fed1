use Rattle.std.proofs.Common.{◌≡◌, ◌+◌, ◌*◌, ◌≤◌}
use Rattle.xpath_grammar.specs.Tree.{tree_of, trees_of, walk_of}
use Rattle.xpath_grammar.specs.Static.{list_marks, step_marks}
use Rattle.xpath_grammar.specs.Checking.{first_in, weight, list_weight, step_weight, tail_weight}
use Rattle.xpath_grammar.proofs.FirstFault.{Descends}
use Rattle.xpath_grammar.proofs.refusal.+refusal.Given as goal

abbrev pub decreases-expr_fault : goal.decreases-expr_fault
decreases-expr_fault l = 4 * weight (tree_of l.expr.now) + 1

abbrev pub decreases-tail_fault : goal.decreases-tail_fault
decreases-tail_fault l = 4 * tail_weight l.tail + 3

abbrev pub decreases-wanted_fault : goal.decreases-wanted_fault
decreases-wanted_fault l = 4 * weight (tree_of l.expr.now) + 2

abbrev pub decreases-list_fault : goal.decreases-list_fault
decreases-list_fault l = 4 * list_weight (trees_of l.list.now) + 1

abbrev pub decreases-steps_fault : goal.decreases-steps_fault
decreases-steps_fault l = 4 * step_weight (walk_of l.steps.now) + 2

abbrev pub invariant-expr_fault-loop-part : goal.invariant-expr_fault-loop-part
invariant-expr_fault-loop-part l = Descends l.bindings (tree_of l.expr) (tree_of l.prefix) l.found

abbrev pub decreases-expr_fault-loop-part : goal.decreases-expr_fault-loop-part
decreases-expr_fault-loop-part l = weight (tree_of l.prefix)

abbrev pub invariant-list_fault-loop-rest : goal.invariant-list_fault-loop-rest
invariant-list_fault-loop-rest l = record {
  same : first_in l.bindings (list_marks l.nodes (trees_of l.list)) ≡ first_in l.bindings (list_marks l.needed (trees_of l.rest));
  smaller : list_weight (trees_of l.rest) ≤ list_weight (trees_of l.list);
}

abbrev pub invariant-steps_fault-loop-rest : goal.invariant-steps_fault-loop-rest
invariant-steps_fault-loop-rest l = record {
  same : first_in l.bindings (step_marks (walk_of l.steps)) ≡ first_in l.bindings (step_marks (walk_of l.rest));
  smaller : step_weight (walk_of l.rest) ≤ step_weight (walk_of l.steps);
}
