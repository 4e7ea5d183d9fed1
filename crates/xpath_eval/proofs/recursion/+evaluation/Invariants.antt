use Rattle.std.proofs.Common.{◌≡◌, ◌≤◌, ◌+◌, ◌*◌, length}
use Rattle.xpath_grammar.specs.Checking.{weight, list_weight, step_weight}
use Rattle.xpath_grammar.specs.Tree.{tree_of, trees_of, walk_of}
use Rattle.xpath_meaning.specs.Context.{stepped}
use Rattle.xpath_meaning.specs.Meaning.{mean, filtered}
use Rattle.xpath_meaning.specs.Scope.{AreFewOf, AreValuesOf}
use Rattle.xpath_eval.proofs.Chains.{Filters, Lists, Walks}
use Rattle.xpath_eval.proofs.Loops.{SoFar, kept_rest, step_rest}
use Rattle.xpath_eval.proofs.recursion.+evaluation.Given as goal

abbrev pub decreases-value_at : goal.decreases-value_at
decreases-value_at g l = 4 * weight (tree_of l.expr.now) + 1

abbrev pub decreases-value_after : goal.decreases-value_after
decreases-value_after g l = 4 * weight (tree_of l.expr.now)

abbrev pub decreases-other_value : goal.decreases-other_value
decreases-other_value g l = 4 * weight (tree_of l.expr.now)

abbrev pub decreases-values_at : goal.decreases-values_at
decreases-values_at g l = 4 * list_weight (trees_of l.list.now)

abbrev pub decreases-walked : goal.decreases-walked
decreases-walked g l = 4 * step_weight (walk_of l.steps.now)

abbrev pub decreases-scanned : goal.decreases-scanned
decreases-scanned g l = 4 * list_weight (trees_of l.predicates.now) + 2

abbrev pub decreases-step_from : goal.decreases-step_from
decreases-step_from g l = 4 * list_weight (trees_of l.predicates.now) + 3

abbrev pub decreases-swept : goal.decreases-swept
decreases-swept g l = 4 * list_weight (trees_of l.predicates.now) + 2

abbrev pub decreases-step_each : goal.decreases-step_each
decreases-step_each g l = 4 * list_weight (trees_of l.predicates.now) + 1

abbrev pub decreases-filtered : goal.decreases-filtered
decreases-filtered g l = 4 * list_weight (trees_of l.predicates.now)

abbrev pub decreases-kept : goal.decreases-kept
decreases-kept g l = 4 * weight (tree_of l.predicate.now) + 3

abbrev pub decreases-passed_at : goal.decreases-passed_at
decreases-passed_at g l = 4 * weight (tree_of l.predicate.now) + 2

abbrev pub invariant-values_at-loop-rest : goal.invariant-values_at-loop-rest
invariant-values_at-loop-rest g l = record {
  leads : Lists l.scope l.place l.fn.done (trees_of l.list) l.values (trees_of l.rest);
  of : AreValuesOf l.scope l.values;
  walker : l.walker ≡ l.fn.walker;
}

abbrev pub invariant-walked-loop-rest : goal.invariant-walked-loop-rest
invariant-walked-loop-rest g l = record {
  leads : Walks l.scope l.fn.nodes (walk_of l.steps) l.found (walk_of l.rest);
  few : AreFewOf l.scope l.found;
  walker : l.walker ≡ l.fn.walker;
}

abbrev pub invariant-filtered-loop-rest : goal.invariant-filtered-loop-rest
invariant-filtered-loop-rest g l = record {
  leads : Filters l.scope l.fn.nodes (trees_of l.predicates) l.found (trees_of l.rest);
  few : AreFewOf l.scope l.found;
  walker : l.walker ≡ l.fn.walker;
}

abbrev pub invariant-kept-loop-i : goal.invariant-kept-loop-i
invariant-kept-loop-i g l = record {
  so_far : SoFar l.scope l.nodes (kept_rest (mean (tree_of l.predicate))) l.i l.found.items;
  few : length l.found.items ≤ l.i;
  walker : l.walker ≡ l.fn.walker;
}

abbrev pub invariant-step_each-loop-i : goal.invariant-step_each-loop-i
invariant-step_each-loop-i g l = record {
  so_far : SoFar l.scope l.nodes (step_rest (λ c e. filtered (trees_of l.predicates) c (stepped l.axis l.test c e))) l.i l.found.items;
  walker : l.walker ≡ l.fn.walker;
}
