use Rattle.std.proofs.Common.{◌∙◌, ap}
use Rattle.xpath_axes.specs.Tests.{node_test}
use Rattle.xpath_sweeps.proofs.Unions.{IsUnion, nodes_known, if_union, if_few, no_list}
use Rattle.xpath_sweeps.proofs.sweeping.union_along.Goals as goal
use Rattle.xpath_sweeps.proofs.sweeping.union_along.Goals.{in-Ok, in-Err}

pub step_of_all-requires-clause-contexts : goal.step_of_all-requires-clause-contexts
step_of_all-requires-clause-contexts g c =
    nodes_known _ _ _ c.args.nodes.now (ap (λ t. t.bytes) c.table-table.ensures.value ∙ ap (λ s. s.bytes) (c.walker.view_is ∙ c.requires.walker))
    (ap (λ t. g.W.Words.lists t.words) c.table-table.ensures.value ∙ ap (λ s. s.lists) (c.walker.view_is ∙ c.requires.walker)) c.record_count-count.ensures.nav c.requires.nodes

pub returns-clause-found : goal.returns-clause-found
returns-clause-found g c = elim c.match-step_of_all.branch [
  | in-Ok w ↦
      if_union _ _ _ c.args.nodes.now c.args.axis (node_test c.args.test.now) _ _ _ w.in-Ok.is w.result-is
      (ap (λ t. t.bytes) c.table-table.ensures.value ∙ ap (λ s. s.bytes) (c.walker.view_is ∙ c.requires.walker))
      (ap (λ t. g.W.Words.lists t.words) c.table-table.ensures.value ∙ ap (λ s. s.lists) (c.walker.view_is ∙ c.requires.walker))
      c.requires.order c.step_of_all.ensures.step
  | in-Err w ↦ no_list (IsUnion c.args.scope.now c.args.nodes.now c.args.axis (node_test c.args.test.now)) _ _ w.result-is
]

pub returns-clause-of : goal.returns-clause-of
returns-clause-of g c = if_few _ c.args.nodes.now c.args.axis (node_test c.args.test.now) _ c.record_count-count.ensures.nav c.record_count-count.ensures.few c.requires.nodes (returns-clause-found g c)
