use Rattle.xpath_comparisons.specs.Comparing.{takes_memory}
use Rattle.xpath_values.specs.Answers.{Gives}
use Rattle.xpath_values.specs.Values.{compare}
use Rattle.xpath_meaning.proofs.Meetings.{given}
use Rattle.xpath_meaning.proofs.Nodes.{has_nodes_in}
use Rattle.xpath_nodes.proofs.NodeFacts.{pair_in}
use Rattle.xpath_nodes.proofs.comparing.compared.Goals as goal

pub compare-requires-clause-left : goal.compare-requires-clause-left
compare-requires-clause-left g c = has_nodes_in _ _ _ _ c.table_of.ensures.bytes c.table_of.ensures.lists c.table_of.ensures.nav c.requires.left

pub compare-requires-clause-right : goal.compare-requires-clause-right
compare-requires-clause-right g c = has_nodes_in _ _ _ _ c.table_of.ensures.bytes c.table_of.ensures.lists c.table_of.ensures.nav c.requires.right

pub returns-clause-means : goal.returns-clause-means
returns-clause-means g c = λ d h v w a b.
    given (takes_memory c.args.how c.args.left c.args.right) c.compare.result (compare c.args.how v w)
    (pair_in _ _ _ c.args.left c.args.right (λ x y. Gives (takes_memory c.args.how c.args.left c.args.right) c.compare.result (compare c.args.how x y)) c.table_of.ensures.bytes c.table_of.ensures.lists c.compare.ensures d h v w a b)
    d.document _ c.truth_value.ensures.value
