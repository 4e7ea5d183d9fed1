use Rattle.std.proofs.Common.{◌∙◌, ap}
use Rattle.xpath_axes.specs.Tests.{node_test}
use Rattle.xpath_meaning.proofs.Nodes.{node_known_in}
use Rattle.xpath_nodes.proofs.StepFacts.{if_found, if_few}
use Rattle.xpath_nodes.proofs.walker.on_axis.Goals as goal

pub nodes_along-requires-clause-node : goal.nodes_along-requires-clause-node
nodes_along-requires-clause-node g c =
    node_known_in _ _ _ c.args.place (ap (λ s. s.bytes) (c.walker.view_is ∙ c.requires.walker)) (ap (λ s. s.lists) (c.walker.view_is ∙ c.requires.walker)) c.record_count-count.ensures.nav c.requires.place

pub returns-clause-found : goal.returns-clause-found
returns-clause-found g c =
    if_found _ _ _ c.args.place.node c.args.axis (node_test c.args.test.now) _ (ap (λ s. s.bytes) (c.walker.view_is ∙ c.requires.walker)) (ap (λ s. s.lists) (c.walker.view_is ∙ c.requires.walker)) c.nodes_along.ensures.nodes

pub returns-clause-of : goal.returns-clause-of
returns-clause-of g c =
    if_few _ c.args.place c.args.axis (node_test c.args.test.now) _ c.record_count-count.ensures.nav c.record_count-count.ensures.few c.requires.place
    (if_found _ _ _ c.args.place.node c.args.axis (node_test c.args.test.now) _ (ap (λ s. s.bytes) (c.walker.view_is ∙ c.requires.walker)) (ap (λ s. s.lists) (c.walker.view_is ∙ c.requires.walker)) c.nodes_along.ensures.nodes)
