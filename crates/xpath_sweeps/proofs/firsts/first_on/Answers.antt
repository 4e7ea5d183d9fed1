use Rattle.std.proofs.Common.{◌≡◌, ◌∙◌, ◌++◌, [], ap}
use Rattle.std.specs.Prelude.{option_to_list}
use Rattle.xpath_axes.specs.Iters.{to_come}
use Rattle.xpath_axes.specs.Tests.{node_test}
use Rattle.xpath_meaning.proofs.Nodes.{node_known_in}
use Rattle.xpath_sweeps.proofs.Ones.{ended, if_first, if_few_first, next_left}
use Rattle.xpath_sweeps.proofs.firsts.first_on.Goals as goal

pub axis_iter_by-left-requires-clause-node : goal.axis_iter_by-left-requires-clause-node
axis_iter_by-left-requires-clause-node g c =
    node_known_in _ _ _ c.args.place (ap (λ s. s.bytes) (c.walker.view_is ∙ c.requires.walker)) (ap (λ s. s.lists) (c.walker.view_is ∙ c.requires.walker)) c.table_of-table.ensures.nav c.requires.place

pub returns-clause-found : goal.returns-clause-found
returns-clause-found g c =
    if_first _ _ _ c.args.place.node c.args.axis (node_test c.args.test.now) _ c.next_by.result (to_come c.axis_iter_by-left.result) (to_come c.next_by.new.self)
    (ap (λ s. s.bytes) (c.walker.view_is ∙ c.requires.walker)) (ap (λ s. s.lists) (c.walker.view_is ∙ c.requires.walker)) c.axis_iter_by-left.ensures.axis
    (next_left _ _ _ _ (λ nest. to_come c.axis_iter_by-left.result nest ≡ option_to_list c.next_by.result ++ to_come c.next_by.new.self nest) c.axis_iter_by-left.ensures.bytes (ap g.W.Words.lists c.axis_iter_by-left.ensures.words) c.next_by.ensures.left)
    (ended _ _ _ _ (λ nest. to_come c.next_by.new.self nest ≡ []) c.next_by.result c.axis_iter_by-left.ensures.bytes (ap g.W.Words.lists c.axis_iter_by-left.ensures.words) c.next_by.ensures.end)
    c.list_of.ensures.list

pub returns-clause-of : goal.returns-clause-of
returns-clause-of g c = if_few_first _ c.args.place c.args.axis (node_test c.args.test.now) _ c.next_by.result c.requires.place c.list_of.ensures.list (returns-clause-found g c)
