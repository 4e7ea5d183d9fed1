use Rattle.std.proofs.Common.{◌∙◌, ap, sym}
use Rattle.xpath_grammar.specs.Tree.{walk_of}
use Rattle.xpath_meaning.proofs.Nodes.{node_known_in}
use Rattle.xpath_predicates.proofs.Walks.{if_from}
use Rattle.xpath_predicates.proofs.deciding.from_here.Goals as goal

pub any_found-requires-clause-node : goal.any_found-requires-clause-node
any_found-requires-clause-node g c =
    node_known_in _ _ _ c.args.place (ap (λ s. s.bytes) (c.walker.view_is ∙ c.requires.walker)) (ap (λ s. s.lists) (c.walker.view_is ∙ c.requires.walker)) c.table_of-table.ensures.nav c.requires.place

pub returns-clause-found : goal.returns-clause-found
returns-clause-found g c =
    if_from _ c.args.place _ _ _ (walk_of c.args.steps.now) c.args.asked.now _ (ap (λ s. s.bytes) (c.walker.view_is ∙ c.requires.walker)) (ap (λ s. s.lists) (c.walker.view_is ∙ c.requires.walker))
    (ap (λ s. s.bindings) c.scope.view_is) (sym c.are_bare.ensures ∙ c.if-not-are_bare.false) c.any_found.ensures.decides
