use Rattle.std.proofs.Common.{refl}
use Rattle.xpath_grammar.specs.Tree.{tree_of}
use Rattle.xpath_meaning.specs.Scope.{root_context}
use Rattle.xpath_meaning.proofs.Nodes.{root_stands}
use Rattle.xpath_eval.proofs.Root.{nodes_known, all_fit, all_ordered}
use Rattle.xpath_eval.proofs.entry.evaluate.Goals as goal

pub returns-clause-means : goal.returns-clause-means
returns-clause-means g c = λ nest h. c.value_at.ensures.means.yields (root_context c.args.nav.now.bytes nest c.args.bindings.now) (rw c.root_place-place.ensures.is (root_stands _ nest h))

pub returns-clause-nodes : goal.returns-clause-nodes
returns-clause-nodes g c = nodes_known _ _ _ _ refl refl c.table_of-table.ensures.nav c.value_at.ensures.of

pub returns-clause-ordered : goal.returns-clause-ordered
returns-clause-ordered g c = all_ordered _ _ (tree_of c.args.expr.now) _ c.root_place-place.ensures.is c.table_of-table.ensures.nav c.value_at.ensures.means

pub returns-clause-fits : goal.returns-clause-fits
returns-clause-fits g c = all_fit _ _ c.value_at.ensures.of
