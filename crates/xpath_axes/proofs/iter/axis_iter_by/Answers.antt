use Rattle.std.proofs.Common.{◌∙◌, ap₂, sym, filter, ◌++◌}
use Rattle.vtd_words.specs.Table.{nodes_of}
use Rattle.vtd_words.proofs.Same.{node_holds}
use Rattle.xpath_axes.specs.Iters.{comes_first}
use Rattle.xpath_axes.specs.Tests.{node_test}
use Rattle.xpath_axes.proofs.FirstLemmas.{first_then_rest}
use Rattle.xpath_axes.proofs.iter.axis_iter_by.Goals as goal

pub walk_of-rest-requires-clause-each : goal.walk_of-rest-requires-clause-each
walk_of-rest-requires-clause-each g c = rw c.table-table.ensures.value
    (λ nest s. node_holds _ _ c.table-table.ensures.nav.few c.args.node c.requires.node nest s)

pub returns-clause-axis : goal.returns-clause-axis
returns-clause-axis g c = λ nest s e w.
    let is = c.table-table.ensures.value in
    let test = node_test c.args.test.now in
    let first = (rw is at c.before_walk.ensures.first) nest s e w in
    let passed = (rw is at c.if_passes-first.ensures.passed) nest s (filter (comes_first c.args.axis e) (nodes_of c.args.nav.now.bytes nest)) first in
    let rest = (rw is at c.walk_of-rest.ensures.walk) nest s e w test in
    ap₂ (λ a b. a ++ b) passed rest ∙ sym (first_then_rest nest _ s.accepted.document.nests e w.0 c.args.axis test)
