use Rattle.std.proofs.Common.{◌≡◌, ◌+◌, length}
use Rattle.xml_model.specs.Nest.{Forest}
use Rattle.xml_model.specs.Tree.{Entry, Identifies}
use Rattle.vtd_words.specs.Table.{IsNestOf, nodes_of}
use Rattle.xpath_axes.specs.Iters.{one_first, records_left, to_come}
use Rattle.xpath_axes.specs.Tests.{node_test}
use Rattle.xpath_grammar.specs.Tree.{walk_of}
use Rattle.xpath_meaning.specs.Context.{Context, on_axis}
use Rattle.xpath_predicates.specs.Asks.{any_found}
use Rattle.xpath_predicates.proofs.Found.{Asking}
use Rattle.xpath_predicates.proofs.finding.+finding.Given as goal

abbrev pub invariant-any_along-loop-next : goal.invariant-any_along-loop-next
invariant-any_along-loop-next g l = record {
  bytes : l.left.bytes ≡ l.fn.nav.bytes;
  words : l.left.words ≡ l.fn.nav.words;
  names : g.N.Names.knows l.names (record { bytes = l.fn.nav.bytes; words = l.fn.nav.words });
  so_far : (nest : Forest) → IsNestOf l.fn.nav.bytes (g.W.Words.lists l.fn.nav.words) nest → (c : Context) → c.document ≡ nodes_of l.fn.nav.bytes nest →
      c.bindings ≡ l.fn.bindings → (e : Entry) → Identifies l.fn.node.kind l.fn.node.at e c.document →
      Asking l.fn.asked (any_found (walk_of l.fn.rest) c) (on_axis l.fn.axis (node_test l.fn.test) e c.document) (to_come l.left nest) l.found;
}

abbrev pub decreases-any_along-loop-next : goal.decreases-any_along-loop-next
decreases-any_along-loop-next g l = one_first l.left.first + records_left (length (g.W.Words.lists l.fn.nav.words).records) l.left.rest
