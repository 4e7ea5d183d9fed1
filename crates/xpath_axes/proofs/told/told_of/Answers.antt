use Rattle.std.proofs.Common.{◌≡◌, ◌∙◌, sym, subst, arith, rules, length, Some}
use Rattle.xml_model.specs.declared.Kind.TheVariants as kinds
use Rattle.xml_model.specs.declared.Axis.TheVariants as axes
use Rattle.vtd_location.specs.Children.{IsShallowTag}
use Rattle.vtd_namespaces.specs.NodeNames.{test_of}
use Rattle.xpath_axes.specs.Tests.{node_test}
use Rattle.xpath_axes.specs.Told.{IsTold}
use Rattle.xpath_axes.proofs.ToldLemmas.{begins_told, element_kind, tells_tag}
use Rattle.xpath_axes.proofs.told.told_of.Goals as goal

pub child_elements-requires-clause-tag : goal.child_elements-requires-clause-tag
child_elements-requires-clause-tag g c =
    let n = c.requires.node in
    let kind : c.args.node.kind ≡ kinds.Element = search rules in
    let level : c.level_at-level.result ≡ length n.entry.holders =
    (rw c.table-table.ensures.value at c.level_at-level.ensures.level) n.nest n.shown n.entry n.holds in
    let few = c.table-table.ensures.nav.few in
    rw c.meter.ensures.lists (subst (λ at. IsShallowTag (g.W.Words.lists c.args.nav.now.words) at) n.holds.2
    (tells_tag _ _ few n.nest n.shown n.entry n.holds.0 (element_kind n.entry.what (n.holds.1 ∙ kind))
    (omega (arith, level, c.if-level-gt-DEEPEST.false))))

pub returns : goal.returns
returns g c =
    let kind : c.args.node.kind ≡ kinds.Element = search rules in
    let axis : c.args.axis ≡ axes.Child = search rules in
    let few = c.table-table.ensures.nav.few in
    subst (λ t. IsTold c.args.nav.now.bytes (g.W.Words.lists c.args.nav.now.words) (node_test t) c.args.rest (Some c.child_elements.result))
    (sym c.in-Name.is) (begins_told _ _ few c.args.node kind c.requires.node c.args.rest (c.requires.walk axis)
    (test_of c.in-Name.field-0) c.child_elements.result
    (rw c.meter.ensures.lists at c.child_elements.ensures.left))
