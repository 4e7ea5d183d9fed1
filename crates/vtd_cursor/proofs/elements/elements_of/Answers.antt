use Rattle.vtd_cursor.proofs.ElementLists.{started, one_found, none_found_here, all_found, at_end, in_order}
use Rattle.vtd_cursor.proofs.elements.elements_of.Goals as goal

pub loop-at-init : goal.loop-at-init
loop-at-init g c = started c.args.nav.now.bytes (g.W.Words.lists c.args.nav.now.words) _ c.new-nodes.ensures.items

pub loop-at-preserved : goal.loop-at-preserved
loop-at-preserved g c =
    one_found c.args.nav.now.bytes (g.W.Words.lists c.args.nav.now.words) c.loop-at.nodes.items _ c.loop-at.at c.in-Some.node _ c.loop-at.invariant c.in-Some.is
    c.element_at.ensures.element (rw c.in-Some.is at c.element_at.ensures.node) c.in_ok-push_node.ensures

pub loop-at-preserved-in_default : goal.loop-at-preserved-in_default
loop-at-preserved-in_default g c =
    none_found_here c.args.nav.now.bytes (g.W.Words.lists c.args.nav.now.words) c.loop-at.nodes.items c.loop-at.at _ c.loop-at.invariant c.in_default.is c.element_at.ensures.element

pub returns-clause-elements : goal.returns-clause-elements
returns-clause-elements g c = λ nest s.
    all_found c.args.nav.now.bytes (g.W.Words.lists c.args.nav.now.words) c.loop-at.nodes.items c.loop-at.at c.table.ensures.nav.few
    (at_end (g.W.Words.lists c.args.nav.now.words).records c.len-records.result c.loop-at.at (rw (c.words-words.ensures.value, c.table.ensures.value) at c.len-records.ensures) c.loop-at-test.false)
    c.loop-at.invariant.are nest s

pub returns-clause-order : goal.returns-clause-order
returns-clause-order g c =
    in_order c.args.nav.now.bytes (g.W.Words.lists c.args.nav.now.words) c.loop-at.nodes.items (rw c.table.ensures.value at c.words-words.ensures.table) (λ nest s.
    all_found c.args.nav.now.bytes (g.W.Words.lists c.args.nav.now.words) c.loop-at.nodes.items c.loop-at.at c.table.ensures.nav.few
    (at_end (g.W.Words.lists c.args.nav.now.words).records c.len-records.result c.loop-at.at (rw (c.words-words.ensures.value, c.table.ensures.value) at c.len-records.ensures) c.loop-at-test.false)
    c.loop-at.invariant.are nest s)
