use Rattle.vtd_cursor.proofs.PassSteps.{begun_more}
use Rattle.vtd_cursor.proofs.listed.begun_spans.Goals as goal

pub loop-node-preserved : goal.loop-node-preserved
loop-node-preserved g c =
    begun_more c.args.nav.now.bytes (g.W.Words.lists c.args.nav.now.words) c.args.nodes.now c.loop-node.spans.items _ c.loop-node.node-index
    c.begun_span-span.result c.loop-node.invariant c.in_ok-push_span.ensures c.begun_span-span.ensures
