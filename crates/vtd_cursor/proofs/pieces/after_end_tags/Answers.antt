use Rattle.std.proofs.Common.{◌-◌, ◌+◌}
use Rattle.vtd_cursor.proofs.PieceLemmas.{tags_left, tag_passed, end_tag_there}
use Rattle.vtd_cursor.proofs.pieces.after_end_tags.Goals as goal

pub tag_at-at-requires-clause-tag : goal.tag_at-at-requires-clause-tag
tag_at-at-requires-clause-tag c =
    let left = tags_left _ c.args.count c.loop-i.i c.loop-i.at c.requires.tags.to c.loop-i-test.true (c.loop-i.invariant c.requires.tags.to c.requires.tags.hold) in
    end_tag_there _ c.loop-i.at left.0

pub loop-i-preserved : goal.loop-i-preserved
loop-i-preserved c = λ to t.
    tag_passed _ (c.args.count - (c.loop-i.i + 1)) c.loop-i.at to c.tag_at-at.result c.tag_at-at.ensures (tags_left _ c.args.count c.loop-i.i c.loop-i.at to c.loop-i-test.true (c.loop-i.invariant to t))
