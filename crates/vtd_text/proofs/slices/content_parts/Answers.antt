use Rattle.std.proofs.Common.{add-zero}
use Rattle.vtd_words.specs.Packed.{record_of}
use Rattle.vtd_text.proofs.NodeFacts.{record_within, one_after, comment_record}
use Rattle.vtd_text.proofs.RawFacts.{holder_written, record_written}
use Rattle.vtd_text.proofs.slices.content_parts.Goals as goal

pub returns-in-Root : goal.returns-in-Root
returns-in-Root g c = λ nest s e w. holder_written _ c.args.node.kind c.args.node.at c.in-Root.is nest e w

pub after-requires : goal.after-requires
after-requires g c = let k = one_after c.args.node.kind c.in-Attribute.is in rw c.words-words.ensures.value (record_within _ _ c.words-words.ensures.table.few c.args.node 1 k.0 k.1 c.requires)

pub parts_at-requires : goal.parts_at-requires
parts_at-requires g c = let k = one_after c.args.node.kind c.in-Attribute.is in rw (c.words-words.ensures.value, c.after.ensures) (record_within _ _ c.words-words.ensures.table.few c.args.node 1 k.0 k.1 c.requires)

pub returns-in-Attribute : goal.returns-in-Attribute
returns-in-Attribute g c = λ nest s e w.
    let k = one_after c.args.node.kind c.in-Attribute.is in
    let p = rw (c.words-words.ensures.value, c.after.ensures) at c.parts_at.ensures.parts in
    record_written _ _ c.words-words.ensures.table.few c.args.node.kind c.args.node.at 1 k.0 (record_of c.parts_at.result) k.1 p nest s e w

pub parts_at-requires-in-Comment : goal.parts_at-requires-in-Comment
parts_at-requires-in-Comment g c =
    rw (c.words.ensures.value, ← add-zero c.args.node.at) (record_within _ _ c.words.ensures.table.few c.args.node 0 _ (comment_record c.args.node.kind c.in-Comment.is) c.requires)

pub returns-in-Comment : goal.returns-in-Comment
returns-in-Comment g c = λ nest s e w.
    let p = rw (c.words.ensures.value, ← add-zero c.args.node.at) at c.parts_at-in-Comment.ensures.parts in
    record_written _ _ c.words.ensures.table.few c.args.node.kind c.args.node.at 0 _ (record_of c.parts_at-in-Comment.result) (comment_record c.args.node.kind c.in-Comment.is) p nest s e w
