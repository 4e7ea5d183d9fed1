use Rattle.std.proofs.Common.{◌∙◌, ap, arith, Ok}
use Rattle.vtd_cursor.proofs.TagPlaces.{tag_place}
use Rattle.vtd_cursor.proofs.PieceLemmas.{item_is}
use Rattle.vtd_cursor.proofs.pieces.tag_at.Goals as goal

pub next_item-requires-clause-place : goal.next_item-requires-clause-place
next_item-requires-clause-place c = (tag_place _ _ c.requires.tag).boundary

pub unreachable-requires : goal.unreachable-requires
unreachable-requires c =
    let within = (tag_place _ _ c.requires.tag).within in
    let end = c.next_item.ensures.end.0 (c.in-Ok-None.is ∙ ap (λ x. Ok x) c.in-Ok-None.field-0-is) in
    omega (arith, within, end)

pub returns : goal.returns
returns c = λ i b. item_is _ _ c.in-Ok-Some.item i c.requires.utf8 c.requires.tag (rw c.in-Ok-Some.field-0-is at c.in-Ok-Some.ensures.item) b
