use Rattle.vtd_cursor.proofs.PieceLemmas.{tag_found, found_there}
use Rattle.vtd_cursor.proofs.pieces.tag_of.Goals as goal

pub tag_at-requires-clause-tag : goal.tag_at-requires-clause-tag
tag_at-requires-clause-tag g c =
    let h = c.requires.tag in
    found_there _ h.rs c.args.at h.at c.parts_at.result.offset h.closed h.tag h.is (tag_found _ h.rs c.args.at h.at c.nearest_tag-first.result h.closed h.tag c.parts_at.result h.is (c.nearest_tag-first.ensures.nearest h.rs h.shows h.is.first h.is.nearest) (c.parts_at.ensures.parts h.rs h.shows))
