use Rattle.std.proofs.Common.{arith}
use Rattle.vtd_cursor.proofs.PieceLemmas.{ending_last, end_tags_at}
use Rattle.vtd_cursor.proofs.pieces.end_of_level.Goals as goal

pub last_piece-piece-requires-clause-piece : goal.last_piece-piece-requires-clause-piece
last_piece-piece-requires-clause-piece g c =
    let h = c.requires.ending in
    record { rs = h.rs; shows = h.shows; level = c.args.level; place = h.is.place; opened = h.is.opened; piece = ending_last _ h.rs c.args.level h.stop c.args.last h.is }

pub overflow_sub-piece : goal.overflow_sub-piece
overflow_sub-piece g c =
    let h = c.requires.ending in
    omega (arith, c.last_piece-piece.ensures.opened h.rs h.shows c.args.level h.is.place h.is.opened (ending_last _ h.rs c.args.level h.stop c.args.last h.is))

pub after_end_tags-requires-clause-tags : goal.after_end_tags-requires-clause-tags
after_end_tags-requires-clause-tags g c =
    let h = c.requires.ending in
    let last = ending_last _ h.rs c.args.level h.stop c.args.last h.is in
    record { to = h.stop; hold = end_tags_at _ h.is.opened h.is.place h.stop c.args.level c.last_piece-piece.result.opened c.last_piece-piece.result.end (c.last_piece-piece.ensures.opened h.rs h.shows c.args.level h.is.place h.is.opened last) (c.last_piece-piece.ensures.end h.rs h.shows c.args.level h.is.place h.is.opened last) h.is.tags }

pub returns : goal.returns
returns g c = λ rs s stop is.
    let last = ending_last _ rs c.args.level stop c.args.last is in
    c.after_end_tags.ensures stop (end_tags_at _ is.opened is.place stop c.args.level c.last_piece-piece.result.opened c.last_piece-piece.result.end (c.last_piece-piece.ensures.opened rs s c.args.level is.place is.opened last) (c.last_piece-piece.ensures.end rs s c.args.level is.place is.opened last) is.tags)
