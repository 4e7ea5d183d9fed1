use Rattle.std.proofs.Common.{◌∙◌, sym, true, false, add-zero}
use Rattle.vtd_cursor.proofs.PieceLemmas.{tag_piece_end, tag_piece_opened, empty_kind, start_kind}
use Rattle.vtd_cursor.proofs.pieces.last_piece.Goals as goal

pub returns-in-EmptyTag-clause-end : goal.returns-in-EmptyTag-clause-end
returns-in-EmptyTag-clause-end g c = λ rs s level place opened h.
    tag_piece_end _ rs level c.args.last place opened c.parts_at-parts.result c.tag_of-tag.result (c.parts_at-parts.ensures.parts rs s) (sym c.ends_tag.ensures ∙ c.if-not-ends_tag.false) (c.tag_of-tag.ensures rs s) h

pub returns-in-EmptyTag-clause-opened : goal.returns-in-EmptyTag-clause-opened
returns-in-EmptyTag-clause-opened g c = λ rs s level place opened h.
    sym (add-zero _) ∙ tag_piece_opened _ rs level c.args.last place opened c.parts_at-parts.result c.tag_of-tag.result true (c.parts_at-parts.ensures.parts rs s) (sym c.ends_tag.ensures ∙ c.if-not-ends_tag.false) (c.tag_of-tag.ensures rs s)
    (λ b k. empty_kind _ b c.in-EmptyTag.is k) h

pub returns-in_default : goal.returns-in_default
returns-in_default g c = record {
  end = λ rs s level place opened h.
      tag_piece_end _ rs level c.args.last place opened c.parts_at-parts.result c.tag_of-tag.result (c.parts_at-parts.ensures.parts rs s) (sym c.ends_tag.ensures ∙ c.if-not-ends_tag.false) (c.tag_of-tag.ensures rs s) h;
  opened = λ rs s level place opened h.
      tag_piece_opened _ rs level c.args.last place opened c.parts_at-parts.result c.tag_of-tag.result false (c.parts_at-parts.ensures.parts rs s) (sym c.ends_tag.ensures ∙ c.if-not-ends_tag.false) (c.tag_of-tag.ensures rs s)
      (λ b k. start_kind _ b c.in_default.not-EmptyTag k) h;
}
