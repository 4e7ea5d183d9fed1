use Rattle.std.proofs.Common.{◌∙◌, sym, ap}
use Rattle.std.specs.Prelude.{option_map}
use Rattle.std.specs.Str.{chars}
use Rattle.xml_chars.specs.Reading.{ascii_head}
use Rattle.xml_items.specs.Counting.{with_count}
use Rattle.xml_items.specs.Reading.{as_comment, as_cdata, as_doctype}
use Rattle.xml_items.proofs.CountLemmas.{comment_counts, cdata_counts, doctype_counts}
use Rattle.xml_items.proofs.WalkLemmas.{by_form, form_comment, form_cdata, form_doctype}
use Rattle.xml_items.proofs.bang_item_of.Goals as goal

pub returns-then-mark-eq45 : goal.returns-then-mark-eq45
returns-then-mark-eq45 c =
    c.without_attributes.ensures ∙ ap (option_map (with_count 0)) c.comment_at.ensures ∙ comment_counts c.args.at (chars c.args.text.now)
    ∙ sym (by_form c.args.at c.args.first (chars c.args.text.now) as_comment (form_comment (chars c.args.text.now) (chars c.args.rest.now) c.requires.rest c.requires.mark (ap ascii_head (sym c.after_first.ensures) ∙ sym c.head-mark.ensures ∙ c.if-mark-eq45.true)))

pub returns-then-mark-eq91 : goal.returns-then-mark-eq91
returns-then-mark-eq91 c =
    c.without_attributes-then-mark-eq91.ensures ∙ ap (option_map (with_count 0)) c.cdata_at.ensures ∙ cdata_counts c.args.at (chars c.args.text.now)
    ∙ sym (by_form c.args.at c.args.first (chars c.args.text.now) as_cdata (form_cdata (chars c.args.text.now) (chars c.args.rest.now) c.requires.rest c.requires.mark (λ e. c.if-mark-eq45.false (c.head-mark.ensures ∙ ap ascii_head c.after_first.ensures ∙ e)) (ap ascii_head (sym c.after_first.ensures) ∙ sym c.head-mark.ensures ∙ c.if-mark-eq91.true)))

pub returns : goal.returns
returns c =
    c.without_attributes-2.ensures ∙ ap (option_map (with_count 0)) c.doctype_at.ensures ∙ doctype_counts c.args.at (chars c.args.text.now)
    ∙ sym (by_form c.args.at c.args.first (chars c.args.text.now) as_doctype (form_doctype (chars c.args.text.now) (chars c.args.rest.now) c.requires.rest c.requires.mark (λ e. c.if-mark-eq45.false (c.head-mark.ensures ∙ ap ascii_head c.after_first.ensures ∙ e)) (λ e. c.if-mark-eq91.false (c.head-mark.ensures ∙ ap ascii_head c.after_first.ensures ∙ e))))
