use Rattle.std.proofs.Common.{◌∙◌, sym, ap}
use Rattle.std.specs.Prelude.{option_map}
use Rattle.std.specs.Str.{chars}
use Rattle.xml_items.specs.Counting.{with_count}
use Rattle.xml_items.specs.Reading.{as_text, as_tag, as_end_tag}
use Rattle.xml_items.proofs.CountLemmas.{text_counts, end_counts}
use Rattle.xml_items.proofs.WalkLemmas.{by_form, form_text, form_end, form_tag}
use Rattle.xml_items.proofs.item_of.Goals as goal

pub returns-in_default : goal.returns-in_default
returns-in_default c = c.without_attributes.ensures ∙ ap (option_map (with_count 0)) c.text_item_at.ensures ∙ text_counts c.args.at (chars c.args.text.now) ∙ sym (by_form c.args.at c.args.first (chars c.args.text.now) as_text (form_text (chars c.args.text.now) c.in_default.ensures.read))

pub returns-then-mark-eq47 : goal.returns-then-mark-eq47
returns-then-mark-eq47 c = c.without_attributes-then-mark-eq47.ensures ∙ ap (option_map (with_count 0)) c.end_tag_at.ensures ∙ end_counts c.args.at (chars c.args.text.now) ∙ sym (by_form c.args.at c.args.first (chars c.args.text.now) as_end_tag (form_end (chars c.args.text.now) (chars c.in-Some.rest.now) c.in-Some.ensures.read (sym c.head-mark.ensures ∙ c.if-mark-eq47.true)))

pub returns : goal.returns
returns c = c.tag_at.ensures ∙ sym (by_form c.args.at c.args.first (chars c.args.text.now) as_tag (form_tag (chars c.args.text.now) (chars c.in-Some.rest.now) c.in-Some.ensures.read (λ e. c.if-mark-eq47.false (c.head-mark.ensures ∙ e)) (λ e. c.if-mark-eq63.false (c.head-mark.ensures ∙ e)) (λ e. c.if-mark-eq33.false (c.head-mark.ensures ∙ e))))
