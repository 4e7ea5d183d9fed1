use Rattle.std.proofs.Common.{◌∙◌, sym}
use Rattle.std.specs.Str.{chars}
use Rattle.xml_items.specs.Reading.{as_tag}
use Rattle.xml_items.proofs.WalkLemmas.{by_form, form_tag}
use Rattle.xml_items.proofs.marked_item_of.Goals as goal

pub returns : goal.returns
returns c = c.tag_at.ensures ∙ sym (by_form c.args.at c.args.first (chars c.args.text.now) as_tag (form_tag (chars c.args.text.now) (chars c.args.rest.now) c.requires.rest (λ e. c.requires.mark e) (λ e. c.if-mark-eq63.false (c.head-mark.ensures ∙ e)) (λ e. c.if-mark-eq33.false (c.head-mark.ensures ∙ e))))
