use Rattle.std.proofs.Common.{◌∙◌, sym, ap, true, false, Bool}
use Rattle.std.specs.Prelude.{codes, option_map}
use Rattle.std.specs.Str.{chars}
use Rattle.xml_chars.specs.Reading.{read_name}
use Rattle.xml_items.specs.Counting.{with_count}
use Rattle.xml_items.specs.Reading.{is_name_read, as_instruction, as_declaration, read_by}
use Rattle.xml_items.proofs.CountLemmas.{counts, instruction_counts}
use Rattle.xml_items.proofs.WalkLemmas.{by_form, form_question}
use Rattle.xml_items.proofs.question_item_of.Goals as goal

pub returns-then-not-begins_xml : goal.returns-then-not-begins_xml
returns-then-not-begins_xml c =
    c.without_attributes.ensures ∙ ap (option_map (with_count 0)) c.instruction_at.ensures ∙ instruction_counts c.args.at (chars c.args.text.now)
    ∙ sym (by_form c.args.at c.args.first (chars c.args.text.now) as_instruction (form_question (chars c.args.text.now) (chars c.args.rest.now) false c.requires.rest c.requires.mark (ap (λ l. is_name_read (codes "xml") (read_name l)) (sym c.after_first.ensures) ∙ sym c.begins_xml.ensures ∙ c.if-not-begins_xml.true)))

pub returns-then-first : goal.returns-then-first
returns-then-first c =
    c.declaration_at.ensures ∙ ap (λ (b : Bool). counts c.args.at (read_by b as_declaration (chars c.args.text.now))) (sym c.if-first.true)
    ∙ sym (by_form c.args.at c.args.first (chars c.args.text.now) as_declaration (form_question (chars c.args.text.now) (chars c.args.rest.now) true c.requires.rest c.requires.mark (ap (λ l. is_name_read (codes "xml") (read_name l)) (sym c.after_first.ensures) ∙ sym c.begins_xml.ensures ∙ c.if-not-begins_xml.false)))

pub returns-else-first : goal.returns-else-first
returns-else-first c =
    ap (λ (b : Bool). counts c.args.at (read_by b as_declaration (chars c.args.text.now))) (sym c.if-first.false)
    ∙ sym (by_form c.args.at c.args.first (chars c.args.text.now) as_declaration (form_question (chars c.args.text.now) (chars c.args.rest.now) true c.requires.rest c.requires.mark (ap (λ l. is_name_read (codes "xml") (read_name l)) (sym c.after_first.ensures) ∙ sym c.begins_xml.ensures ∙ c.if-not-begins_xml.false)))
