use Rattle.std.proofs.Common.{rules, sym, ◌∙◌}
use Rattle.std.specs.Str.{IsUtf8}
use Rattle.xml_items.proofs.MarkSpans.{text_1, text_2, text_3, text_4}
use Rattle.xml_items.proofs.texts.text_item_at.Goals as goal

pub returns-in_err-rest : goal.returns-in_err-rest
returns-in_err-rest c = rw c.from_residual.ensures (sym (text_1 c.args.at _ c.in_err-rest.ensures.read))

pub returns-then-rest-text : goal.returns-then-rest-text
returns-then-rest-text c =
    let u : IsUtf8 c.in_ok-rest.rest.now = search rules in
    sym (text_2 c.args.at c.args.text.now c.in_ok-rest.rest.now c.utf8.text u c.in_ok-rest.ensures.read c.if-rest-text.true)

pub returns-then-not-ends_text : goal.returns-then-not-ends_text
returns-then-not-ends_text c = sym (text_3 c.args.at c.args.text.now c.in_ok-rest.rest.now c.in_ok-rest.ensures.read (sym c.ends_text.ensures ∙ c.if-not-ends_text.true))

pub returns : goal.returns
returns c =
    let u : IsUtf8 c.in_ok-rest.rest.now = search rules in
    rw (c.span_between.ensures, c.span_between-2.ensures, c.span_between-3.ensures) (text_4 c.args.at c.args.text.now c.in_ok-rest.rest.now c.utf8.text u c.in_ok-rest.ensures.read c.if-rest-text.false (sym c.ends_text.ensures ∙ c.if-not-ends_text.false))
