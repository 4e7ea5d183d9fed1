use Rattle.std.proofs.Common.{sym, ◌∙◌}
use Rattle.xml_items.proofs.UnitLemmas.{form_comment, form_instruction, form_double, form_single, form_character}
use Rattle.xml_items.proofs.doctypes.after_inner.Goals as goal

pub returns-then-holds-clause-read : goal.returns-then-holds-clause-read
returns-then-holds-clause-read c = c.after_comment.ensures.read ∙ sym (form_comment _ (sym c.holds.ensures ∙ c.if-holds.true))

pub returns-then-holds-2-clause-read : goal.returns-then-holds-2-clause-read
returns-then-holds-2-clause-read c = c.after_instruction.ensures.read ∙ sym (form_instruction _ (sym c.holds.ensures ∙ c.if-holds.false) (sym c.holds-2.ensures ∙ c.if-holds-2.true))

pub returns-then-head-eq34-clause-read : goal.returns-then-head-eq34-clause-read
returns-then-head-eq34-clause-read c = c.after_quoted.ensures.read ∙ sym (form_double _ (sym c.holds.ensures ∙ c.if-holds.false) (sym c.holds-2.ensures ∙ c.if-holds-2.false) (sym c.head.ensures ∙ c.if-head-eq34.true))

pub returns-then-head-eq39-clause-read : goal.returns-then-head-eq39-clause-read
returns-then-head-eq39-clause-read c = c.after_quoted-then-head-eq39.ensures.read ∙ sym (form_single _ (sym c.holds.ensures ∙ c.if-holds.false) (sym c.holds-2.ensures ∙ c.if-holds-2.false) (sym c.head-2.ensures ∙ c.if-head-eq39.true))

pub returns-clause-read : goal.returns-clause-read
returns-clause-read c =
    c.after_inner_char.ensures.read ∙ sym (form_character _ (sym c.holds.ensures ∙ c.if-holds.false) (sym c.holds-2.ensures ∙ c.if-holds-2.false) (λ e. c.if-head-eq34.false (c.head.ensures ∙ e)) (λ e. c.if-head-eq39.false (c.head-2.ensures ∙ e)))
