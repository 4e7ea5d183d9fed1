use Rattle.std.proofs.Common.{sym, ◌∙◌}
use Rattle.xml_items.proofs.UnitLemmas.{unit_double, unit_single, unit_subset, unit_character}
use Rattle.xml_items.proofs.doctypes.after_unit.Goals as goal

pub returns-then-head-eq34-clause-read : goal.returns-then-head-eq34-clause-read
returns-then-head-eq34-clause-read c = c.after_quoted.ensures.read ∙ sym (unit_double _ (sym c.head.ensures ∙ c.if-head-eq34.true))

pub returns-then-head-eq39-clause-read : goal.returns-then-head-eq39-clause-read
returns-then-head-eq39-clause-read c = c.after_quoted-then-head-eq39.ensures.read ∙ sym (unit_single _ (sym c.head-2.ensures ∙ c.if-head-eq39.true))

pub returns-then-head-eq91-clause-read : goal.returns-then-head-eq91-clause-read
returns-then-head-eq91-clause-read c = c.after_whole_subset.ensures.read ∙ sym (unit_subset _ (sym c.head-3.ensures ∙ c.if-head-eq91.true))

pub returns-clause-read : goal.returns-clause-read
returns-clause-read c =
    c.after_unit_char.ensures.read ∙ sym (unit_character _ (λ e. c.if-head-eq34.false (c.head.ensures ∙ e)) (λ e. c.if-head-eq39.false (c.head-2.ensures ∙ e)) (λ e. c.if-head-eq91.false (c.head-3.ensures ∙ e)))
