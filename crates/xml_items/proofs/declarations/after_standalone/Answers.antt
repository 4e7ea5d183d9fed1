use Rattle.std.proofs.Common.{◌∙◌, sym}
use Rattle.std.specs.Prelude.{codes}
use Rattle.xml_model.specs.Items.{is_yes_or_no}
use Rattle.xml_items.proofs.PartLemmas.{part_none, part_no, part_yes, option_none, option_some}
use Rattle.xml_items.proofs.declarations.after_standalone.Goals as goal

pub returns-then-not-begins_part-clause-read : goal.returns-then-not-begins_part-clause-read
returns-then-not-begins_part-clause-read c = sym (option_none (codes "standalone") is_yes_or_no _ (sym c.begins_part.ensures ∙ c.if-not-begins_part.true))

pub returns-in_err-value-clause-read : goal.returns-in_err-value-clause-read
returns-in_err-value-clause-read c = rw c.from_residual.ensures (sym (option_some (codes "standalone") is_yes_or_no _ (sym c.begins_part.ensures ∙ c.if-not-begins_part.false) ∙ part_none (codes "standalone") is_yes_or_no _ c.in_err-value.ensures.read))

pub returns-then-is_yes_or_no-clause-read : goal.returns-then-is_yes_or_no-clause-read
returns-then-is_yes_or_no-clause-read c = sym (option_some (codes "standalone") is_yes_or_no _ (sym c.begins_part.ensures ∙ c.if-not-begins_part.false) ∙ part_yes (codes "standalone") is_yes_or_no _ _ _ c.in_ok-value.ensures.read (sym c.is_yes_or_no.ensures ∙ c.if-is_yes_or_no.true))

pub returns-else-is_yes_or_no-clause-read : goal.returns-else-is_yes_or_no-clause-read
returns-else-is_yes_or_no-clause-read c = sym (option_some (codes "standalone") is_yes_or_no _ (sym c.begins_part.ensures ∙ c.if-not-begins_part.false) ∙ part_no (codes "standalone") is_yes_or_no _ _ _ c.in_ok-value.ensures.read (sym c.is_yes_or_no.ensures ∙ c.if-is_yes_or_no.false))
