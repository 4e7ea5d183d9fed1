use Rattle.std.proofs.Common.{◌∙◌, sym}
use Rattle.std.specs.Prelude.{codes}
use Rattle.xml_model.specs.Items.{is_encoding_name}
use Rattle.xml_items.proofs.PartLemmas.{part_none, part_no, part_yes, option_none, option_some}
use Rattle.xml_items.proofs.declarations.after_encoding.Goals as goal

pub returns-then-not-begins_part-clause-read : goal.returns-then-not-begins_part-clause-read
returns-then-not-begins_part-clause-read c = sym (option_none (codes "encoding") is_encoding_name _ (sym c.begins_part.ensures ∙ c.if-not-begins_part.true))

pub returns-in_err-value-clause-read : goal.returns-in_err-value-clause-read
returns-in_err-value-clause-read c = rw c.from_residual.ensures (sym (option_some (codes "encoding") is_encoding_name _ (sym c.begins_part.ensures ∙ c.if-not-begins_part.false) ∙ part_none (codes "encoding") is_encoding_name _ c.in_err-value.ensures.read))

pub returns-then-is_encoding_name-clause-read : goal.returns-then-is_encoding_name-clause-read
returns-then-is_encoding_name-clause-read c = sym (option_some (codes "encoding") is_encoding_name _ (sym c.begins_part.ensures ∙ c.if-not-begins_part.false) ∙ part_yes (codes "encoding") is_encoding_name _ _ _ c.in_ok-value.ensures.read (sym c.is_encoding_name.ensures ∙ c.if-is_encoding_name.true))

pub returns-else-is_encoding_name-clause-read : goal.returns-else-is_encoding_name-clause-read
returns-else-is_encoding_name-clause-read c = sym (option_some (codes "encoding") is_encoding_name _ (sym c.begins_part.ensures ∙ c.if-not-begins_part.false) ∙ part_no (codes "encoding") is_encoding_name _ _ _ c.in_ok-value.ensures.read (sym c.is_encoding_name.ensures ∙ c.if-is_encoding_name.false))
