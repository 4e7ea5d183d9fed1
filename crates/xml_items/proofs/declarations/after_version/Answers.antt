use Rattle.std.proofs.Common.{◌∙◌, sym}
use Rattle.std.specs.Prelude.{codes}
use Rattle.xml_model.specs.Items.{is_version}
use Rattle.xml_items.proofs.PartLemmas.{part_none, part_no, part_yes}
use Rattle.xml_items.proofs.declarations.after_version.Goals as goal

pub returns-in_err-value-clause-read : goal.returns-in_err-value-clause-read
returns-in_err-value-clause-read c = rw c.from_residual.ensures (sym (part_none (codes "version") is_version _ c.in_err-value.ensures.read))

pub returns-then-is_version-clause-read : goal.returns-then-is_version-clause-read
returns-then-is_version-clause-read c = sym (part_yes (codes "version") is_version _ _ _ c.in_ok-value.ensures.read (sym c.is_version.ensures ∙ c.if-is_version.true))

pub returns-else-is_version-clause-read : goal.returns-else-is_version-clause-read
returns-else-is_version-clause-read c = sym (part_no (codes "version") is_version _ _ _ c.in_ok-value.ensures.read (sym c.is_version.ensures ∙ c.if-is_version.false))
