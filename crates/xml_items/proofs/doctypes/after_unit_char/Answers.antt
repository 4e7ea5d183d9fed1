use Rattle.std.proofs.Common.{sym, ◌∙◌}
use Rattle.xml_chars.proofs.Runs.{char_some, char_none}
use Rattle.xml_items.proofs.UnitLemmas.{char_nil, char_yes, char_no}
use Rattle.xml_items.proofs.doctypes.after_unit_char.Goals as goal

pub returns-in_err-c-clause-read : goal.returns-in_err-c-clause-read
returns-in_err-c-clause-read c = rw c.from_residual.ensures (sym (char_nil _ (char_none _ c.in_err-c.ensures.read)))

pub returns-then-is_unit_char-clause-read : goal.returns-then-is_unit_char-clause-read
returns-then-is_unit_char-clause-read c = sym (char_yes _ _ c.in_ok-c.c (char_some _ _ _ c.in_ok-c.ensures.read) (sym c.is_unit_char.ensures ∙ c.if-is_unit_char.true))

pub returns-else-is_unit_char-clause-read : goal.returns-else-is_unit_char-clause-read
returns-else-is_unit_char-clause-read c = sym (char_no _ _ c.in_ok-c.c (char_some _ _ _ c.in_ok-c.ensures.read) (sym c.is_unit_char.ensures ∙ c.if-is_unit_char.false))
