use Rattle.std.proofs.Common.{sym, refl, ◌∙◌}
use Rattle.xml_chars.proofs.Runs.{char_some, char_none}
use Rattle.xml_chars.proofs.names.after_name_char.Goals as goal

pub returns-in_err-c-clause-read : goal.returns-in_err-c-clause-read
returns-in_err-c-clause-read c = rw (c.from_residual.ensures, char_none _ c.in_err-c.ensures.read) refl

pub returns-then-is_name_char-clause-read : goal.returns-then-is_name_char-clause-read
returns-then-is_name_char-clause-read c = rw (char_some _ _ _ c.in_ok-c.ensures.read, sym c.is_name_char.ensures ∙ c.if-is_name_char.true) refl

pub returns-else-is_name_char-clause-read : goal.returns-else-is_name_char-clause-read
returns-else-is_name_char-clause-read c = rw (char_some _ _ _ c.in_ok-c.ensures.read, sym c.is_name_char.ensures ∙ c.if-is_name_char.false) refl
