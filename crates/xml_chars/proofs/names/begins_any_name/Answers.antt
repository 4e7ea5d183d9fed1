use Rattle.std.proofs.Common.{sym, ap, ◌∙◌}
use Rattle.xml_chars.specs.Reading.{begins_name}
use Rattle.xml_chars.proofs.Runs.{char_some, char_none}
use Rattle.xml_chars.proofs.names.begins_any_name.Goals as goal

pub returns-in-Some : goal.returns-in-Some
returns-in-Some c = c.is_name_start.ensures ∙ sym (ap begins_name (char_some _ _ _ c.in-Some.ensures.read))

pub returns-in-None : goal.returns-in-None
returns-in-None c = sym (ap begins_name (char_none _ c.in-None.ensures.read))
