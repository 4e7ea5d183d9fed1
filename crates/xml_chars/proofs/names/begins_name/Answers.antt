use Rattle.std.proofs.Common.{sym, ap, ◌∙◌}
use Rattle.std.specs.Str.{chars}
use Rattle.xml_chars.specs.Wide.{is_ascii_start}
use Rattle.xml_chars.proofs.Runs.{begins_low}
use Rattle.xml_chars.proofs.names.begins_name.Goals as goal

pub returns-then-first-lt128 : goal.returns-then-first-lt128
returns-then-first-lt128 c = c.is_ascii_start.ensures ∙ ap is_ascii_start c.head-first.ensures ∙ sym (begins_low (chars c.args.text.now) (rw c.head-first.ensures at c.if-first-lt128.true))
