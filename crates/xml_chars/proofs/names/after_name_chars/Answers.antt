use Rattle.std.proofs.Common.{sym, ap, ◌∙◌}
use Rattle.std.specs.Str.{chars}
use Rattle.xml_chars.specs.Readers.{after_run}
use Rattle.xml_model.specs.Chars.{is_name_char}
use Rattle.xml_chars.proofs.Runs.{ascii_name_first, ascii_name_all}
use Rattle.xml_chars.proofs.names.after_name_chars.Goals as goal

pub returns-then-head-lt128-clause-rest : goal.returns-then-head-lt128-clause-rest
returns-then-head-lt128-clause-rest c = ascii_name_all (chars c.args.text.now) (chars c.after_ascii_name-rest.result.now) c.after_ascii_name-rest.ensures.rest c.head.ensures c.if-head-lt128.true

pub returns-else-head-lt128-clause-rest : goal.returns-else-head-lt128-clause-rest
returns-else-head-lt128-clause-rest c = c.after_any_name_chars.ensures.rest ∙ ap (after_run is_name_char) c.after_ascii_name-rest.ensures.rest ∙ sym (ascii_name_first (chars c.args.text.now))
