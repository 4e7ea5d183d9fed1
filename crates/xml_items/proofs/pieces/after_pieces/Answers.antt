use Rattle.std.proofs.Common.{sym, ap, ◌∙◌}
use Rattle.std.specs.Str.{chars}
use Rattle.xml_chars.specs.Readers.{skip}
use Rattle.xml_items.specs.Reading.{read_pieces}
use Rattle.xml_items.proofs.PlainLemmas.{text_run, text_ended}
use Rattle.xml_items.proofs.pieces.after_pieces.Goals as goal

pub returns-then-ends_text-clause-read : goal.returns-then-ends_text-clause-read
returns-then-ends_text-clause-read c = sym (text_run (chars c.args.text.now) ∙ ap (skip read_pieces) (sym c.after_plain_text-rest.ensures.rest) ∙ text_ended (chars c.after_plain_text-rest.result.now) (sym c.ends_text.ensures ∙ c.if-ends_text.true))

pub returns-else-ends_text-clause-read : goal.returns-else-ends_text-clause-read
returns-else-ends_text-clause-read c = c.after_any_pieces.ensures.read ∙ ap (skip read_pieces) c.after_plain_text-rest.ensures.rest ∙ sym (text_run (chars c.args.text.now))
