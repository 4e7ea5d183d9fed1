use Rattle.std.proofs.Common.{sym, ap, ◌∙◌}
use Rattle.std.specs.Str.{chars}
use Rattle.xml_chars.specs.Readers.{skip}
use Rattle.xml_items.specs.Quotes.{quote_of}
use Rattle.xml_items.specs.Reading.{read_value}
use Rattle.xml_items.proofs.PlainLemmas.{value_run, value_done, stops_by_head}
use Rattle.xml_items.proofs.pieces.after_value.Goals as goal

pub returns-then-head-quote-clause-read : goal.returns-then-head-quote-clause-read
returns-then-head-quote-clause-read c =
    let q = quote_of c.args.quote in
    let stops = stops_by_head q c.args.quote (chars c.after_plain_value-rest.result.now) c.requires (sym c.head.ensures ∙ c.if-head-quote.true) in
    sym (value_run q (chars c.args.text.now) ∙ ap (skip (read_value q)) (sym c.after_plain_value-rest.ensures.rest) ∙ value_done q (chars c.after_plain_value-rest.result.now) stops)

pub returns-else-head-quote-clause-read : goal.returns-else-head-quote-clause-read
returns-else-head-quote-clause-read c = let q = quote_of c.args.quote in c.after_any_value.ensures.read ∙ ap (skip (read_value q)) c.after_plain_value-rest.ensures.rest ∙ sym (value_run q (chars c.args.text.now))
