use Rattle.std.proofs.Common.{sym}
use Rattle.xml_items.specs.Quotes.{quote_of}
use Rattle.xml_items.proofs.UnitLemmas.{quoted_1, quoted_last}
use Rattle.xml_items.proofs.doctypes.after_quoted.Goals as goal

pub returns-in_err-rest-clause-read : goal.returns-in_err-rest-clause-read
returns-in_err-rest-clause-read c = rw c.from_residual.ensures (sym (quoted_1 (quote_of c.args.quote) _ c.in_err-rest.ensures.read))

pub returns-clause-read : goal.returns-clause-read
returns-clause-read c = quoted_last (quote_of c.args.quote) c.args.quote _ _ _ c.after_quote-2.result c.requires c.in_ok-rest.ensures.read c.after_quoted_chars.ensures.rest c.after_quote-2.ensures.read
