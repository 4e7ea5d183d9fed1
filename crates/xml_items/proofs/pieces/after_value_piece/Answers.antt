use Rattle.std.proofs.Common.{sym, ◌∙◌}
use Rattle.xml_chars.proofs.Runs.{char_some, char_none}
use Rattle.xml_items.specs.Reading.{ends_value}
use Rattle.xml_items.specs.Quotes.{quote_of}
use Rattle.xml_items.proofs.PlainLemmas.{piece_by_reference, piece_none, piece_yes, piece_no}
use Rattle.xml_items.proofs.pieces.after_value_piece.Goals as goal

pub returns-then-head-eq38-clause-read : goal.returns-then-head-eq38-clause-read
returns-then-head-eq38-clause-read c = c.after_reference.ensures.read ∙ sym (piece_by_reference (ends_value (quote_of c.args.quote)) _ (sym c.head.ensures ∙ c.if-head-eq38.true))

pub returns-in_err-c-clause-read : goal.returns-in_err-c-clause-read
returns-in_err-c-clause-read c = rw c.from_residual.ensures (sym (piece_none (ends_value (quote_of c.args.quote)) _ (char_none _ c.in_err-c.ensures.read)))

pub returns-then-is_value_literal-clause-read : goal.returns-then-is_value_literal-clause-read
returns-then-is_value_literal-clause-read c = sym (piece_yes (ends_value (quote_of c.args.quote)) _ _ c.in_ok-c.c (char_some _ _ _ c.in_ok-c.ensures.read) (sym c.is_value_literal.ensures ∙ c.if-is_value_literal.true))

pub returns-else-is_value_literal-clause-read : goal.returns-else-is_value_literal-clause-read
returns-else-is_value_literal-clause-read c = sym (piece_no (ends_value (quote_of c.args.quote)) _ _ c.in_ok-c.c (char_some _ _ _ c.in_ok-c.ensures.read) (λ e. c.if-head-eq38.false (c.head.ensures ∙ e)) (sym c.is_value_literal.ensures ∙ c.if-is_value_literal.false))
