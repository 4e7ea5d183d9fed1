use Rattle.std.proofs.Common.{sym, ap, ◌∙◌, arith}
use Rattle.std.specs.Str.{chars}
use Rattle.xml_chars.specs.Readers.{skip}
use Rattle.xml_items.specs.Reading.{read_value}
use Rattle.xml_items.specs.Quotes.{quote_of}
use Rattle.xml_items.proofs.PlainLemmas.{value_run, value_more, value_stuck, value_done, goes_by_head, stops_by_head}
use Rattle.xml_items.proofs.pieces.after_any_value.Goals as goal

pub loop-rest-init : goal.loop-rest-init
loop-rest-init c = record {
  same = ap (skip (read_value (quote_of c.args.quote))) c.after_plain_value-rest.ensures.rest ∙ sym (value_run (quote_of c.args.quote) (chars c.args.text.now));
  shorter = c.after_plain_value-rest.ensures.shorter;
  utf8 = c.after_plain_value-rest.utf8;
}

pub loop-rest-preserved : goal.loop-rest-preserved
loop-rest-preserved c = record {
  same = ap (skip (read_value (quote_of c.args.quote))) c.after_plain_value-rest-in-loop-rest.ensures.rest
      ∙ sym (value_more (quote_of c.args.quote) (chars c.loop-rest.rest.now) (chars c.in_ok-after_value_piece.field-0.now) (goes_by_head (quote_of c.args.quote) c.args.quote (chars c.loop-rest.rest.now) c.requires (λ e. c.loop-rest-test.true (c.head.ensures ∙ e))) (sym c.in_ok-after_value_piece.ensures.read))
      ∙ c.loop-rest.invariant.same;
  shorter = omega (arith, c.in_ok-after_value_piece.ensures.shorter);
  utf8 = c.after_plain_value-rest-in-loop-rest.utf8;
}

pub returns-in_err-after_value_piece-clause-read : goal.returns-in_err-after_value_piece-clause-read
returns-in_err-after_value_piece-clause-read c =
    rw c.from_residual.ensures (sym (sym c.loop-rest.invariant.same ∙ value_stuck (quote_of c.args.quote) (chars c.loop-rest.rest.now) (goes_by_head (quote_of c.args.quote) c.args.quote (chars c.loop-rest.rest.now) c.requires (λ e. c.loop-rest-test.true (c.head.ensures ∙ e))) (sym c.in_err-after_value_piece.ensures.read)))

pub returns-clause-read : goal.returns-clause-read
returns-clause-read c =
    sym (value_done (quote_of c.args.quote) (chars c.loop-rest.rest.now) (stops_by_head (quote_of c.args.quote) c.args.quote (chars c.loop-rest.rest.now) c.requires (sym c.head.ensures ∙ c.loop-rest-test.false))) ∙ c.loop-rest.invariant.same
