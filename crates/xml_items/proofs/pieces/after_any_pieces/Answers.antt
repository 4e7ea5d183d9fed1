use Rattle.std.proofs.Common.{sym, ap, ◌∙◌, arith}
use Rattle.std.specs.Str.{chars}
use Rattle.xml_chars.specs.Readers.{skip}
use Rattle.xml_items.specs.Reading.{read_pieces}
use Rattle.xml_items.proofs.PlainLemmas.{text_run, text_more, text_stuck, text_done}
use Rattle.xml_items.proofs.pieces.after_any_pieces.Goals as goal

pub loop-rest-init : goal.loop-rest-init
loop-rest-init c = record {
  same = ap (skip read_pieces) c.after_plain_text-rest.ensures.rest ∙ sym (text_run (chars c.args.text.now));
  shorter = c.after_plain_text-rest.ensures.shorter;
  utf8 = c.after_plain_text-rest.utf8;
}

pub loop-rest-preserved : goal.loop-rest-preserved
loop-rest-preserved c = record {
  same = ap (skip read_pieces) c.after_plain_text-rest-in-loop-rest.ensures.rest
      ∙ sym (text_more (chars c.loop-rest.rest.now) (chars c.in_ok-after_text_piece.field-0.now) (sym c.in_text.ensures ∙ c.loop-rest-test.true) (sym c.in_ok-after_text_piece.ensures.read))
      ∙ c.loop-rest.invariant.same;
  shorter = omega (arith, c.in_ok-after_text_piece.ensures.shorter);
  utf8 = c.after_plain_text-rest-in-loop-rest.utf8;
}

pub returns-in_err-after_text_piece-clause-read : goal.returns-in_err-after_text_piece-clause-read
returns-in_err-after_text_piece-clause-read c =
    rw c.from_residual.ensures (sym (sym c.loop-rest.invariant.same ∙ text_stuck (chars c.loop-rest.rest.now) (sym c.in_text.ensures ∙ c.loop-rest-test.true) (sym c.in_err-after_text_piece.ensures.read)))

pub returns-clause-read : goal.returns-clause-read
returns-clause-read c = sym (text_done (chars c.loop-rest.rest.now) (sym c.in_text.ensures ∙ c.loop-rest-test.false)) ∙ c.loop-rest.invariant.same
