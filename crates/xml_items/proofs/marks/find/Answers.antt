use Rattle.std.proofs.Common.{sym, ap, ◌∙◌, arith}
use Rattle.std.specs.Str.{chars}
use Rattle.xml_chars.specs.Readers.{skip}
use Rattle.xml_chars.proofs.Runs.{char_some, char_none}
use Rattle.xml_items.specs.Reading.{until}
use Rattle.xml_items.proofs.FindLemmas.{until_run, until_more, until_none, until_done}
use Rattle.xml_items.proofs.marks.find.Goals as goal

pub loop-rest-init : goal.loop-rest-init
loop-rest-init c = record {
  same = ap (skip (until c.args.mark.now)) c.after_other-rest.ensures.rest ∙ sym (until_run c.args.mark.now c.args.first (chars c.args.text.now) c.requires.first.1 c.requires.first.2);
  shorter = c.after_other-rest.ensures.shorter;
  utf8 = c.after_other-rest.utf8;
}

pub returns-in_err-after-clause-read : goal.returns-in_err-after-clause-read
returns-in_err-after-clause-read c = rw c.from_residual.ensures (sym (sym c.loop-rest.invariant.same ∙ until_none c.args.mark.now (chars c.loop-rest.rest.now) (char_none _ c.in_err-after.ensures.read)))

pub loop-rest-preserved : goal.loop-rest-preserved
loop-rest-preserved c = record {
  same = ap (skip (until c.args.mark.now)) c.after_other-rest-in-loop-rest.ensures.rest
      ∙ sym (until_run c.args.mark.now c.args.first (chars c.in_ok-after.after.now) c.requires.first.1 c.requires.first.2)
      ∙ sym (until_more c.args.mark.now (chars c.loop-rest.rest.now) (chars c.in_ok-after.after.now) _ (char_some _ _ _ c.in_ok-after.ensures.read) (sym c.holds.ensures ∙ c.loop-rest-test.true))
      ∙ c.loop-rest.invariant.same;
  shorter = omega (arith, c.in_ok-after.ensures.shorter);
  utf8 = c.after_other-rest-in-loop-rest.utf8;
}

pub returns-clause-read : goal.returns-clause-read
returns-clause-read c =
    sym (until_done c.args.mark.now (chars c.loop-rest.rest.now) c.requires.first.1 (sym c.holds.ensures ∙ c.loop-rest-test.false)) ∙ c.loop-rest.invariant.same
