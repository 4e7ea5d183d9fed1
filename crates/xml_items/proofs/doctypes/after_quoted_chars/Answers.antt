use Rattle.std.proofs.Common.{sym, ap, ◌∙◌, arith}
use Rattle.std.specs.Str.{chars}
use Rattle.xml_chars.specs.Readers.{after_run}
use Rattle.xml_chars.proofs.Runs.{after_more, after_done, after_part}
use Rattle.xml_items.specs.Plain.{is_plain_value}
use Rattle.xml_items.specs.Quotes.{quote_of}
use Rattle.xml_items.proofs.UnitLemmas.{quoted_char, plain_quoted}
use Rattle.xml_items.proofs.doctypes.after_quoted_chars.Goals as goal

pub loop-after-init : goal.loop-after-init
loop-after-init c = record {
  same = ap (after_run (quoted_char c.args.quote)) c.after_plain_value-rest.ensures.rest ∙ sym (after_part is_plain_value (quoted_char c.args.quote) (plain_quoted (quote_of c.args.quote) c.args.quote c.requires) (chars c.args.text.now));
  shorter = c.after_plain_value-rest.ensures.shorter;
  utf8 = c.after_plain_value-rest.utf8;
}

pub loop-after-preserved : goal.loop-after-preserved
loop-after-preserved c = record {
  same = ap (after_run (quoted_char c.args.quote)) c.after_plain_value-rest-in-Some.ensures.rest
      ∙ sym (after_part is_plain_value (quoted_char c.args.quote) (plain_quoted (quote_of c.args.quote) c.args.quote c.requires) (chars c.in-Some.after.now))
      ∙ sym (after_more (quoted_char c.args.quote) (chars c.loop-after.rest.now) (chars c.in-Some.after.now) (sym c.in-Some.ensures.read))
      ∙ c.loop-after.invariant.same;
  shorter = omega (arith, c.in-Some.ensures.shorter);
  utf8 = c.after_plain_value-rest-in-Some.utf8;
}

pub returns-clause-rest : goal.returns-clause-rest
returns-clause-rest c = sym (after_done (quoted_char c.args.quote) (chars c.loop-after.rest.now) (sym c.in_default.ensures.read)) ∙ c.loop-after.invariant.same
