use Rattle.std.proofs.Common.{sym, ap, ◌∙◌, arith}
use Rattle.std.specs.Str.{chars}
use Rattle.xml_model.specs.Chars.{is_name_char}
use Rattle.xml_chars.specs.Wide.{is_ascii_name}
use Rattle.xml_chars.specs.Readers.{after_run}
use Rattle.xml_chars.proofs.Runs.{after_more, after_done, after_part}
use Rattle.xml_chars.proofs.names.after_any_name_chars.Goals as goal
use Rattle.xml_chars.proofs.Runs.{ascii_is_name}

pub loop-after-preserved : goal.loop-after-preserved
loop-after-preserved c = record {
  same = ap (after_run is_name_char) c.after_ascii_name-rest-in-Some.ensures.rest
      ∙ sym (after_part is_ascii_name is_name_char ascii_is_name (chars c.in-Some.after.now))
      ∙ sym (after_more is_name_char (chars c.loop-after.rest.now) (chars c.in-Some.after.now) (sym c.in-Some.ensures.read))
      ∙ c.loop-after.invariant.same;
  shorter = omega (arith, c.in-Some.ensures.shorter);
  utf8 = c.after_ascii_name-rest-in-Some.utf8;
}

pub loop-after-init : goal.loop-after-init
loop-after-init c = record {
  same = ap (after_run is_name_char) c.after_ascii_name-rest.ensures.rest ∙ sym (after_part is_ascii_name is_name_char ascii_is_name (chars c.args.text.now));
  shorter = c.after_ascii_name-rest.ensures.shorter;
  utf8 = c.after_ascii_name-rest.utf8;
}

pub returns-clause-rest : goal.returns-clause-rest
returns-clause-rest c = sym (after_done is_name_char (chars c.loop-after.rest.now) (sym c.in_default.ensures.read)) ∙ c.loop-after.invariant.same
