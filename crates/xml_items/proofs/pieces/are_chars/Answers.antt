use Rattle.std.proofs.Common.{sym, ap, ◌∙◌}
use Rattle.std.specs.Str.{chars}
use Rattle.std.specs.List.{list_all}
use Rattle.xml_model.specs.Chars.{is_char}
use Rattle.xml_chars.proofs.Runs.{char_some, char_none}
use Rattle.xml_items.proofs.PlainLemmas.{chars_run, chars_more, chars_no}
use Rattle.xml_items.proofs.pieces.are_chars.Goals as goal

pub loop-c-init : goal.loop-c-init
loop-c-init c = record { same = ap (list_all is_char) c.after_plain_char-rest.ensures.rest ∙ sym (chars_run (chars c.args.text.now)); utf8 = c.after_plain_char-rest.utf8 }

pub loop-c-preserved : goal.loop-c-preserved
loop-c-preserved c = record {
  same = ap (list_all is_char) c.after_plain_char-rest-in-Some.ensures.rest
      ∙ sym (chars_more (chars c.loop-c.rest.now) (chars c.in-Some.after.now) c.in-Some.c (char_some _ _ _ c.in-Some.ensures.read) (sym c.is_char.ensures ∙ c.if-not-is_char.false))
      ∙ c.loop-c.invariant.same;
  utf8 = c.after_plain_char-rest-in-Some.utf8;
}

pub returns-then-not-is_char : goal.returns-then-not-is_char
returns-then-not-is_char c = sym (chars_no (chars c.loop-c.rest.now) (chars c.in-Some.after.now) c.in-Some.c (char_some _ _ _ c.in-Some.ensures.read) (sym c.is_char.ensures ∙ c.if-not-is_char.true)) ∙ c.loop-c.invariant.same

pub returns : goal.returns
returns c = sym (ap (list_all is_char) (char_none _ c.in_default.ensures.read)) ∙ c.loop-c.invariant.same
