use Rattle.std.proofs.Common.{rules, sym, ◌∙◌}
use Rattle.std.specs.Str.{chars}
use Rattle.xml_chars.proofs.Runs.{char_some, char_none}
use Rattle.xpath_values.proofs.LanguageLemmas.{same_char, other_char, no_char, name_ended}
use Rattle.xpath_values.proofs.languages.agrees.Goals as goal

pub returns-in_default-next : goal.returns-in_default-next
returns-in_default-next g c =
    no_char c.loop-c.left (chars c.loop-c.name.now) (chars c.in-Some.rest.now) c.in-Some.c c.in_default-next.ensures.steps.0
    (char_some (chars c.loop-c.name.now) (chars c.in-Some.rest.now) c.in-Some.c c.in-Some.ensures.read) ∙ c.loop-c.invariant.same

pub returns-then-not-eq_ignore_ascii_case : goal.returns-then-not-eq_ignore_ascii_case
returns-then-not-eq_ignore_ascii_case g c =
    other_char c.loop-c.left c.next.new.self (chars c.loop-c.name.now) (chars c.in-Some.rest.now) c.in-Some-next.d c.in-Some.c
    c.in-Some-next.ensures.steps
    (char_some (chars c.loop-c.name.now) (chars c.in-Some.rest.now) c.in-Some.c c.in-Some.ensures.read)
    (sym c.eq_ignore_ascii_case.ensures ∙ c.if-not-eq_ignore_ascii_case.true) ∙ c.loop-c.invariant.same

pub loop-c-preserved : goal.loop-c-preserved
loop-c-preserved g c = record {
  same =
      same_char c.loop-c.left c.next.new.self (chars c.loop-c.name.now) (chars c.in-Some.rest.now) c.in-Some-next.d c.in-Some.c
      c.in-Some-next.ensures.steps
      (char_some (chars c.loop-c.name.now) (chars c.in-Some.rest.now) c.in-Some.c c.in-Some.ensures.read)
      (sym c.eq_ignore_ascii_case.ensures ∙ c.if-not-eq_ignore_ascii_case.false) ∙ c.loop-c.invariant.same;
  text = search rules;
}

pub returns : goal.returns
returns g c =
    c.goes_on.ensures
    ∙ name_ended c.loop-c.left (chars c.loop-c.name.now) (char_none (chars c.loop-c.name.now) c.in_default.ensures.read)
    ∙ c.loop-c.invariant.same
