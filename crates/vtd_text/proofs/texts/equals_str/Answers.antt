use Rattle.std.proofs.Common.{rules, sym, ◌∙◌}
use Rattle.std.specs.Str.{chars}
use Rattle.vtd_text.proofs.TextsLemmas.{begin_same, go_on, stop_here, end_same}
use Rattle.vtd_text.proofs.texts.equals_str.Goals as goal

pub returns-in_default-after_both : goal.returns-in_default-after_both
returns-in_default-after_both g c =
    sym (c.loop-c.invariant.same ∙ stop_here c.loop-c.one c.next.new.self (chars c.next_plain-in-Some-next.result.now) c.next_plain-in-Some-next.new.self (chars c.loop-c.rest.now) c.in-Some-next.c c.in-Some-next.ensures.steps c.next_plain-in-Some-next.ensures c.in_default-after_both.ensures)

pub loop-c-init : goal.loop-c-init
loop-c-init g c = record {
  same = begin_same c.args.one (chars c.next_plain.result.now) c.next_plain.new.self (chars c.args.text.now) (chars c.in-Some.rest.now) c.next_plain.ensures c.in-Some.ensures;
  text = search rules;
}

pub loop-c-preserved : goal.loop-c-preserved
loop-c-preserved g c = record {
  same = c.loop-c.invariant.same ∙ go_on c.loop-c.one c.next.new.self (chars c.next_plain-in-Some-next.result.now) c.next_plain-in-Some-next.new.self (chars c.loop-c.rest.now) (chars c.in-Some-after_both.after.now) c.in-Some-next.c c.in-Some-next.ensures.steps c.next_plain-in-Some-next.ensures c.in-Some-after_both.ensures;
  text = search rules;
}

pub returns : goal.returns
returns g c = c.is_empty.ensures ∙ end_same c.loop-c.one c.loop-c.rest.now c.loop-c.invariant.text c.in_default-next.ensures.steps.0 ∙ sym c.loop-c.invariant.same
