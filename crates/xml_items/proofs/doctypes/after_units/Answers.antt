use Rattle.std.proofs.Common.{sym, ap, ◌∙◌, arith, rules, Bool}
use Rattle.std.specs.Prelude.{◌==◌}
use Rattle.std.specs.Str.{chars, IsUtf8}
use Rattle.std.proofs.lemmas.Bool.{and_parts, eqb-true}
use Rattle.xml_items.proofs.UnitLemmas.{units_start, units_after, units_more, units_stuck, units_twice, units_done}
use Rattle.xml_items.proofs.doctypes.after_units.Goals as goal

pub returns-then-opens-seen-clause-read : goal.returns-then-opens-seen-clause-read
returns-then-opens-seen-clause-read c =
    let q = and_parts (c.head-opens.result == 91) c.loop-opens.seen c.if-opens-seen.true in
    sym (units_start (chars c.args.text.now) ∙ sym c.loop-opens.invariant.same ∙ ap (λ (b : Bool). units_after b (chars c.loop-opens.rest.now)) q.1 ∙ units_twice (chars c.loop-opens.rest.now) (λ e. c.loop-opens-test.true (c.head.ensures ∙ e)) (sym c.head-opens.ensures ∙ eqb-true c.head-opens.result 91 q.0))

pub returns-in_err-rest-clause-read : goal.returns-in_err-rest-clause-read
returns-in_err-rest-clause-read c =
    rw c.from_residual.ensures (sym (units_start (chars c.args.text.now) ∙ sym c.loop-opens.invariant.same ∙ units_stuck (chars c.loop-opens.rest.now) c.loop-opens.seen (λ e. c.loop-opens-test.true (c.head.ensures ∙ e)) c.in_err-rest.ensures.read))

pub loop-opens-preserved : goal.loop-opens-preserved
loop-opens-preserved c =
    let v : IsUtf8 c.in_ok-rest.rest.now = search rules in
    record {
      same = rw c.head-opens.ensures (sym (units_more (chars c.loop-opens.rest.now) (chars c.in_ok-rest.rest.now) c.loop-opens.seen (λ e. c.loop-opens-test.true (c.head.ensures ∙ e)) (rw c.head-opens.ensures at c.if-opens-seen.false) c.in_ok-rest.ensures.read) ∙ c.loop-opens.invariant.same);
      shorter = omega (arith, c.in_ok-rest.ensures.shorter);
      utf8 = v;
    }

pub returns-clause-read : goal.returns-clause-read
returns-clause-read c = sym (units_start (chars c.args.text.now) ∙ sym c.loop-opens.invariant.same ∙ units_done (chars c.loop-opens.rest.now) c.loop-opens.seen (sym c.head.ensures ∙ c.loop-opens-test.false))
