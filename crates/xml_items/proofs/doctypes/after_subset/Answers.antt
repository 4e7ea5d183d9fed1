use Rattle.std.proofs.Common.{sym, ◌∙◌, arith, rules}
use Rattle.std.specs.Str.{chars, IsUtf8}
use Rattle.xml_items.proofs.UnitLemmas.{subset_more, subset_stuck, subset_done}
use Rattle.xml_items.proofs.doctypes.after_subset.Goals as goal

pub loop-rest-preserved : goal.loop-rest-preserved
loop-rest-preserved c =
    let v : IsUtf8 c.in_ok-rest.rest.now = search rules in
    record {
      same = sym (subset_more (chars c.loop-rest.rest.now) (chars c.in_ok-rest.rest.now) (λ e. c.loop-rest-test.true (c.head.ensures ∙ e)) (sym c.in_ok-rest.ensures.read)) ∙ c.loop-rest.invariant.same;
      shorter = omega (arith, c.in_ok-rest.ensures.shorter);
      utf8 = v;
    }

pub returns-in_err-rest-clause-read : goal.returns-in_err-rest-clause-read
returns-in_err-rest-clause-read c = rw c.from_residual.ensures (sym (sym c.loop-rest.invariant.same ∙ subset_stuck (chars c.loop-rest.rest.now) (λ e. c.loop-rest-test.true (c.head.ensures ∙ e)) (sym c.in_err-rest.ensures.read)))

pub returns-clause-read : goal.returns-clause-read
returns-clause-read c = sym (subset_done (chars c.loop-rest.rest.now) (sym c.head.ensures ∙ c.loop-rest-test.false)) ∙ c.loop-rest.invariant.same
