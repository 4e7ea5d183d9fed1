use Rattle.std.proofs.Common.{◌≡◌, ◌+◌, suc, ap, subst, arith}
use Rattle.xml_model.specs.Scan.{level_of}
use Rattle.vtd_words.specs.Table.{nodes_of}
use Rattle.vtd_words.proofs.Nodes.{record_shown}
use Rattle.xpath_axes.specs.Tests.{node_test}
use Rattle.xpath_steps.specs.Forward.{Passed}
use Rattle.xpath_steps.specs.Waits.{flagged}
use Rattle.xpath_steps.proofs.forward.pass_records.Goals as goal

pub loop-at-init : goal.loop-at-init
loop-at-init g c = record { names = c.requires.names; later = omega arith; range = λ l. l; passed = λ nest s cs k l none h. h }

pub loop-at-preserved : goal.loop-at-preserved
loop-at-preserved g c = record {
  names = c.in_ok-pass_record.ensures.names;
  later = omega (arith, c.loop-at.invariant.later);
  range = λ l. omega (arith, c.loop-at-test.true);
  passed = λ nest s cs k l none h.
      let next : suc c.loop-at.at ≡ c.loop-at.at + 1 = omega arith in
      subst (λ m. Passed c.args.sought cs (nodes_of c.args.table.now.bytes nest) (node_test c.args.test.now) m (flagged c.pass_record.new.flags)
      c.pass_record.new.held.items) next
      (c.in_ok-pass_record.ensures.passed nest s cs k (none c.loop-at.at c.loop-at.invariant.later (omega (arith, c.loop-at-test.true)))
      (c.loop-at.invariant.passed nest s cs k l none h));
}

pub returns-then-level_of-floor-clause-stop : goal.returns-then-level_of-floor-clause-stop
returns-then-level_of-floor-clause-stop g c = λ nest s l.
    let shown = record_shown _ _ c.words-words.ensures.table.few c.loop-at.at c.parts_at.result
    (rw c.words-words.ensures.value at c.parts_at.ensures.parts) nest s in
    omega (arith, c.if-level_of-floor.true, c.level_of.ensures, ap level_of shown)
