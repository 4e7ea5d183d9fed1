use Rattle.std.proofs.Common.{Err, refl, sym, ap, ◌∙◌}
use Rattle.vtd_script.specs.declared.endings.End.{End}
use Rattle.vtd_script.specs.Runs.{end_of}
use Rattle.vtd_script.proofs.Loop.{asked_here, asked_later, known_from, loop_on, loop_end, loop_done}
use Rattle.vtd_script.proofs.carrying.carry_out.Goals as goal

pub returns-in-Err-clause-known : goal.returns-in-Err-clause-known
returns-in-Err-clause-known g c = λ map sent files to.
    loop_end _ _ c.args.keep _ _ c.args.script.now c.loop-line.at c.in-Some.line _ _ _ _ sent _ _ c.loop-line.refused c.in-Err.end c.in-Some.ensures.line
    (c.loop-line.invariant.so_far map sent files to)
    (known_from _ _ _ _ _ _ _ _ _ _ _ _ _ _ _ _ c.loop-line.invariant.proper_kept c.loop-line.invariant.faults_kept c.in-Err.ensures.known)

pub loop-line-preserved : goal.loop-line-preserved
loop-line-preserved g c = record {
  within = c.in-Some.ensures.line.ends;
  so_far = λ map sent files to.
      loop_on _ _ c.args.keep _ _ c.args.script.now c.loop-line.at c.in-Some.line _ _ _ _ sent _ _ c.loop-line.refused c.in-Ok.now c.in-Some.ensures.line
      (c.loop-line.invariant.so_far map sent files to)
      (known_from _ _ _ _ _ _ _ _ _ _ _ _ _ _ _ _ c.loop-line.invariant.proper_kept c.loop-line.invariant.faults_kept c.in-Ok.ensures.known);
  not_writing = c.carry_line.ensures.writing_stays;
  missed_kept = c.in-Ok.ensures.counts.0 ∙ c.loop-line.invariant.missed_kept;
  proper_kept = c.in-Ok.ensures.counts.1 ∙ c.loop-line.invariant.proper_kept;
  faults_kept = c.in-Ok.ensures.sends ∙ c.loop-line.invariant.faults_kept;
  asked = λ t. c.loop-line.invariant.asked (asked_later c.args.script.now c.loop-line.at c.in-Some.line c.in-Some.ensures.line t);
}

pub returns-then-refused-clause-known : goal.returns-then-refused-clause-known
returns-then-refused-clause-known g c = λ map sent files to.
    loop_done _ _ c.args.keep _ c.args.script.now c.loop-line.at _ _ sent _ c.loop-line.refused _ (c.in_default.ensures.end.0 refl) (sym
    (ap end_of c.if-refused.true)) (c.loop-line.invariant.so_far map sent files to)

pub returns-clause-known : goal.returns-clause-known
returns-clause-known g c = λ map sent files to.
    loop_done _ _ c.args.keep _ c.args.script.now c.loop-line.at _ _ sent _ c.loop-line.refused _ (c.in_default.ensures.end.0 refl) (sym
    (ap end_of c.if-refused.false)) (c.loop-line.invariant.so_far map sent files to)

pub returns-in-Err-clause-asked : goal.returns-in-Err-clause-asked
returns-in-Err-clause-asked g c = λ e. c.loop-line.invariant.asked
    (asked_here c.args.script.now c.loop-line.at c.in-Some.line c.in-Some.ensures.line
    (c.in-Err.ensures.asked (ap (λ (x : End). Err x) e)))
