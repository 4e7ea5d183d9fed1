use Rattle.std.proofs.Common.{◌≡◌, suc, inl, inr, subst, arith}
use Rattle.std.proofs.lemmas.Bool.{cases_lt}
use Rattle.vtd_words.specs.Table.{nodes_of}
use Rattle.xpath_axes.specs.Tests.{node_test}
use Rattle.xpath_steps.specs.Forward.{Passed}
use Rattle.xpath_steps.specs.Waits.{flagged}
use Rattle.xpath_steps.proofs.forward.pass_context.Goals as goal

pub returns-clause-passed : goal.returns-clause-passed
returns-clause-passed g c = λ nest s cs k order none is h.
    let es = nodes_of c.args.table.now.bytes nest in
    let test = node_test c.args.test.now in
    let stop : c.in_ok-_stop._stop ≡ c.args.context.at = elim (cases_lt c.in_ok-_stop._stop c.args.context.at) [
      | inl less ↦ absurd (omega (arith, c.in_ok-_stop.ensures.stop nest s less))
      | inr more ↦ omega (arith, more, c.in_ok-_stop.ensures.range order)
    ] in
    let here : Passed c.args.sought cs es test c.args.context.at (flagged c.pass_records.new.flags) c.pass_records.new.held.items =
    subst (λ n. Passed c.args.sought cs es test n (flagged c.pass_records.new.flags) c.pass_records.new.held.items) stop
    (c.in_ok-_stop.ensures.passed nest s cs k order none h) in
    let next : suc c.args.context.at ≡ c.after_first-next.result = omega (arith, c.after_first-next.ensures.index) in
    subst (λ n. Passed c.args.sought cs es test n (flagged c.pass_record.new.flags) c.pass_record.new.held.items) next
    (c.in_ok-pass_record.ensures.passed nest s cs k is here)
