use Rattle.std.proofs.Common.{arith, sym, ◌∙◌}
use Rattle.vtd_running.proofs.CountLemmas.{no_number, number_kept, number_read}
use Rattle.vtd_running.proofs.counts.count_of.Goals as goal

pub returns-in_err-count : goal.returns-in_err-count
returns-in_err-count c =
    c.from_residual.ensures
    ∙ sym (no_number c.args.text.now c.parse.result c.parse.ensures.value.0 c.if-starts_with.ensures.cases c.in_err-count.ensures.value)

pub returns : goal.returns
returns c =
    number_kept c.args.text.now c.in_ok-count.count
    (number_read c.args.text.now c.parse.result c.in_ok-count.count c.parse.ensures.value.0 c.if-starts_with.ensures.cases c.in_ok-count.ensures.value)
    c.if-text-gt-DIGIT_LIMIT.false (omega arith) (omega arith)
