use Rattle.std.proofs.Common.{◌∙◌, sym, arith}
use Rattle.xml_model.specs.Accepted.{offences}
use Rattle.vtd_namespaces.proofs.NodeLemmas.{none_before_first, all_before}
use Rattle.vtd_namespaces.proofs.TagLemmas.{offence_some, offence_none}
use Rattle.vtd_namespaces.proofs.PlainLemmas.{plain_found}
use Rattle.vtd_namespaces.proofs.walk.first_offence.Goals as goal

pub loop-at-init : goal.loop-at-init
loop-at-init g c = record { known = λ k some. absurd (omega (arith, c.empty_memo-memo.ensures k, some)); opened = λ rs s. c.new-open_tags.ensures rs; before = λ nest s h. none_before_first offences _ }

pub returns-then-is_some : goal.returns-then-is_some
returns-then-is_some g c = λ nest s h.
    let len = rw c.words-2.ensures.value at c.len-records.ensures in
    offence_some _ _ nest c.words.ensures.table.few s c.loop-at.at c.offence_at-offence.result (c.offence_at-offence.ensures.offence nest s h) (sym c.is_some.ensures ∙ c.if-is_some.true) (omega (arith, len, c.loop-at-test.true))
    c.offence_at-offence.ensures.starts (c.loop-at.invariant.before nest s h)

pub loop-at-preserved : goal.loop-at-preserved
loop-at-preserved g c = record {
  known = c.offence_at-offence.ensures.known;
  opened = c.offence_at-offence.ensures.opened;
  before = λ nest s h.
      offence_none _ nest c.loop-at.at c.offence_at-offence.result (c.offence_at-offence.ensures.offence nest s h) (sym c.is_some.ensures ∙ c.if-is_some.false) (c.loop-at.invariant.before nest s h);
}

pub returns : goal.returns
returns g c = λ nest s h.
    let len = rw c.words-2.ensures.value at c.len-records.ensures in
    all_before offences _ _ nest c.words.ensures.table.few s c.loop-at.at (omega (arith, len, c.loop-at-test.false)) (c.loop-at.invariant.before nest s h)

pub returns-then-are_plain : goal.returns-then-are_plain
returns-then-are_plain g c = λ nest s h.
    let plain = rw c.bytes.ensures.value at (rw c.words.ensures.value at c.are_plain.ensures) in
    plain_found _ _ nest c.words.ensures.table.few s h (λ rs k. plain rs k c.if-are_plain.true)
