use Rattle.std.proofs.Common.{◌≡◌, ◌∙◌, ap, sym, arith, length, min}
use Rattle.xml_model.specs.declared.Kind.TheVariants as kinds
use Rattle.xml_model.specs.declared.Node.{Node}
use Rattle.xml_model.specs.Contexts.{least_past}
use Rattle.xml_model.specs.Items.{first_place}
use Rattle.xml_model.specs.Records.{records}
use Rattle.vtd_words.specs.Table.{nodes_of}
use Rattle.vtd_words.proofs.Fitting.{nest_shown}
use Rattle.vtd_words.proofs.Shown.{shown_length}
use Rattle.xpath_steps.proofs.EndLemmas.{least_first, least_on, least_all}
use Rattle.xpath_steps.proofs.StepLemmas.{At, at_index, context_is, as_many}
use Rattle.xpath_steps.proofs.ends.least_end.Goals as goal

pub loop-context-init : goal.loop-context-init
loop-context-init g c = λ nest s cs e k.
    let rs = records nest (first_place c.args.table.now.bytes) in
    let many : c.len-end.result ≡ length rs = (rw c.words.ensures.value at c.len-end.ensures)
    ∙ shown_length _ rs (nest_shown _ _ nest c.words.ensures.table.few s) in
    record {
      within = omega (arith, many);
      so_far = least_first (length rs) cs ∙ ap (λ m. min m (least_past (length rs) cs)) (sym many);
    }

pub loop-context-preserved : goal.loop-context-preserved
loop-context-preserved g c = λ nest s cs e k.
    let rs = records nest (first_place c.args.table.now.bytes) in
    let i = c.loop-context.context-index in
    let a : At cs i = at_index cs i (omega (arith, as_many cs _ e, c.loop-context-test.true)) in
    let d : Node = record { kind = kinds.Root; at = 0 } in
    let sooner = c.sooner_end-end.ensures nest s a.entry (context_is (nodes_of c.args.table.now.bytes nest) cs k c.args.contexts.now e i a d) in
    let so_far = c.loop-context.invariant nest s cs e k in
    record {
      within = omega (arith, sooner, so_far.within);
      so_far = so_far.so_far ∙ least_on (length rs) c.loop-context.end cs i a c.sooner_end-end.result sooner;
    }

pub returns : goal.returns
returns g c = λ nest s cs e k.
    let rs = records nest (first_place c.args.table.now.bytes) in
    let so_far = c.loop-context.invariant nest s cs e k in
    sym (so_far.so_far ∙ least_all (length rs) c.loop-context.end cs c.loop-context.context-index
    (omega (arith, as_many cs _ e, c.loop-context-test.false)) so_far.within)
