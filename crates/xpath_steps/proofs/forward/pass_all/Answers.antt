use Rattle.std.proofs.Common.{◌≡◌, ℕ, ◌≤◌, ◌<◌, ◌+◌, ◌∙◌, false, ap, sym, refl, subst, arith, length}
use Rattle.std.specs.List.{AllByRecursion as Each, slice_index_or}
use Rattle.xml_model.specs.declared.Kind.TheVariants as kinds
use Rattle.xml_model.specs.declared.Node.{Node}
use Rattle.xml_model.specs.Contexts.{is_index_of}
use Rattle.xml_model.specs.Items.{first_place}
use Rattle.xml_model.specs.Records.{records}
use Rattle.xml_model.proofs.Each.{each_more}
use Rattle.xml_model.proofs.TreeOrder.{in_order}
use Rattle.vtd_words.specs.Table.{nodes_of}
use Rattle.vtd_words.proofs.Fitting.{nest_shown}
use Rattle.vtd_words.proofs.Shown.{shown_length}
use Rattle.xpath_axes.specs.Tests.{node_test}
use Rattle.xpath_steps.specs.Waits.{flagged}
use Rattle.xpath_steps.proofs.ForwardLemmas.{ahead_first, ahead_on, all_before, all_passed, asked_on, first_ahead, first_within, is_next, none_between}
use Rattle.xpath_steps.proofs.ForwardLemmas.{none_left, none_yet_passed}
use Rattle.xpath_steps.proofs.StepLemmas.{At, at_index, as_many, context_is}
use Rattle.xpath_steps.proofs.forward.pass_all.Goals as goal

pub loop-context-init : goal.loop-context-init
loop-context-init g c = record {
  names = c.requires.names;
  so_far = λ nest s cs e k.
      let es = nodes_of c.args.table.now.bytes nest in
      let rs = records nest (first_place c.args.table.now.bytes) in
      let at = c.first-at.ensures in
      let ahead : Each (λ x. c.first-at.result ≤ x.index) cs =
      subst (λ n. Each (λ x. n ≤ x.index) cs) (sym at) (first_ahead cs k.rise c.args.contexts.now e) in
      record {
        ahead = ahead;
        asked = λ n l. refl;
        within = omega (arith, at, first_within nest _ s.accepted.document.nests cs k c.args.contexts.now e);
        passed = rw c.new-held.ensures.items
            (none_yet_passed nest _ s.accepted.document.nests c.args.sought cs (node_test c.args.test.now) c.first-at.result (flagged c.new-flags.result)
            ahead k c.new-flags.ensures);
      };
}

pub loop-context-preserved : goal.loop-context-preserved
loop-context-preserved g c = record {
  names = c.in_ok-at.ensures.names;
  so_far = λ nest s cs e k.
      let es = nodes_of c.args.table.now.bytes nest in
      let i = c.loop-context.context-index in
      let a : At cs i = at_index cs i (omega (arith, as_many cs _ e, c.loop-context-test.true)) in
      let d : Node = record { kind = kinds.Root; at = 0 } in
      let in_it = context_is es cs k c.args.contexts.now e i a d in
      let here : (slice_index_or c.args.contexts.now i d).at ≡ a.entry.index = sym in_it.2 in
      let old = c.loop-context.invariant.so_far nest s cs e k in
      let order : c.loop-context.at ≤ a.entry.index = ahead_first cs k.rise i a c.loop-context.at old.ahead in
      let next : c.in_ok-at.at ≡ a.entry.index + 1 = omega (arith, c.in_ok-at.ensures.next, here) in
      record {
        ahead = ahead_on cs k.rise i a c.in_ok-at.at next;
        asked = asked_on cs k.rise i a c.loop-context.at c.in_ok-at.at order next old.asked;
        within = omega (arith, next, (in_order nest _ s.accepted.document.nests).within a.entry in_it.0);
        passed = c.in_ok-at.ensures.passed nest s cs k (omega (arith, order, here))
            (none_between cs k.rise i a c.loop-context.at (slice_index_or c.args.contexts.now i d).at old.asked here)
            (is_next cs k.rise i a c.loop-context.at (slice_index_or c.args.contexts.now i d).at here) old.passed;
      };
}

pub returns-clause-step : goal.returns-clause-step
returns-clause-step g c = λ nest s cs e k.
    let es = nodes_of c.args.table.now.bytes nest in
    let rs = records nest (first_place c.args.table.now.bytes) in
    let old = c.loop-context.invariant.so_far nest s cs e k in
    let many : c.len-end.result ≡ length rs = (rw c.words.ensures.value at c.len-end.ensures)
    ∙ shown_length _ rs (nest_shown _ _ nest c.words.ensures.table.few s) in
    let order : c.loop-context.at ≤ c.len-end.result = omega (arith, many, old.within) in
    let i = c.loop-context.context-index in
    let ended : length cs ≤ i = omega (arith, as_many cs _ e, c.loop-context-test.false) in
    let none : (n : ℕ) → c.loop-context.at ≤ n → is_index_of cs n ≡ false = λ n l. old.asked n l
    ∙ ap (λ ds. is_index_of ds n) (Rattle.std.proofs.lemmas.List.drop_all i cs ended) in
    let done = c.in_ok-_stop.ensures.passed nest s cs k order (λ n l m. none n l) old.passed in
    let before : Each (λ x. x.index < c.in_ok-_stop._stop) cs =
    each_more (λ x. x.index < c.loop-context.at) (λ x. x.index < c.in_ok-_stop._stop) (λ x h. omega (arith, h, c.in_ok-_stop.ensures.later)) cs
    (all_before cs i c.loop-context.at ended old.asked) in
    all_passed nest _ s.accepted.document.nests c.args.sought cs k (node_test c.args.test.now) c.in_ok-_stop._stop _ _ done
    (none_left nest _ s.accepted.document.nests c.args.sought cs k c.lowest-floor.result c.in_ok-_stop._stop (c.lowest-floor.ensures nest s cs e k) before
    (λ l. c.in_ok-_stop.ensures.stop nest s (omega (arith, l, many))))
