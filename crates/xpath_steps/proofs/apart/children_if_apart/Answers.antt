use Rattle.std.proofs.Common.{◌≡◌, ◌∙◌, ap, sym, arith, refl}
use Rattle.std.specs.List.{slice_index_or}
use Rattle.xml_model.specs.declared.Kind.TheVariants as kinds
use Rattle.xml_model.specs.declared.Axis.TheVariants as axes
use Rattle.xml_model.specs.declared.Node.{Node}
use Rattle.vtd_words.specs.Table.{nodes_of}
use Rattle.xpath_axes.specs.Tests.{node_test}
use Rattle.xpath_steps.proofs.StepLemmas.{At, at_index, node_at, context_is, all_gathered, gathered_on, one_of, each_at_index, each_ended, as_many}
use Rattle.xpath_steps.proofs.StepLemmas.{all_children, apart_on, apart_off, apart_first, apart_ended}
use Rattle.xpath_steps.proofs.apart.children_if_apart.Goals as goal

pub loop-context-init : goal.loop-context-init
loop-context-init g c = record {
  names = c.requires.names;
  so_far = λ nest s cs e k. rw c.new-held.ensures.items refl;
  apart = λ nest s cs e k h. h;
  nested = λ nest s cs e k h. h;
}

pub loop-context-preserved : goal.loop-context-preserved
loop-context-preserved g c =
    let i = c.loop-context.context-index in
    let d : Node = record { kind = kinds.Root; at = 0 } in
    record {
      names = c.in_ok-low.ensures.names;
      so_far = λ nest s cs e k.
          let test = node_test c.args.test.now in
          let es = nodes_of c.args.table.now.bytes nest in
          let a : At cs i = at_index cs i (omega (arith, as_many cs _ e, c.loop-context-test.true)) in
          let in_it = context_is es cs k c.args.contexts.now e i a d in
          gathered_on _ _ _ (one_of axes.Child test es a.entry) _ _ (c.loop-context.invariant.so_far nest s cs e k)
          (each_at_index axes.Child test es cs i a) (c.in_ok-low.ensures.appended nest s a.entry in_it);
      apart = λ nest s cs e k h.
          let a : At cs i = at_index cs i (omega (arith, as_many cs _ e, c.loop-context-test.true)) in
          let index : (slice_index_or c.args.contexts.now i d).at ≡ a.entry.index = ap (λ n. n.at) (node_at cs c.args.contexts.now e i a d) in
          let past = c.in_ok-low.ensures.past nest s a.entry (context_is (nodes_of c.args.table.now.bytes nest) cs k c.args.contexts.now e i a d) in
          c.loop-context.invariant.apart nest s cs e k
          (apart_on cs i c.loop-context.low c.in_ok-low.low a past (omega (arith, c.if-context-low.false, index)) h);
      nested = λ nest s cs e k h.
          let a : At cs i = at_index cs i (omega (arith, as_many cs _ e, c.loop-context-test.true)) in
          let past = c.in_ok-low.ensures.past nest s a.entry (context_is (nodes_of c.args.table.now.bytes nest) cs k c.args.contexts.now e i a d) in
          apart_off cs i c.loop-context.low c.in_ok-low.low a past (c.loop-context.invariant.nested nest s cs e k h);
    }

pub returns-then-context-low-clause-nested : goal.returns-then-context-low-clause-nested
returns-then-context-low-clause-nested g c = λ nest s cs e k h.
    let i = c.loop-context.context-index in
    let d : Node = record { kind = kinds.Root; at = 0 } in
    let a : At cs i = at_index cs i (omega (arith, as_many cs _ e, c.loop-context-test.true)) in
    let index : (slice_index_or c.args.contexts.now i d).at ≡ a.entry.index = ap (λ n. n.at) (node_at cs c.args.contexts.now e i a d) in
    omega (arith, apart_first cs i c.loop-context.low a (c.loop-context.invariant.nested nest s cs e k h), index, c.if-context-low.true)

pub returns-clause-apart : goal.returns-clause-apart
returns-clause-apart g c = λ nest s cs e k.
    c.loop-context.invariant.apart nest s cs e k
    (apart_ended cs c.loop-context.context-index c.loop-context.low (omega (arith, as_many cs _ e, c.loop-context-test.false)))

pub returns-clause-step : goal.returns-clause-step
returns-clause-step g c = λ nest s cs e k.
    let apart = c.loop-context.invariant.apart nest s cs e k (apart_ended cs c.loop-context.context-index c.loop-context.low
    (omega (arith, as_many cs _ e, c.loop-context-test.false))) in
    all_gathered _ _ _ (c.loop-context.invariant.so_far nest s cs e k)
    (each_ended axes.Child (node_test c.args.test.now) (nodes_of c.args.table.now.bytes nest) cs c.loop-context.context-index
    (omega (arith, as_many cs _ e, c.loop-context-test.false)))
    ∙ sym (all_children nest _ s.accepted.document.nests cs k apart (node_test c.args.test.now))
