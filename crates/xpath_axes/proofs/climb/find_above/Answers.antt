use Rattle.std.proofs.Common.{◌<◌, ◌∙◌, refl, arith, rules}
use Rattle.xpath_axes.specs.Tests.{node_test}
use Rattle.xpath_axes.proofs.ClimbLemmas.{passed_over, taken, none_above, parent_before}
use Rattle.xpath_axes.proofs.climb.find_above.Goals as goal

pub loop-owner-init : goal.loop-owner-init
loop-owner-init g c = record { names = c.requires.names; node = c.requires.node; each = c.requires.each; low = omega arith; same = λ nest s. refl }

pub returns-then-passes-clause-found : goal.returns-then-passes-clause-found
returns-then-passes-clause-found g c = λ nest s.
    let i = c.loop-owner.invariant in
    let e = i.each nest s in
    let q = c.in-Some.ensures.parent nest s e.0 e.1 in
    i.same nest s ∙ taken nest _ s.accepted.document.nests e.0 e.1.0 (node_test c.args.test.now) c.loop-owner.at.at e.1.2 c.in-Some.owner q
    c.passes.result (c.passes.ensures.passes nest s q.entry q.holds) c.if-passes.true

pub returns-then-passes-clause-each : goal.returns-then-passes-clause-each
returns-then-passes-clause-each g c = λ nest s.
    let e = c.loop-owner.invariant.each nest s in
    let q = c.in-Some.ensures.parent nest s e.0 e.1 in
    (q.entry, q.holds)

pub returns-then-passes-clause-up : goal.returns-then-passes-clause-up
returns-then-passes-clause-up g c =
    let i = c.loop-owner.invariant in
    let m = i.node in
    let q = c.in-Some.ensures.parent m.nest m.shown m.entry m.holds in
    let up = parent_before m.nest _ m.shown.accepted.document.nests m.entry m.holds.0 c.in-Some.owner q in
    omega (arith, up, m.holds.2, i.low)

pub loop-owner-smaller : goal.loop-owner-smaller
loop-owner-smaller g c =
    let m = c.loop-owner.invariant.node in
    let q = c.in-Some.ensures.parent m.nest m.shown m.entry m.holds in
    let up = parent_before m.nest _ m.shown.accepted.document.nests m.entry m.holds.0 c.in-Some.owner q in
    let lower : c.in-Some.owner.at < c.loop-owner.at.at = omega (arith, up, m.holds.2) in
    lower

pub loop-owner-preserved : goal.loop-owner-preserved
loop-owner-preserved g c =
    let i = c.loop-owner.invariant in
    let m = i.node in
    let up = parent_before m.nest _ m.shown.accepted.document.nests m.entry m.holds.0 c.in-Some.owner
    (c.in-Some.ensures.parent m.nest m.shown m.entry m.holds) in
    record {
      names = c.passes.ensures.names;
      node = c.in-Some.ensures.owner;
      each = λ nest s.
          let e = i.each nest s in
          let q = c.in-Some.ensures.parent nest s e.0 e.1 in
          (q.entry, q.holds);
      low = omega (arith, up, m.holds.2, i.low);
      same = λ nest s.
          let e = i.each nest s in
          let q = c.in-Some.ensures.parent nest s e.0 e.1 in
          i.same nest s ∙ passed_over nest _ s.accepted.document.nests e.0 e.1.0 (node_test c.args.test.now) c.loop-owner.at.at e.1.2 c.in-Some.owner q
          c.passes.result (c.passes.ensures.passes nest s q.entry q.holds) c.if-passes.false;
    }

pub returns-clause-found : goal.returns-clause-found
returns-clause-found g c = λ nest s.
    let e = c.loop-owner.invariant.each nest s in
    c.loop-owner.invariant.same nest s ∙ none_above nest _ s.accepted.document.nests e.0 e.1.0 (e.1.1 ∙ c.in_default.ensures.root.0 (search rules))
    (node_test c.args.test.now) c.loop-owner.at.at e.1.2
