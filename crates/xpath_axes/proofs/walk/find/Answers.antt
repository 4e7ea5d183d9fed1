use Rattle.std.proofs.Common.{◌∙◌, sym, arith, ◌≡◌, ◌+◌, refl}
use Rattle.vtd_words.proofs.Nodes.{record_shown}
use Rattle.xpath_axes.specs.Tests.{node_test}
use Rattle.xpath_axes.proofs.WalkLemmas.{ended, nothing_left, stopped_none, stops_at_end, stops_here, stops_on, went_on}
use Rattle.xpath_axes.proofs.walk.find.Goals as goal

pub returns-then-not-goes_on-clause-found : goal.returns-then-not-goes_on-clause-found
returns-then-not-goes_on-clause-found g c = λ nest s. (c.loop-at.invariant.1 nest s).0

pub returns-then-not-goes_on-clause-stop : goal.returns-then-not-goes_on-clause-stop
returns-then-not-goes_on-clause-stop g c = λ nest s.
    let many = rw c.words-words.ensures.value at c.len-records.ensures in
    sym ((c.loop-at.invariant.1 nest s).1 ∙ stops_here _ _ c.words-words.ensures.table.few nest s c.args.walk
    (node_test c.args.test.now) c.loop-at.at c.parts_at-parts.result
    (rw c.words-words.ensures.value at c.parts_at-parts.ensures.parts) c.goes_on.result c.goes_on.ensures (omega
    (arith, many, c.loop-at-test.true)) c.if-not-goes_on.true)

pub returns-in-Some-clause-stop : goal.returns-in-Some-clause-stop
returns-in-Some-clause-stop g c = λ nest s.
    let many = rw c.words-words.ensures.value at c.len-records.ensures in
    (c.loop-at.invariant.1 nest s).1 ∙ stops_on _ _ c.words-words.ensures.table.few nest s c.args.walk
    (node_test c.args.test.now) c.loop-at.at c.parts_at-parts.result
    (rw c.words-words.ensures.value at c.parts_at-parts.ensures.parts) c.goes_on.result c.goes_on.ensures (omega (arith, many, c.loop-at-test.true))
    (c.loop-at.at + 1) refl c.if-not-goes_on.false

pub returns-in-Some-clause-found : goal.returns-in-Some-clause-found
returns-in-Some-clause-found g c = λ nest s.
    let many = rw c.words-words.ensures.value at c.len-records.ensures in
    (c.loop-at.invariant.1 nest s).0
    ∙ went_on _ _ c.words-words.ensures.table.few nest s c.args.walk (node_test c.args.test.now) c.loop-at.at c.parts_at-parts.result
    (rw c.words-words.ensures.value at c.parts_at-parts.ensures.parts) c.goes_on.result c.goes_on.ensures (omega (arith, many, c.loop-at-test.true))
    (c.loop-at.at + 1) _ refl c.if-not-goes_on.false (rw c.in-Some.is at (c.sought_at.ensures.found nest s))

pub loop-at-preserved : goal.loop-at-preserved
loop-at-preserved g c = (
  c.sought_at.ensures.names,
  λ nest s.
      let many = rw c.words-words.ensures.value at c.len-records.ensures in (
        (c.loop-at.invariant.1 nest s).0
            ∙ went_on _ _ c.words-words.ensures.table.few nest s c.args.walk (node_test c.args.test.now) c.loop-at.at c.parts_at-parts.result
            (rw c.words-words.ensures.value at c.parts_at-parts.ensures.parts) c.goes_on.result c.goes_on.ensures (omega (arith, many, c.loop-at-test.true))
            (c.loop-at.at + 1) _ refl c.if-not-goes_on.false (rw c.in_default.is at (c.sought_at.ensures.found nest s)),
        (c.loop-at.invariant.1 nest s).1 ∙ stops_on _ _ c.words-words.ensures.table.few nest s c.args.walk
            (node_test c.args.test.now) c.loop-at.at c.parts_at-parts.result
            (rw c.words-words.ensures.value at c.parts_at-parts.ensures.parts) c.goes_on.result c.goes_on.ensures (omega
            (arith, many, c.loop-at-test.true)) (c.loop-at.at + 1) refl c.if-not-goes_on.false,
      ),
)

pub returns-then-not-goes_on-clause-end : goal.returns-then-not-goes_on-clause-end
returns-then-not-goes_on-clause-end g c = λ nest s.
    let many = rw c.words-words.ensures.value at c.len-records.ensures in
    stopped_none _ _ c.words-words.ensures.table.few nest s c.args.walk (node_test c.args.test.now) c.loop-at.at c.parts_at-parts.result
    (rw c.words-words.ensures.value at c.parts_at-parts.ensures.parts) c.goes_on.result c.goes_on.ensures (omega
    (arith, many, c.loop-at-test.true)) c.if-not-goes_on.true

pub sought_at-requires-clause-record : goal.sought_at-requires-clause-record
sought_at-requires-clause-record g c = λ nest s.
    record_shown _ _ c.words-words.ensures.table.few c.loop-at.at c.parts_at-parts.result
    (rw c.words-words.ensures.value at c.parts_at-parts.ensures.parts) nest s

pub returns-then-walk-records-clause-end : goal.returns-then-walk-records-clause-end
returns-then-walk-records-clause-end g c = λ nest s.
    let many = rw c.words-words.ensures.value at c.len-records.ensures in
    nothing_left _ _ c.words-words.ensures.table.few nest s c.args.walk (node_test c.args.test.now) c.len-records.result (omega (arith, many))

pub returns-else-walk-records-clause-end : goal.returns-else-walk-records-clause-end
returns-else-walk-records-clause-end g c = λ nest s.
    let many = rw c.words-words.ensures.value at c.len-records.ensures in
    nothing_left _ _ c.words-words.ensures.table.few nest s c.args.walk (node_test c.args.test.now) c.args.walk.at (omega
    (arith, many, c.if-walk-records.false))

pub returns-then-walk-records-clause-found : goal.returns-then-walk-records-clause-found
returns-then-walk-records-clause-found g c = λ nest s.
    let many = rw c.words-words.ensures.value at c.len-records.ensures in
    (c.loop-at.invariant.1 nest s).0 ∙ ended _ _ c.words-words.ensures.table.few nest s c.args.walk
    (node_test c.args.test.now) c.loop-at.at c.len-records.result (omega (arith, many, c.loop-at-test.false)) (omega (arith, many))

pub returns-then-walk-records-clause-stop : goal.returns-then-walk-records-clause-stop
returns-then-walk-records-clause-stop g c = λ nest s.
    let many = rw c.words-words.ensures.value at c.len-records.ensures in
    let same : c.loop-at.at ≡ c.len-records.result = omega (arith, c.loop-at-test.false, c.if-walk-records.true) in
    sym ((c.loop-at.invariant.1 nest s).1 ∙ stops_at_end _ _ c.words-words.ensures.table.few nest s c.args.walk (node_test c.args.test.now) c.loop-at.at
    (omega (arith, many, c.loop-at-test.false)) ∙ same)

pub returns-else-walk-records-clause-found : goal.returns-else-walk-records-clause-found
returns-else-walk-records-clause-found g c = λ nest s. refl

pub returns-else-walk-records-clause-stop : goal.returns-else-walk-records-clause-stop
returns-else-walk-records-clause-stop g c = λ nest s.
    let many = rw c.words-words.ensures.value at c.len-records.ensures in
    sym (stops_at_end _ _ c.words-words.ensures.table.few nest s c.args.walk (node_test c.args.test.now) c.args.walk.at (omega
    (arith, many, c.if-walk-records.false)))
