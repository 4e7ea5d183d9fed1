use Rattle.std.proofs.Common.{◌≡◌, ◌<◌, ◌≤◌, ◌-◌, ◌∙◌, ◌∷◌, suc, min, ap, sym, refl, subst, arith, Some, None}
use Rattle.xml_model.specs.Items.{first_place}
use Rattle.xml_model.specs.Records.{records}
use Rattle.xml_model.specs.Scan.{level_of, record_at}
use Rattle.vtd_words.specs.Table.{nodes_of}
use Rattle.vtd_words.proofs.Nodes.{record_shown}
use Rattle.xpath_axes.specs.declared.back.Back.{Back}
use Rattle.xpath_axes.specs.Backs.{nodes_before, IsBack}
use Rattle.xpath_axes.specs.Tests.{node_test}
use Rattle.xpath_axes.proofs.BackLemmas.{back_on, back_less, back_room, none_first, none_stopped}
use Rattle.xpath_axes.proofs.back.find_before.Goals as goal

pub loop-rest-init : goal.loop-rest-init
loop-rest-init g c = record { names = c.requires.names; back = c.requires.back; same = λ nest s. refl; passed = omega arith }

pub parts_at-parts-requires : goal.parts_at-parts-requires
parts_at-parts-requires g c = rw c.words-words.ensures.value
    (let room = back_room _ _ c.words-words.ensures.table c.loop-rest.rest c.loop-rest.invariant.back in omega (arith, room))

pub sought_before-sought-requires-clause-within : goal.sought_before-sought-requires-clause-within
sought_before-sought-requires-clause-within g c =
    let room = back_room _ _ c.words-words.ensures.table c.loop-rest.rest c.loop-rest.invariant.back in omega (arith, room)

pub sought_before-sought-requires-clause-record : goal.sought_before-sought-requires-clause-record
sought_before-sought-requires-clause-record g c = λ nest s.
    record_shown _ _ c.words-words.ensures.table.few (c.loop-rest.rest.at - 1) c.parts_at-parts.result
    (rw c.words-words.ensures.value at c.parts_at-parts.ensures.parts) nest s

pub returns-then-level-rest-clause-end : goal.returns-then-level-rest-clause-end
returns-then-level-rest-clause-end g c = λ nest s.
    let next = c.loop-rest.rest.at - 1 in
    let one : c.loop-rest.rest.at ≡ suc next = omega (arith, c.loop-rest-test.true) in
    let shown = record_shown _ _ c.words-words.ensures.table.few next c.parts_at-parts.result
    (rw c.words-words.ensures.value at c.parts_at-parts.ensures.parts) nest s in
    let low : level_of (record_at next (records nest (first_place c.args.table.now.bytes))) < c.loop-rest.rest.floor =
    omega (arith, ap level_of shown, c.level_of-level.ensures, c.if-level-rest.true) in
    none_stopped nest _ s.accepted.document.nests c.loop-rest.rest (node_test c.args.test.now) next one low

pub returns-in-Some-clause-found : goal.returns-in-Some-clause-found
returns-in-Some-clause-found g c = λ nest s.
    let next = c.loop-rest.rest.at - 1 in
    let one : c.loop-rest.rest.at ≡ suc next = omega (arith, c.loop-rest-test.true) in
    let shown = record_shown _ _ c.words-words.ensures.table.few next c.parts_at-parts.result
    (rw c.words-words.ensures.value at c.parts_at-parts.ensures.parts) nest s in
    let high : c.loop-rest.rest.floor ≤ level_of (record_at next (records nest (first_place c.args.table.now.bytes))) =
    omega (arith, ap level_of shown, c.level_of-level.ensures, c.if-level-rest.false) in
    c.loop-rest.invariant.same nest s
    ∙ back_on nest _ s.accepted.document.nests c.loop-rest.rest (node_test c.args.test.now) next (min c.loop-rest.rest.low c.level_of-level.result)
    (Some c.in-Some.node) one high (c.in-Some.ensures.found nest s)
    ∙ ap (λ b. c.in-Some.node ∷ nodes_before b (node_test c.args.test.now) (records nest (first_place c.args.table.now.bytes))
    (nodes_of c.args.table.now.bytes nest)) (sym c.one_less-rest.ensures)

pub returns-in-Some-clause-back : goal.returns-in-Some-clause-back
returns-in-Some-clause-back g c = λ nest s.
    let next = c.loop-rest.rest.at - 1 in
    let one : c.loop-rest.rest.at ≡ suc next = omega (arith, c.loop-rest-test.true) in
    let shown = record_shown _ _ c.words-words.ensures.table.few next c.parts_at-parts.result
    (rw c.words-words.ensures.value at c.parts_at-parts.ensures.parts) nest s in
    subst (λ b. IsBack (records nest (first_place c.args.table.now.bytes)) (nodes_of c.args.table.now.bytes nest) b) (sym c.one_less-rest.ensures)
    (back_less _ _ c.loop-rest.rest next c.level_of-level.result (c.loop-rest.invariant.back nest s) one (c.level_of-level.ensures ∙ ap level_of shown))

pub loop-rest-preserved : goal.loop-rest-preserved
loop-rest-preserved g c =
    let next = c.loop-rest.rest.at - 1 in
    let one : c.loop-rest.rest.at ≡ suc next = omega (arith, c.loop-rest-test.true) in
    record {
      names = c.sought_before-sought.ensures.names;
      back = λ nest s.
          let shown = record_shown _ _ c.words-words.ensures.table.few next c.parts_at-parts.result
          (rw c.words-words.ensures.value at c.parts_at-parts.ensures.parts) nest s in
          subst (λ b. IsBack (records nest (first_place c.args.table.now.bytes)) (nodes_of c.args.table.now.bytes nest) b) (sym c.one_less-rest.ensures)
          (back_less _ _ c.loop-rest.rest next c.level_of-level.result (c.loop-rest.invariant.back nest s) one
          (c.level_of-level.ensures ∙ ap level_of shown));
      same = λ nest s.
          let shown = record_shown _ _ c.words-words.ensures.table.few next c.parts_at-parts.result
          (rw c.words-words.ensures.value at c.parts_at-parts.ensures.parts) nest s in
          let high : c.loop-rest.rest.floor ≤ level_of (record_at next (records nest (first_place c.args.table.now.bytes))) =
          omega (arith, ap level_of shown, c.level_of-level.ensures, c.if-level-rest.false) in
          c.loop-rest.invariant.same nest s
          ∙ back_on nest _ s.accepted.document.nests c.loop-rest.rest (node_test c.args.test.now) next (min c.loop-rest.rest.low c.level_of-level.result)
          None one high ((rw c.in_default.is at c.sought_before-sought.ensures.found) nest s)
          ∙ ap (λ b. nodes_before b (node_test c.args.test.now) (records nest (first_place c.args.table.now.bytes))
          (nodes_of c.args.table.now.bytes nest)) (sym c.one_less-rest.ensures);
      passed = omega (arith, ap (λ (b : Back). b.at) c.one_less-rest.ensures, c.loop-rest.invariant.passed);
    }

pub returns-clause-end : goal.returns-clause-end
returns-clause-end g c = λ nest s.
    none_first nest _ s.accepted.document.nests c.loop-rest.rest (node_test c.args.test.now) c.loop-rest-test.false
