use Rattle.std.proofs.Common.{◌≡◌, ◌≤◌, ◌-◌, ◌∙◌, ◌++◌, suc, map, min, ap, sym, refl, subst, arith}
use Rattle.std.specs.List.{AllByRecursion as Each}
use Rattle.std.specs.Option.{option_to_list}
use Rattle.xml_model.specs.Items.{first_place}
use Rattle.xml_model.specs.Records.{records}
use Rattle.xml_model.specs.Scan.{level_of}
use Rattle.vtd_words.specs.Table.{IsNodeOf, node_of, nodes_of}
use Rattle.vtd_words.proofs.Nodes.{record_shown}
use Rattle.xpath_axes.specs.Backs.{IsBack}
use Rattle.xpath_axes.proofs.BackLemmas.{back_less, back_room}
use Rattle.xpath_steps.specs.Holders.{holders_left}
use Rattle.xpath_steps.proofs.AboveLemmas.{climb_on, climb_ended, each_append, each_some}
use Rattle.xpath_steps.proofs.StepLemmas.{all_gathered, gathered_on}
use Rattle.xpath_steps.proofs.above.append_holders.Goals as goal

pub loop-rest-init : goal.loop-rest-init
loop-rest-init g c = record { back = c.requires.back; nodes = c.requires.nodes; so_far = λ nest s. refl }

pub parts_at-parts-requires : goal.parts_at-parts-requires
parts_at-parts-requires g c = rw c.words-words.ensures.value
    (let room = back_room _ _ c.words-words.ensures.table c.loop-rest.rest c.loop-rest.invariant.back in omega (arith, room))

pub holder_at-requires-clause-within : goal.holder_at-requires-clause-within
holder_at-requires-clause-within g c =
    let room = back_room _ _ c.words-words.ensures.table c.loop-rest.rest c.loop-rest.invariant.back in omega (arith, room)

pub holder_at-requires-clause-record : goal.holder_at-requires-clause-record
holder_at-requires-clause-record g c = λ nest s.
    record_shown _ _ c.words-words.ensures.table.few (c.loop-rest.rest.at - 1) c.parts_at-parts.result
    (rw c.words-words.ensures.value at c.parts_at-parts.ensures.parts) nest s

pub loop-rest-preserved : goal.loop-rest-preserved
loop-rest-preserved g c =
    let next = c.loop-rest.rest.at - 1 in
    let one : c.loop-rest.rest.at ≡ suc next = omega (arith, c.loop-rest-test.true) in
    let on : c.args.stop ≤ next = omega (arith, c.loop-rest-test.true) in
    record {
      back = λ nest s.
          let shown = record_shown _ _ c.words-words.ensures.table.few next c.parts_at-parts.result
          (rw c.words-words.ensures.value at c.parts_at-parts.ensures.parts) nest s in
          subst (λ b. IsBack (records nest (first_place c.args.table.now.bytes)) (nodes_of c.args.table.now.bytes nest) b) (sym c.one_less-rest.ensures)
          (back_less _ _ c.loop-rest.rest next c.level_of.result (c.loop-rest.invariant.back nest s) one (c.level_of.ensures ∙ ap level_of shown));
      nodes = subst (Each (IsNodeOf _ _)) (sym c.in_ok-append_some.ensures)
          (each_append _ _ _ c.loop-rest.invariant.nodes (each_some _ _ c.holder_at.ensures.node));
      so_far = λ nest s.
          let es = nodes_of c.args.table.now.bytes nest in
          gathered_on _ _ _ (option_to_list c.holder_at.result) _ _ (c.loop-rest.invariant.so_far nest s)
          (climb_on nest _ s.accepted.document.nests c.loop-rest.rest c.args.stop next (min c.loop-rest.rest.low c.level_of.result) c.holder_at.result one on
          (c.holder_at.ensures.holder nest s)
          ∙ ap (λ b. option_to_list c.holder_at.result ++ map node_of (holders_left b c.args.stop es)) (sym c.one_less-rest.ensures))
          c.in_ok-append_some.ensures;
    }

pub returns-clause-appended : goal.returns-clause-appended
returns-clause-appended g c = λ nest s.
    all_gathered _ _ _ (c.loop-rest.invariant.so_far nest s)
    (climb_ended nest _ s.accepted.document.nests c.loop-rest.rest c.args.stop (omega (arith, c.loop-rest-test.false)))
