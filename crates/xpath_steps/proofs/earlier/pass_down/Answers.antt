use Rattle.std.proofs.Common.{◌≡◌, ◌-◌, suc, ap, subst, arith}
use Rattle.xml_model.specs.Items.{first_place}
use Rattle.xml_model.specs.Records.{records}
use Rattle.xml_model.specs.Scan.{level_of, record_at}
use Rattle.vtd_words.specs.Table.{nodes_of}
use Rattle.vtd_words.proofs.Nodes.{record_shown}
use Rattle.xpath_steps.specs.Earlier.{Earlier}
use Rattle.xpath_steps.specs.Waits.{flagged}
use Rattle.xpath_steps.proofs.earlier.pass_down.Goals as goal

pub loop-rest-init : goal.loop-rest-init
loop-rest-init g c = record { sooner = omega arith; range = λ l. l; nodes = c.requires.nodes; gathered = λ nest s ds l h. h }

pub loop-rest-preserved : goal.loop-rest-preserved
loop-rest-preserved g c = record {
  sooner = omega (arith, c.loop-rest.invariant.sooner);
  range = λ l. omega (arith, c.loop-rest-test.true);
  nodes = c.in_ok-pass_back.ensures.nodes;
  gathered = λ nest s ds l h.
      let one : c.loop-rest.rest ≡ suc (c.loop-rest.rest - 1) = omega (arith, c.loop-rest-test.true) in
      c.in_ok-pass_back.ensures.gathered nest s ds
      (subst (λ k. Earlier (nodes_of c.args.table.now.bytes nest) ds k (flagged c.loop-rest.waiting) c.loop-rest.held.items) one
      (c.loop-rest.invariant.gathered nest s ds l h));
}

pub returns-then-level_of-floor-clause-stop : goal.returns-then-level_of-floor-clause-stop
returns-then-level_of-floor-clause-stop g c = λ nest s k e l.
    let at : c.loop-rest.rest - 1 ≡ k = omega (arith, e) in
    let shown = record_shown _ _ c.words-words.ensures.table.few (c.loop-rest.rest - 1) c.parts_at.result
    (rw c.words-words.ensures.value at c.parts_at.ensures.parts) nest s in
    omega (
      arith,
      c.if-level_of-floor.true,
      c.level_of.ensures,
      ap level_of shown,
      ap (λ m. level_of (record_at m (records nest (first_place c.args.table.now.bytes)))) at,
    )
