use Rattle.std.proofs.Common.{◌≡◌, ◌-◌, suc, subst, arith}
use Rattle.vtd_words.specs.Table.{nodes_of}
use Rattle.xpath_steps.specs.Waits.{flagged, Gathered}
use Rattle.xpath_steps.proofs.parents.append_parents.Goals as goal

pub loop-rest-init : goal.loop-rest-init
loop-rest-init g c = record { nodes = c.requires.nodes; gathered = λ nest s ds l h. (l, h) }

pub loop-rest-preserved : goal.loop-rest-preserved
loop-rest-preserved g c = record {
  nodes = c.in_ok-append_parent.ensures.nodes;
  gathered = λ nest s ds l h.
      let m = c.loop-rest.invariant.gathered nest s ds l h in
      let one : c.loop-rest.rest ≡ suc (c.loop-rest.rest - 1) = omega (arith, c.loop-rest-test.true) in (
        omega (arith, c.loop-rest-test.true),
        c.in_ok-append_parent.ensures.gathered nest s ds
            (subst (λ k. Gathered (nodes_of c.args.table.now.bytes nest) ds k (flagged c.loop-rest.waiting) c.loop-rest.held.items) one m.1),
      );
}

pub returns-clause-gathered : goal.returns-clause-gathered
returns-clause-gathered g c = λ nest s ds l h.
    let m = c.loop-rest.invariant.gathered nest s ds l h in
    let same : c.loop-rest.rest ≡ c.args.stop = omega (arith, c.loop-rest-test.false, m.0) in
    subst (λ k. Gathered (nodes_of c.args.table.now.bytes nest) ds k (flagged c.loop-rest.waiting) c.loop-rest.held.items) same m.1
