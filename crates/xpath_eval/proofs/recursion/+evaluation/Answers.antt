use Rattle.std.proofs.Common.{◌≡◌, ◌∙◌, Err, arith, rules, ap, sym}
use Rattle.std.proofs.lemmas.Grind.{common_steps}
use Rattle.xpath_grammar.specs.Tree.{tree_of, trees_of, walk_of}
use Rattle.xpath_meaning.specs.Meaning.{mean, filtered}
use Rattle.xpath_eval.proofs.Loops.{begins, kept_fault, kept_on, kept_end, step_fault, step_on, step_end, found_of}
use Rattle.xpath_predicates.proofs.Walks.{as_told}
use Rattle.xpath_sweeps.proofs.Filters.{scanned, swept}
use Rattle.xpath_eval.proofs.Meanings.{call_fault, call_gives}
use Rattle.xpath_eval.proofs.Chains.{filters_fault, filters_on, lists_fault, lists_on, walks_fault, walks_on, walks_scan_fault, walks_scanned}
use Rattle.xpath_eval.proofs.Scans.{sweep_positionless}
use Rattle.xpath_eval.proofs.recursion.+evaluation.Goals as goal

pub kept-loop-i-init : goal.kept-loop-i-init
kept-loop-i-init g t c = record {
  so_far = rw c.new-found.ensures.items (begins _ _ _);
  few = rw c.new-found.ensures.items (omega arith);
  walker = first_of (search rules, cc);
}

pub kept-returns-in_err-value-clause-found : goal.kept-returns-in_err-value-clause-found
kept-returns-in_err-value-clause-found g t c =
    let e : c.from_residual.result ≡ Err c.in_err-value.field-0.0 = first_of (search rules, grind (arith, common_steps)) in
    rw e (kept_fault _ _ (mean (tree_of c.args.predicate.now)) c.loop-i.i c.place_at-place.result _ _ c.loop-i.invariant.so_far c.loop-i-test.true c.place_at-place.ensures.is c.in_err-value.ensures.passes)

pub kept-loop-i-preserved : goal.kept-loop-i-preserved
kept-loop-i-preserved g t c = record {
  so_far = kept_on _ _ _ _ c.place_at-place.result _ _ _ c.loop-i.invariant.so_far c.loop-i-test.true c.place_at-place.ensures.is c.in_ok-value.ensures.passes c.in_ok-keep.ensures.kept;
  few = omega (arith, c.in_ok-keep.ensures.few, c.loop-i.invariant.few);
  walker = first_of (search rules, cc);
}

pub kept-returns-clause-found : goal.kept-returns-clause-found
kept-returns-clause-found g t c = kept_end _ _ (mean (tree_of c.args.predicate.now)) c.loop-i.i _ c.loop-i.invariant.so_far c.loop-i-test.false

pub kept-returns-clause-of : goal.kept-returns-clause-of
kept-returns-clause-of g t c = record {
  of = found_of _ _ _ c.loop-i.i _ c.requires.nodes.of c.loop-i.invariant.so_far;
  few = omega (arith, c.loop-i.invariant.few, c.requires.nodes.few);
}

pub step_each-loop-i-init : goal.step_each-loop-i-init
step_each-loop-i-init g t c = record {
  so_far = rw c.new-found.ensures.items (begins _ _ _);
  walker = first_of (search rules, cc);
}

pub step_each-returns-in_err-passed-clause-found : goal.step_each-returns-in_err-passed-clause-found
step_each-returns-in_err-passed-clause-found g t c =
    let e : c.from_residual-in_err-passed.result ≡ Err c.in_err-passed.field-0.0 = first_of (search rules, grind (arith, common_steps)) in
    rw e (step_fault _ _ (filtered (trees_of c.args.predicates.now)) c.args.axis c.args.test.now c.loop-i.i c.place_at-place.result _ _ _ c.takes_first-first.result c.takes_first-first.ensures c.loop-i.invariant.so_far c.loop-i-test.true c.place_at-place.ensures.is c.in_ok-list.ensures.found c.in_err-passed.ensures.found)

pub step_each-loop-i-preserved : goal.step_each-loop-i-preserved
step_each-loop-i-preserved g t c = record {
  so_far = step_on _ _ (filtered (trees_of c.args.predicates.now)) c.args.axis c.args.test.now _ c.place_at-place.result _ _ _ _ c.takes_first-first.result c.takes_first-first.ensures c.loop-i.invariant.so_far c.loop-i-test.true c.place_at-place.ensures.is c.in_ok-list.ensures.found c.in_ok-passed.ensures.found c.in_ok-append.ensures.appended;
  walker = first_of (search rules, cc);
}

pub step_each-returns-clause-found : goal.step_each-returns-clause-found
step_each-returns-clause-found g t c = step_end _ _ (filtered (trees_of c.args.predicates.now)) c.args.axis c.args.test.now c.loop-i.i _ _ c.loop-i.invariant.so_far c.loop-i-test.false c.in_order.ensures.ordered

pub step_each-in_order-requires : goal.step_each-in_order-requires
step_each-in_order-requires g t c = found_of _ _ _ c.loop-i.i _ c.requires.nodes.of c.loop-i.invariant.so_far

pub scanned-returns-in-Ok-clause-found : goal.scanned-returns-in-Ok-clause-found
scanned-returns-in-Ok-clause-found g t c =
    scanned _ c.args.nodes.now _ _ c.args.test.now (trees_of c.args.predicates.now) (sweep_positionless c.args.nodes.now (trees_of c.args.predicates.now) c.requires.at_once) c.in_ok-all.ensures.found c.in-Ok.ensures.found

pub swept-returns-in-Ok-clause-found : goal.swept-returns-in-Ok-clause-found
swept-returns-in-Ok-clause-found g t c =
    swept _ c.args.nodes.now _ _ c.args.axis c.args.test.now (trees_of c.args.predicates.now) (sweep_positionless c.args.nodes.now (trees_of c.args.predicates.now) c.requires.at_once) c.in_ok-all.ensures.found c.in-Ok.ensures.found

pub other_value-returns-in_err-values-in-Call-clause-means : goal.other_value-returns-in_err-values-in-Call-clause-means
other_value-returns-in_err-values-in-Call-clause-means g t c =
    let e : c.from_residual-in_err-values-in-Call.result ≡ Err c.in_err-values-in-Call.field-0.0 = first_of (search rules, grind (arith, common_steps)) in
    rw e (call_fault c.args.scope.now c.args.place _ _ c.in-Call.name _ (tree_of c.args.expr.now) c.no_values.ensures.none c.in_err-values-in-Call.ensures.values (ap tree_of c.in-Call.is))

pub other_value-returns-in_ok-values-in-Call-clause-means : goal.other_value-returns-in_ok-values-in-Call-clause-means
other_value-returns-in_ok-values-in-Call-clause-means g t c =
    call_gives _ _ _ _ _ c.in-Call.name _ _ c.no_values.ensures.none c.in_ok-values-in-Call.ensures.values (ap tree_of c.in-Call.is) c.answered.ensures.means

pub passed_at-returns-in-Some-clause-passes : goal.passed_at-returns-in-Some-clause-passes
passed_at-returns-in-Some-clause-passes g t c = as_told _ c.args.place _ (mean (tree_of c.args.predicate.now)) c.in-Some.ensures.passes

pub filtered-returns-in_err-found-clause-found : goal.filtered-returns-in_err-found-clause-found
filtered-returns-in_err-found-clause-found g t c =
    let same : c.found.inside.held.items ≡ c.loop-rest.found = cc (c.found.view_is) in
    let e : c.from_residual.result ≡ Err c.in_err-found.field-0.0 = first_of (search rules, grind (arith, common_steps)) in
    rw e (filters_fault _ _ _ _ _ _ _ _ _ _ c.loop-rest.invariant.leads (c.as_slice.ensures.value ∙ same) (ap tree_of c.deref.ensures) (ap trees_of c.in-More.is) c.in_err-found.ensures.found)

pub filtered-loop-rest-preserved : goal.filtered-loop-rest-preserved
filtered-loop-rest-preserved g t c =
    let same : c.found.inside.held.items ≡ c.loop-rest.found = cc (c.found.view_is) in
    record {
      leads = filters_on _ _ _ _ _ _ _ _ _ _ _ c.loop-rest.invariant.leads (c.as_slice.ensures.value ∙ same) (ap tree_of c.deref.ensures) (ap trees_of c.deref-rest.ensures) (ap trees_of c.in-More.is) c.in_ok-found.ensures.found;
      few = c.in_ok-found.ensures.of;
      walker = first_of (search rules, cc);
    }

pub values_at-returns-in_err-value-clause-values : goal.values_at-returns-in_err-value-clause-values
values_at-returns-in_err-value-clause-values g t c =
    let e : c.from_residual.result ≡ Err c.in_err-value.field-0.0 = first_of (search rules, grind (arith, common_steps)) in
    rw e (lists_fault _ _ _ _ _ _ _ _ _ _ c.loop-rest.invariant.leads (ap tree_of c.deref.ensures) (ap trees_of c.in-More.is) c.in_err-value.ensures.means)

pub values_at-loop-rest-preserved : goal.values_at-loop-rest-preserved
values_at-loop-rest-preserved g t c = record {
  leads = lists_on _ _ _ _ _ _ _ _ _ _ _ _ c.loop-rest.invariant.leads (ap tree_of c.deref.ensures) (ap trees_of c.deref-rest.ensures) (ap trees_of c.in-More.is) c.in_ok-values.ensures.more c.in_ok-value.ensures.means;
  of = c.in_ok-values.ensures.of;
  walker = first_of (search rules, cc);
}

pub walked-returns-in_err-found-clause-found : goal.walked-returns-in_err-found-clause-found
walked-returns-in_err-found-clause-found g t c =
    let same : c.found.inside.held.items ≡ c.loop-rest.found = cc (c.found.view_is) in
    let e : c.from_residual.result ≡ Err c.in_err-found.field-0.0 = first_of (search rules, grind (arith, common_steps)) in
    rw e (walks_scan_fault _ _ _ _ _ _ _ (walk_of c.in-More.after.value) c.in-More.step.value _ c.in-More-deref.second.value _ _ _ (walk_of c.in-More-deref.others.value) _ _ c.loop-rest.invariant.leads
    (c.as_slice.ensures.value ∙ same) (c.as_slice-then-is_scan.ensures.value ∙ same) c.deref-in-More-deref.ensures c.deref-in-More-deref-2.ensures
    c.is_scan.ensures c.if-is_scan.true (ap (λ x. x.test) c.deref-then-is_scan.ensures) (ap (λ x. trees_of x.predicates) c.deref-then-is_scan-2.ensures)
    (ap walk_of c.in-More.is) (sym (ap walk_of c.deref.ensures) ∙ ap walk_of c.in-More-deref.is) c.in_err-found.ensures.found)

pub walked-loop-rest-preserved-then-is_scan : goal.walked-loop-rest-preserved-then-is_scan
walked-loop-rest-preserved-then-is_scan g t c =
    let same : c.found.inside.held.items ≡ c.loop-rest.found = cc (c.found.view_is) in
    record {
      leads =
          walks_scanned _ _ _ _ _ _ _ _ (walk_of c.in-More.after.value) c.in-More.step.value _ c.in-More-deref.second.value _ _ _ (walk_of c.in-More-deref.others.value) _ _ c.loop-rest.invariant.leads
          (c.as_slice.ensures.value ∙ same) (c.as_slice-then-is_scan.ensures.value ∙ same) c.deref-in-More-deref.ensures c.deref-in-More-deref-2.ensures
          c.is_scan.ensures c.if-is_scan.true (ap (λ x. x.test) c.deref-then-is_scan.ensures) (ap (λ x. trees_of x.predicates) c.deref-then-is_scan-2.ensures)
          (ap walk_of c.in-More.is) (sym (ap walk_of c.deref.ensures) ∙ ap walk_of c.in-More-deref.is) (ap walk_of c.deref-rest.ensures) c.in_ok-found.ensures.found;
      few = c.in_ok-found.ensures.of;
      walker = first_of (search rules, cc);
    }

pub walked-returns-in_err-found-2-clause-found : goal.walked-returns-in_err-found-2-clause-found
walked-returns-in_err-found-2-clause-found g t c =
    let same : c.found-in-More.inside.held.items ≡ c.loop-rest.found = cc (c.found-in-More.view_is) in
    let e : c.from_residual-in_err-found-2.result ≡ Err c.in_err-found-2.field-0.0 = first_of (search rules, grind (arith, common_steps)) in
    rw e (walks_fault _ _ _ _ _ _ _ _ _ _ _ _ _ _ c.loop-rest.invariant.leads (c.as_slice-in-More.ensures.value ∙ same) (ap (λ x. x.axis) c.deref-in-More.ensures) (ap (λ x. x.test) c.deref-in-More-2.ensures)
    (ap (λ x. trees_of x.predicates) c.deref-in-More-3.ensures) (ap walk_of c.in-More.is) c.in_err-found-2.ensures.found)

pub walked-loop-rest-preserved : goal.walked-loop-rest-preserved
walked-loop-rest-preserved g t c =
    let same : c.found-in-More.inside.held.items ≡ c.loop-rest.found = cc (c.found-in-More.view_is) in
    record {
      leads =
          walks_on _ _ _ _ _ _ _ _ _ _ _ _ _ _ _ c.loop-rest.invariant.leads (c.as_slice-in-More.ensures.value ∙ same) (ap (λ x. x.axis) c.deref-in-More.ensures) (ap (λ x. x.test) c.deref-in-More-2.ensures)
          (ap (λ x. trees_of x.predicates) c.deref-in-More-3.ensures) (ap walk_of c.deref-rest-in-More.ensures) (ap walk_of c.in-More.is) c.in_ok-found-2.ensures.found;
      few = c.in_ok-found-2.ensures.of;
      walker = first_of (search rules, cc);
    }
