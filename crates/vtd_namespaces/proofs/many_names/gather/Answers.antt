use Rattle.std.proofs.Common.{◌∙◌, ap, sym, refl, arith, ◌+◌, length-set}
use Rattle.vtd_text.specs.Joined.{slice_of}
use Rattle.vtd_text.specs.NameRecords.{is_attribute_name}
use Rattle.vtd_namespaces.proofs.RoundLemmas.{names_more, kind_more}
use Rattle.vtd_namespaces.proofs.many_names.gather.Goals as goal

pub loop-count-preserved : goal.loop-count-preserved
loop-count-preserved g c = record {
  len = length-set c.loop-count.round c.loop-count.count (c.slice_of.result, c.args.start + c.loop-count.count) ∙ c.loop-count.invariant.len;
  within = omega (arith, c.loop-count-test.true, length-set c.loop-count.round c.loop-count.count (c.slice_of.result, c.args.start + c.loop-count.count));
  room = omega (arith, c.in-Some.ensures.room);
  bound = omega (arith, c.in-Some.ensures.bound);
  names = λ rs s.
      names_more c.args.bytes.now rs c.args.first c.args.start c.loop-count.count c.loop-count.round (c.slice_of.result, c.args.start + c.loop-count.count) c.loop-count-test.true
      (record { name = c.slice_of.ensures ∙ ap (slice_of c.args.bytes.now) (c.in-Some.ensures.some rs s); number = refl }) (c.loop-count.invariant.names rs s);
  kind = λ rs s.
      kind_more rs c.args.first c.args.start c.loop-count.count (ap (λ r. is_attribute_name r.token) (sym (c.in-Some.ensures.some rs s)) ∙ c.in-Some.ensures.kind) (c.loop-count.invariant.kind rs s);
}
