use Rattle.std.proofs.Common.{◌∙◌, ap, sym, refl, arith}
use Rattle.vtd_text.specs.NameRecords.{is_attribute_name}
use Rattle.vtd_namespaces.proofs.WindowLemmas.{no_prefixes, prefixes_more, kinds_more}
use Rattle.vtd_namespaces.proofs.windows.gather_prefixes.Goals as goal

pub loop-count-init : goal.loop-count-init
loop-count-init g c = record {
  len = refl;
  within = omega arith;
  more = omega arith;
  on = λ l. omega (arith, l);
  room = omega (arith, c.requires.room);
  bound = omega (arith, c.requires.bound);
  prefixes = λ rs s. no_prefixes c.args.bytes.now rs c.args.first c.args.start c.args.round.now;
  kind = λ rs s n a b. absurd (omega (arith, a, b));
}

pub loop-count-preserved : goal.loop-count-preserved
loop-count-preserved g c = record {
  len = c.put_prefix-count.ensures.len ∙ c.loop-count.invariant.len;
  within = omega (arith, c.put_prefix-count.ensures.within, c.put_prefix-count.ensures.len);
  more = omega (arith, c.loop-count.invariant.more);
  on = λ l. omega (arith, c.loop-count.invariant.more);
  room = omega (arith, c.in-Some.ensures.room);
  bound = omega (arith, c.in-Some.ensures.bound);
  prefixes = λ rs s.
      prefixes_more c.args.bytes.now rs c.args.first c.args.start c.loop-count.end c.loop-count.count c.put_prefix-count.result _ c.loop-count.round c.put_prefix-count.new.round c.loop-count.invariant.more c.loop-count-test.true (c.in-Some.ensures.some rs s) c.put_prefix-count.ensures.put (c.loop-count.invariant.prefixes rs s);
  kind = λ rs s.
      kinds_more rs c.args.first c.args.start c.loop-count.end (ap (λ r. is_attribute_name r.token) (sym (c.in-Some.ensures.some rs s)) ∙ c.in-Some.ensures.kind) (c.loop-count.invariant.kind rs s);
}
