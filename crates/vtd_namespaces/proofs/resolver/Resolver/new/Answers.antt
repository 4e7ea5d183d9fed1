use Rattle.std.proofs.Common.{arith}
use Rattle.vtd_namespaces.proofs.resolver.Resolver.new.Goals as goal

pub invariant_of-result : goal.invariant_of-result
invariant_of-result g c = record {
  few = c.words.ensures.table.few;
  within = omega arith;
  opened = λ rs s. c.new.ensures rs;
  undeclared = rw c.words.ensures.value at c.declarations_end-end.ensures.after;
  known = λ k some. absurd (omega (arith, c.empty_memo.ensures k, some));
}
