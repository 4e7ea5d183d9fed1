use Rattle.vtd_namespaces.proofs.MemoLemmas.{none_of, index_of}
use Rattle.vtd_namespaces.proofs.memo.option_of.Goals as goal

pub returns-then-index-eq0 : goal.returns-then-index-eq0
returns-then-index-eq0 c = none_of c.args.index c.if-index-eq0.true

pub returns-else-index-eq0 : goal.returns-else-index-eq0
returns-else-index-eq0 c = index_of c.args.index c.if-index-eq0.false
