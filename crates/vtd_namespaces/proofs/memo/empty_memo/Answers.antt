use Rattle.vtd_text.proofs.FingerprintLemmas.{zeros}
use Rattle.vtd_namespaces.proofs.memo.empty_memo.Goals as goal

pub returns : goal.returns
returns c = λ k. zeros 8192 k
