use Rattle.vtd_text.proofs.FingerprintLemmas.{none_taken}
use Rattle.vtd_text.proofs.fingerprints.FingerprintFilter.new.Goals as goal

pub returns : goal.returns
returns c = none_taken 131072
