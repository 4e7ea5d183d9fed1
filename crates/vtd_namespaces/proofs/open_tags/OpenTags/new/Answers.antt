use Rattle.std.proofs.Common.{refl}
use Rattle.vtd_namespaces.proofs.OpenLemmas.{open_first}
use Rattle.vtd_namespaces.proofs.open_tags.OpenTags.new.Goals as goal

pub returns : goal.returns
returns c = λ rs. open_first _ rs refl
