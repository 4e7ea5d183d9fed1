use Rattle.std.proofs.Common.{◌∙◌, ◌==◌, ap, ℕ}
use Rattle.std.specs.List.{list_any}
use Rattle.vtd_namespaces.proofs.QNameLemmas.{colon_byte}
use Rattle.vtd_namespaces.proofs.qnames.has_colon.Goals as goal

pub returns : goal.returns
returns c = λ cs e. c.contains.ensures.value ∙ ap (list_any (λ (b : ℕ). b == 58)) e ∙ colon_byte cs
