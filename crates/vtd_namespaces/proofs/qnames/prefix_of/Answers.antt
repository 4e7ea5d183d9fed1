use Rattle.std.proofs.Common.{◌∙◌}
use Rattle.vtd_namespaces.proofs.QNameLemmas.{prefix_taken}
use Rattle.vtd_namespaces.proofs.qnames.prefix_of.Goals as goal

pub returns : goal.returns
returns c = λ cs e n. c.prefix.ensures ∙ prefix_taken c.args.name.now cs c.args.prefix_len e n
