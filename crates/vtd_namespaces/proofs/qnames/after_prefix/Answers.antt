use Rattle.std.proofs.Common.{◌∙◌, ap, drop}
use Rattle.vtd_namespaces.proofs.QNameLemmas.{local_taken}
use Rattle.vtd_namespaces.proofs.qnames.after_prefix.Goals as goal

pub returns : goal.returns
returns c = λ cs e n z. c.after-2.ensures ∙ ap (drop 1) c.after.ensures ∙ local_taken c.args.name.now cs c.args.prefix_len e n z
