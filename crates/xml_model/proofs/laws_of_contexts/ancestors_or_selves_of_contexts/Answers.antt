use Rattle.std.proofs.Common.{◌∙◌}
use Rattle.xml_model.specs.declared.Axis.TheVariants as axes
use Rattle.xml_model.proofs.Contexts.{union_by_indexes, ancestors_or_selves_of_contexts}
use Rattle.xml_model.proofs.TreeOrder.{in_order}
use Rattle.xml_model.proofs.laws_of_contexts.ancestors_or_selves_of_contexts.Goals as goal

pub returns : goal.returns
returns c = λ nest first n cs k. union_by_indexes nest first n axes.AncestorOrSelf cs k.among ∙ ancestors_or_selves_of_contexts _ _ cs (in_order nest first n) k
