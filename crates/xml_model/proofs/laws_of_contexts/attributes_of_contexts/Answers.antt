use Rattle.std.proofs.Common.{◌∙◌}
use Rattle.xml_model.specs.declared.Axis.TheVariants as axes
use Rattle.xml_model.proofs.AttributeSteps.{attributes_of_contexts}
use Rattle.xml_model.proofs.Contexts.{union_by_indexes}
use Rattle.xml_model.proofs.laws_of_contexts.attributes_of_contexts.Goals as goal

pub returns : goal.returns
returns c = λ nest first n cs k. union_by_indexes nest first n axes.Attribute cs k.among ∙ attributes_of_contexts nest first n cs k
