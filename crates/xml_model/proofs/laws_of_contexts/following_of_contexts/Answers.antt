use Rattle.std.proofs.Common.{◌∙◌}
use Rattle.xml_model.specs.declared.Axis.TheVariants as axes
use Rattle.xml_model.proofs.Contexts.{union_by_indexes, following_of_contexts}
use Rattle.xml_model.proofs.TreeOrder.{in_order}
use Rattle.xml_model.proofs.laws_of_contexts.following_of_contexts.Goals as goal

pub returns : goal.returns
returns c = λ nest first n cs k. union_by_indexes nest first n axes.Following cs k.among ∙ following_of_contexts _ _ cs (in_order nest first n)
