-- Steps that are taken at once (this project's own).
use Rattle.std.specs.Prelude.{ℕ, suc, Bool, true, false, ◌&&◌, nat_le, List, [], ◌∷◌, take}
use Rattle.xml_model.specs.declared.Axis.TheVariants as axes
use Rattle.xml_model.specs.declared.Node.{Node}
use Rattle.xml_model.specs.Tree.{Entry}
use Rattle.xpath_tokens.specs.declared.StepAxis.{StepAxis}
use Rattle.xpath_tokens.specs.declared.StepAxis.TheVariants.{Known}
use Rattle.xpath_grammar.specs.declared.expr.Step.{Step}
use Rattle.xpath_grammar.specs.declared.expr.StepTest.{StepTest}
use Rattle.xpath_grammar.specs.declared.expr.StepTest.TheVariants as written
use Rattle.xpath_grammar.specs.Tree.{Trees, none, more, trees_of}
use Rattle.xpath_laws.specs.Fused.{are_positionless}

-- whether the indexes of nodes rise, from a number on
abbrev pub rise_from : ℕ → List Node → Bool
rise_from low [] = true
rise_from low (n ∷ ns) = nat_le low n.at && rise_from (suc n.at) ns

-- whether nodes are in document order, each once
abbrev pub are_in_order : List Node → Bool
are_in_order ns = rise_from 0 ns

-- whether a step with predicates may be taken from nodes at once
abbrev pub is_sweep : List Node → Trees → Bool
is_sweep ns ps = are_positionless ps && are_in_order ns

abbrev pub is_to_selves : StepAxis → Bool
is_to_selves (Known axes.DescendantOrSelf) = true
is_to_selves _ = false

abbrev pub is_to_children : StepAxis → Bool
is_to_children (Known axes.Child) = true
is_to_children _ = false

abbrev pub is_any_node : StepTest → Bool
is_any_node written.Node = true
is_any_node _ = false

abbrev pub is_none : Trees → Bool
is_none none = true
is_none (more p ps) = false

-- whether two steps from nodes are `descendant-or-self::node()` and then one to children that may be taken at once
abbrev pub is_scan : List Node → Step → Step → Bool
is_scan ns step after =
    (is_to_selves step.axis && (is_any_node step.test && is_none (trees_of step.predicates)))
    && (is_to_children after.axis && is_sweep ns (trees_of after.predicates))

-- nodes, or the first alone where no other is asked for
abbrev pub fewer : Bool → List Entry → List Entry
fewer true es = take 1 es
fewer false es = es
