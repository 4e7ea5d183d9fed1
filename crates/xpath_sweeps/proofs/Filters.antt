-- Predicates over all that a step finds.
use Rattle.std.proofs.Common.{◌≡◌, true, List, Ok}
use Rattle.xml_model.specs.declared.Axis.TheVariants.{Child, Descendant, DescendantOrSelf}
use Rattle.xml_model.specs.declared.Node.{Node}
use Rattle.xpath_tokens.specs.declared.StepAxis.{StepAxis}
use Rattle.xpath_tokens.specs.declared.StepAxis.TheVariants.{Known}
use Rattle.xpath_grammar.specs.declared.expr.StepTest.{StepTest}
use Rattle.xpath_grammar.specs.declared.expr.StepTest.TheVariants as written
use Rattle.xpath_grammar.specs.Tree.{Trees, none}
use Rattle.xpath_values.specs.Answers.{and_then}
use Rattle.xpath_meaning.specs.Meaning.{filtered, step_from}
use Rattle.xpath_meaning.specs.Scope.{ScopeOf, Finds}
use Rattle.xpath_laws.specs.Fused.{are_positionless}
use Rattle.xpath_laws.proofs.AtOnce.{at_once, scan_at_once}
use Rattle.xpath_sweeps.proofs.Unions.{tree_of_scope}

-- a step with predicates that do not ask for the position
pub swept : (s : ScopeOf) (ns all found : List Node) (axis : StepAxis) (test : StepTest) (ps : Trees) → are_positionless ps ≡ true →
    Finds s ns (Ok all) (step_from (filtered none) axis test) → Finds s all (Ok found) (filtered ps) → Finds s ns (Ok found) (step_from (filtered ps) axis test)
swept s ns all found axis test ps h one two = record {
  yields = λ c hc es a.
      let x = one.yields c hc es a in
      let y = two.yields c hc x.value x.held in
      record { value = y.value; meant_is = at_once c axis test ps es x.value y.value (tree_of_scope s c hc) h x.meant_is y.meant_is; held = y.held };
}

-- descendant-or-self::node()/child::T with predicates that do not ask for the position
pub scanned : (s : ScopeOf) (ns all found : List Node) (test : StepTest) (ps : Trees) → are_positionless ps ≡ true →
    Finds s ns (Ok all) (step_from (filtered none) (Known Descendant) test) → Finds s all (Ok found) (filtered ps) →
    Finds s ns (Ok found) (λ c es. and_then (step_from (filtered none) (Known DescendantOrSelf) written.Node c es) (step_from (filtered ps) (Known Child) test c))
scanned s ns all found test ps h one two = record {
  yields = λ c hc es a.
      let x = one.yields c hc es a in
      let y = two.yields c hc x.value x.held in
      record { value = y.value; meant_is = scan_at_once c test ps es x.value y.value (tree_of_scope s c hc) h x.meant_is y.meant_is; held = y.held };
}
