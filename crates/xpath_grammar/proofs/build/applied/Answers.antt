use Rattle.std.proofs.Common.{sym, ◌∙◌, ap, subst}
use Rattle.xpath_grammar.specs.Tree.{tree_of}
use Rattle.xpath_grammar.specs.Cutting.{applied, AreBinary}
use Rattle.xpath_grammar.proofs.Applied.{AreBinary-pop, applied-push, joined_tree}
use Rattle.xpath_grammar.proofs.build.applied.Goals as goal

pub joined-requires : goal.joined-requires
joined-requires c = (AreBinary-pop c.pop.new.self.items (c.in-Some.token, c.in-Some.part) (subst AreBinary c.in-Some.ensures.items c.loop-token.invariant.binary)).1

pub loop-token-preserved : goal.loop-token-preserved
loop-token-preserved c =
    let ps = c.pop.new.self.items in
    let h = AreBinary-pop ps (c.in-Some.token, c.in-Some.part) (subst AreBinary c.in-Some.ensures.items c.loop-token.invariant.binary) in
    let e = joined_tree c.in-Some.token.now (tree_of c.loop-token.left) (tree_of c.in-Some.part) (tree_of c.in_ok-left.left) h.1 c.in_ok-left.ensures in
    record {
      binary = h.0;
      same = ap (λ x. applied x ps) e ∙ sym (applied-push (tree_of c.loop-token.left) ps (c.in-Some.token, c.in-Some.part)) ∙ ap (applied (tree_of c.loop-token.left)) (sym c.in-Some.ensures.items) ∙ c.loop-token.invariant.same;
    }
