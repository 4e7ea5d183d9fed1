use Rattle.std.proofs.Common.{◌≡◌, ◌∙◌, arith, ◌++◌, [], ◌∷◌, refl, subst, sym}
use Rattle.std.specs.List.{AllByRecursion as Each}
use Rattle.vtd_words.specs.Table.{IsNodeOf}
use Rattle.xpath_steps.proofs.AboveLemmas.{each_append}
use Rattle.std.proofs.lemmas.Grind.{common_steps}
use Rattle.xpath_steps.proofs.StepLemmas.{all_gathered, gathered_on}
use Rattle.xpath_steps.proofs.ends.gather_back.Goals as goal

pub loop-node-init : goal.loop-node-init
loop-node-init g c = record { names = c.requires.names; back = c.requires.back; nodes = rw c.new-held.ensures.items tt; so_far = λ nest s. rw c.new-held.ensures.items refl }

pub returns-in_default-clause-gathered : goal.returns-in_default-clause-gathered
returns-in_default-clause-gathered g c = λ nest s.
    all_gathered _ _ _ (c.loop-node.invariant.so_far nest s)
    ((rw c.in_default.is at c.find_before-found.ensures.found) nest s ∙ (rw c.in_default.is at c.find_before-found.ensures.end) nest s)

pub loop-node-preserved : goal.loop-node-preserved
loop-node-preserved g c =
    let more : c.push.new.self.items ≡ c.loop-node.held.items ++ (c.in-Some.node ∷ []) = grind (arith, common_steps) in
    record {
      names = c.find_before-found.ensures.names;
      back = c.find_before-found.ensures.back;
      nodes = subst (Each (IsNodeOf _ _)) (sym more)
          (each_append _ _ _ c.loop-node.invariant.nodes ((rw c.in-Some.is at c.find_before-found.ensures.node), tt));
      so_far = λ nest s.
          gathered_on _ _ _ (c.in-Some.node ∷ []) _ _ (c.loop-node.invariant.so_far nest s)
          ((rw c.in-Some.is at c.find_before-found.ensures.found) nest s) more;
    }
