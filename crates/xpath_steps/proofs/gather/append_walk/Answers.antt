use Rattle.std.proofs.Common.{◌≡◌, ◌∙◌, sym, arith, ◌++◌, [], ◌∷◌}
use Rattle.std.proofs.lemmas.Grind.{common_steps}
use Rattle.xpath_steps.proofs.StepLemmas.{all_gathered, gathered_on}
use Rattle.xpath_steps.proofs.gather.append_walk.Goals as goal

pub returns-in_default-clause-appended : goal.returns-in_default-clause-appended
returns-in_default-clause-appended g c = λ nest s.
    all_gathered _ _ _ (c.loop-node.invariant.so_far nest s)
    ((rw c.in_default.is at c.find-found.ensures.found) nest s ∙ (rw c.in_default.is at c.find-found.ensures.end) nest s)

pub returns-in_default-clause-stop : goal.returns-in_default-clause-stop
returns-in_default-clause-stop g c = λ nest s.
    (rw c.in_default.is at c.find-found.ensures.stop) nest s ∙ sym (c.loop-node.invariant.stops nest s)

pub loop-node-preserved : goal.loop-node-preserved
loop-node-preserved g c =
    let more : c.push.new.self.items ≡ c.loop-node.held.items ++ (c.in-Some.node ∷ []) = grind (arith, common_steps) in
    record {
      names = c.find-found.ensures.names;
      so_far = λ nest s.
          gathered_on _ _ _ (c.in-Some.node ∷ []) _ _ (c.loop-node.invariant.so_far nest s) ((rw c.in-Some.is at c.find-found.ensures.found) nest s) more;
      stops = λ nest s. c.loop-node.invariant.stops nest s ∙ (rw c.in-Some.is at c.find-found.ensures.stop) nest s;
    }
