use Rattle.std.proofs.Common.{◌≡◌, ◌∙◌, ◌++◌, [], ◌∷◌, arith, refl}
use Rattle.std.proofs.lemmas.Grind.{common_steps}
use Rattle.xpath_steps.proofs.StepLemmas.{all_gathered, gathered_on}
use Rattle.xpath_steps.proofs.merge.merged.Goals as goal

pub loop-node-init : goal.loop-node-init
loop-node-init c = λ es r P Q h k. record { rest = es; rises = r; first = h; second = k; so_far = rw c.new-held.ensures.items refl }

pub returns-in_default : goal.returns-in_default
returns-in_default c = λ es r P Q h k.
    let l = c.loop-node.invariant es r P Q h k in
    let s = c.first_of-next.ensures.step l.rest l.rises P Q l.first l.second in
    all_gathered _ _ _ l.so_far ((rw c.in_default.is at s.found) ∙ (rw c.in_default.is at s.end))

pub loop-node-preserved : goal.loop-node-preserved
loop-node-preserved c =
    let more : c.push.new.self.items ≡ c.loop-node.held.items ++ (c.in-Some.node ∷ []) = grind (arith, common_steps) in
    λ es r P Q h k.
    let l = c.loop-node.invariant es r P Q h k in
    let s = c.first_of-next.ensures.step l.rest l.rises P Q l.first l.second in
    record {
      rest = s.rest;
      rises = s.rises;
      first = s.first;
      second = s.second;
      so_far = gathered_on _ _ _ (c.in-Some.node ∷ []) _ _ l.so_far (rw c.in-Some.is at s.found) more;
    }
