use Rattle.std.proofs.Common.{ap}
use Rattle.vtd_text.proofs.CharsLemmas.{next_left, next_view, goes_on}
use Rattle.vtd_text.proofs.chars.CharsIterator.next.Goals as goal

pub invariant_of-self : goal.invariant_of-self
invariant_of-self g c =
    next_left _ _ _ _ _ _ _ _ _ _ _ _ c.next.result (ap (λ x. x.now) c.next.ensures.bytes) (ap (λ x. (g.W.Words.lists x.now).records) c.next.ensures.words) c.next.ensures.content c.self.invariant

pub returns-clause-steps : goal.returns-clause-steps
returns-clause-steps g c =
    rw (← c.self.view_is)
    (next_view _ _ _ _ _ _ _ _ _ _ _ _ c.next.result (ap (λ x. x.now) c.next.ensures.bytes) (ap (λ x. (g.W.Words.lists x.now).records) c.next.ensures.words) c.next.ensures.content c.self.invariant)

pub returns-clause-goes : goal.returns-clause-goes
returns-clause-goes g c =
    goes_on _ (λ l. tt) _ _ c.next.result
    (rw (← c.self.view_is)
    (next_view _ _ _ _ _ _ _ _ _ _ _ _ c.next.result (ap (λ x. x.now) c.next.ensures.bytes) (ap (λ x. (g.W.Words.lists x.now).records) c.next.ensures.words) c.next.ensures.content c.self.invariant))
