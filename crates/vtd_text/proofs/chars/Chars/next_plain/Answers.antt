use Rattle.std.proofs.Common.{ap}
use Rattle.vtd_text.proofs.CharsLemmas.{plain_left, plain_view}
use Rattle.vtd_text.proofs.chars.Chars.next_plain.Goals as goal

pub invariant_of-self : goal.invariant_of-self
invariant_of-self g c =
    let n = c.next_plain in
    plain_left _ _ _ _ _ _ _ _ _ _ _ _ _ (ap (λ x. x.now) n.ensures.bytes) (ap (λ x. (g.W.Words.lists x.now).records) n.ensures.words) n.ensures.end n.ensures.at n.ensures.content c.self.invariant

pub returns : goal.returns
returns g c =
    let n = c.next_plain in
    rw (← c.self.view_is) (plain_view _ _ _ _ _ _ _ _ _ _ _ _ _ (ap (λ x. x.now) n.ensures.bytes) (ap (λ x. (g.W.Words.lists x.now).records) n.ensures.words) n.ensures.end n.ensures.at n.ensures.content c.self.invariant)
