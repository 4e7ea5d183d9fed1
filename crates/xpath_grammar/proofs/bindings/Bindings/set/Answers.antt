use Rattle.std.proofs.Common.{◌≡◌, true, sym, subst}
use Rattle.std.specs.Str.{chars}
use Rattle.xpath_grammar.specs.Bindings.{can_bind, AreBound}
use Rattle.xpath_grammar.specs.Held.{shown}
use Rattle.xpath_grammar.proofs.BoundPrefixes.{bound_still}
use Rattle.xpath_grammar.proofs.bindings.Bindings.set.Goals as goal

pub invariant_of-self-2 : goal.invariant_of-self-2
invariant_of-self-2 c =
    let can : can_bind (chars c.args.prefix.now) (chars c.args.uri.now) ≡ true = let h = c.can_bind.ensures in let k = c.if-not-can_bind.false in cc in
    subst AreBound (sym c.in_ok-put.ensures.bound) (bound_still (shown c.self.inside.held.entries) (chars c.args.prefix.now)
    (chars c.args.uri.now) c.self.invariant can)
