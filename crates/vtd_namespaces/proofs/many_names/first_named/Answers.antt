use Rattle.std.proofs.Common.{◌∙◌, sym, ap, arith}
use Rattle.std.proofs.lemmas.Bool.{false≢true}
use Rattle.std.proofs.lemmas.List.{get_or_default}
use Rattle.std.proofs.lemmas.Slice.Eq.{bytes_eq-Decides}
use Rattle.vtd_namespaces.proofs.many_names.first_named.Goals as goal
use Rattle.vtd_namespaces.proofs.many_names.first_named.Goals.{else-at-round-via-then-at-round+else-eq, else-at-round-via-else-at-round}

pub returns-then-eq-clause-least : goal.returns-then-eq-clause-least
returns-then-eq-clause-least c = λ n named.
    c.place_for-at.ensures.least _ c.if-at-round.true ((bytes_eq-Decides _ c.args.name.now).0 (sym c.eq.ensures ∙ c.if-eq.true)) n named

pub returns-clause-least : goal.returns-clause-least
returns-clause-least c = λ n named. c.place_for-at.ensures.none (λ d w s.
    elim c.else-at-round.branch [
      | else-at-round-via-then-at-round+else-eq b ↦ false≢true (sym b.if-eq.false ∙ b.eq.ensures ∙ (bytes_eq-Decides _ c.args.name.now).1 (ap (λ e. e.0.now) (get_or_default c.args.round.now c.place_for-at.result _ d w) ∙ s))
      | else-at-round-via-else-at-round b ↦ omega (arith, w, b.if-at-round.false)
    ]) n named
