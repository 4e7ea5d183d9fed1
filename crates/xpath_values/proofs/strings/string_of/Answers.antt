use Rattle.std.proofs.Common.{ℕ, List, subst, ◌≡◌}
use Rattle.std.specs.Prelude.{IfOk}
use Rattle.xpath_values.proofs.SeenLemmas.{held_seen, string_meant, texts}
use Rattle.xpath_values.proofs.strings.string_of.Goals as goal

pub returns : goal.returns
returns g c = λ nest is v h.
    subst (λ (t : List ℕ). IfOk c.string_seen.result (λ x. x ≡ t)) (string_meant _ c.args.value.now v h)
    (c.string_seen.ensures (texts v) (held_seen _ _ nest is c.args.value.now v h))
