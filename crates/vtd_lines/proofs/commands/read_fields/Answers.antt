use Rattle.std.proofs.Common.{Bor, ℕ, List, sym, ◌∙◌}
use Rattle.vtd_lines.proofs.ReadLemmas.{more_than_three}
use Rattle.vtd_lines.proofs.commands.read_fields.Goals as goal

pub returns-then-is_some : goal.returns-then-is_some
returns-then-is_some c =
    more_than_three (λ (r : Bor (List ℕ)). r.now) c.args.line.now _ _ _ _ _ _ _ _ c.first_field.ensures c.in-Some.is c.first_field-2.ensures c.in-Some-rest.is
    c.first_field-3.ensures (sym c.is_some.ensures ∙ c.if-is_some.true)
