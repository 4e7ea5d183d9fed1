use Rattle.std.proofs.Common.{sym, ◌∙◌, ◌≡◌, ap, true, false, Bool}
use Rattle.std.specs.Prelude.{codes, bytes_eq, ◌||◌}
use Rattle.xml_model.specs.Chars.{begins}
use Rattle.xml_model.specs.Records.{declares}
use Rattle.xml_chars.proofs.TextLemmas.{pointwise-begins}
use Rattle.vtd_builder.proofs.names.declares.Goals as goal

pub returns-then-eq : goal.returns-then-eq
unfolding declares
returns-then-eq c =
    let e : bytes_eq c.args.name.now (codes "xmlns") ≡ true = rw c.as_slice.ensures at (sym c.eq.ensures ∙ c.if-eq.true) in
    c.if-eq.true ∙ sym (ap (λ (b : Bool). b || begins (codes "xmlns:") c.args.name.now) e)

pub returns-else-eq : goal.returns-else-eq
unfolding declares
returns-else-eq c =
    let e : bytes_eq c.args.name.now (codes "xmlns") ≡ false = rw c.as_slice.ensures at (sym c.eq.ensures ∙ c.if-eq.false) in
    c.starts_with.ensures.value ∙ pointwise-begins (codes "xmlns:") c.args.name.now ∙ sym (ap (λ (b : Bool). b || begins (codes "xmlns:") c.args.name.now) e)
