use Rattle.std.proofs.Common.{rules, ◌≡◌, ℕ, List, subst}
use Rattle.xml_model.specs.Accepted.{IsRefusal}
use Rattle.vtd_history.specs.Steps.{with_range}
use Rattle.vtd_history.proofs.exchanging.try_exchange.Goals as goal

pub returns-in-Err-clause-refused : goal.returns-in-Err-clause-refused
returns-in-Err-clause-refused c fault e =
    let s = c.args.segment.now in
    let made : c.in-Ok.bytes.items ≡ with_range s.start s.end s.bytes c.args.document.now.bytes = search rules in
    subst (λ (bytes : List ℕ). IsRefusal bytes fault) made (c.in-Err.ensures.refused fault e)
