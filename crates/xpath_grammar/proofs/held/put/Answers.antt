use Rattle.std.proofs.Common.{◌∙◌, ap}
use Rattle.std.specs.Str.{chars}
use Rattle.xpath_grammar.specs.Bindings.{bound_in}
use Rattle.xpath_grammar.specs.Held.{shown}
use Rattle.xpath_grammar.proofs.BoundPrefixes.{shown_insert}
use Rattle.xpath_grammar.proofs.held.put.Goals as goal

pub returns-clause-bound : goal.returns-clause-bound
returns-clause-bound c =
    let es = c.args.held.now.entries in
    ap shown c.in_ok-insert.ensures.entries
    ∙ shown_insert es c.in_ok-key.key c.in_ok-text.text
    ∙ ap (λ p. bound_in (shown es) (chars p) c.in_ok-text.text) c.in_ok-key.ensures.ok
    ∙ ap (bound_in (shown es) (chars c.args.prefix.now)) c.in_ok-text.ensures
