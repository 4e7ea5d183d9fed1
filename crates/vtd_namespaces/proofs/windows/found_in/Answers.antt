use Rattle.std.proofs.Common.{◌∙◌, ap, sym, take}
use Rattle.std.specs.Prelude.{encode_utf8_all}
use Rattle.vtd_namespaces.proofs.WindowLemmas.{least_found}
use Rattle.vtd_namespaces.proofs.windows.found_in.Goals as goal

pub returns-clause-found : goal.returns-clause-found
returns-clause-found c = λ p h.
    least_found c.args.round.now c.prefix.result.now (encode_utf8_all p) c.args.earlier c.first_named.result (sym c.is_some.ensures ∙ c.if-is_some.false) (c.prefix.ensures ∙ ap (take c.args.parts.prefix) c.slice_of.ensures ∙ h.written) c.first_named.ensures.found c.first_named.ensures.least
