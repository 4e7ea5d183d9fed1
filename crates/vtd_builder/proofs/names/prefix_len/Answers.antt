use Rattle.std.proofs.Common.{sym, ◌∙◌, ap, arith}
use Rattle.std.specs.Prelude.{unwrap_or}
use Rattle.xml_chars.proofs.PrefixLemmas.{prefix_short}
use Rattle.vtd_builder.proofs.Colons.{prefix_by_position}
use Rattle.vtd_builder.proofs.names.prefix_len.Goals as goal

pub returns-clause-value : goal.returns-clause-value
returns-clause-value c = c.unwrap_or.ensures ∙ ap (λ o. unwrap_or o 0) c.first_colon.ensures ∙ sym (prefix_by_position c.args.name.now)

pub returns-clause-within : goal.returns-clause-within
returns-clause-within c = let e = returns-clause-value c in omega (arith, e, prefix_short c.args.name.now)
