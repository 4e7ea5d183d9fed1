use Rattle.std.proofs.Common.{◌∙◌, arith}
use Rattle.xml_chars.proofs.PrefixLemmas.{prefix_found, prefix_short}
use Rattle.xml_chars.proofs.names.prefix_len.Goals as goal

pub returns-clause-value : goal.returns-clause-value
returns-clause-value c = c.unwrap_or.ensures ∙ prefix_found c.args.name.now c.memchr.result c.memchr.ensures

pub returns-clause-within : goal.returns-clause-within
returns-clause-within c = let e = returns-clause-value c in omega (arith, e, prefix_short c.args.name.now)
