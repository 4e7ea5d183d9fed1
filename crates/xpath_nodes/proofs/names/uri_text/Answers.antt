use Rattle.std.proofs.Common.{refl}
use Rattle.xpath_nodes.proofs.NameLemmas.{no_uri_text}
use Rattle.xpath_nodes.proofs.names.uri_text.Goals as goal

pub returns-in_default : goal.returns-in_default
returns-in_default g c = record {
  text = no_uri_text c.no_name.result _ _ c.args.node c.in_default.not-Element c.in_default.not-Attribute c.no_name.ensures;
  resolver = refl;
}
