use Rattle.std.proofs.Common.{◌∙◌, ap, sym, bytes_eq, []}
use Rattle.std.specs.Option.{unwrap_or}
use Rattle.std.specs.Str.{chars}
use Rattle.vtd_namespaces.specs.Uris.{uri_value}
use Rattle.vtd_namespaces.proofs.NodeNameLemmas.{empty_text, xml_text}
use Rattle.vtd_namespaces.proofs.compare.is_uri.Goals as goal

pub returns-in-None : goal.returns-in-None
returns-in-None g c = c.is_empty.ensures ∙ empty_text c.args.text.now c.utf8.text ∙ sym (ap (λ u. bytes_eq (unwrap_or (uri_value u) []) (chars c.args.text.now)) c.in-None.is)

pub returns-in-Xml : goal.returns-in-Xml
returns-in-Xml g c = c.eq.ensures ∙ xml_text c.args.text.now c.utf8.text ∙ sym (ap (λ u. bytes_eq (unwrap_or (uri_value u) []) (chars c.args.text.now)) c.in-Xml.is)
