use Rattle.xpath_nodes.proofs.NameLemmas.{xml_text}
use Rattle.xpath_nodes.proofs.names.text_of_uri.Goals as goal

pub returns-in-Xml : goal.returns-in-Xml
returns-in-Xml g c = xml_text c.made.result c.args.uri c.in-Xml.is c.made.ensures
