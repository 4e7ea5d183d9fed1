use Rattle.std.proofs.Common.{◌∙◌, sym, ap}
use Rattle.std.specs.Prelude.{codes}
use Rattle.xml_items.specs.Reading.{is_name_read}
use Rattle.xml_items.proofs.begins_xml.Goals as goal

pub returns-in-Some : goal.returns-in-Some
returns-in-Some c = c.is_same.ensures ∙ sym (ap (is_name_read (codes "xml")) c.in-Some.ensures.read)

pub returns-in-None : goal.returns-in-None
returns-in-None c = sym (ap (is_name_read (codes "xml")) c.in-None.ensures.read)
