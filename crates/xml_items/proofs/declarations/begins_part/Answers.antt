use Rattle.std.proofs.Common.{◌∙◌, sym, ap}
use Rattle.xml_items.specs.Reading.{is_name_read}
use Rattle.xml_items.proofs.PartLemmas.{part_begins}
use Rattle.xml_items.proofs.declarations.begins_part.Goals as goal

pub returns-in-Some : goal.returns-in-Some
returns-in-Some c = c.is_same.ensures ∙ sym (part_begins c.args.name.now _ _ _ c.space_of.ensures.read ∙ ap (is_name_read c.args.name.now) c.in-Some.ensures.read)

pub returns-in-None : goal.returns-in-None
returns-in-None c = sym (part_begins c.args.name.now _ _ _ c.space_of.ensures.read ∙ ap (is_name_read c.args.name.now) c.in-None.ensures.read)
