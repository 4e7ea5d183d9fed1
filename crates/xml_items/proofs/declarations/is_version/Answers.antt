use Rattle.std.proofs.Common.{◌∙◌, sym}
use Rattle.std.specs.Str.{chars}
use Rattle.xml_items.proofs.PartLemmas.{version_yes, version_no}
use Rattle.xml_items.proofs.declarations.is_version.Goals as goal

pub returns-in-Some : goal.returns-in-Some
returns-in-Some c = c.are_digits.ensures ∙ sym (version_yes (chars c.args.text.now) (chars c.in-Some.digits.now) c.in-Some.ensures.read)

pub returns-in-None : goal.returns-in-None
returns-in-None c = sym (version_no (chars c.args.text.now) c.in-None.ensures.read)
