use Rattle.std.proofs.Common.{sym}
use Rattle.std.specs.Str.{chars}
use Rattle.xml_chars.proofs.Runs.{char_some, char_none}
use Rattle.xml_items.proofs.WalkLemmas.{drop_none, drop_some}
use Rattle.xml_items.proofs.after_first.Goals as goal

pub returns-in-Some : goal.returns-in-Some
returns-in-Some c = sym (drop_some (chars c.args.text.now) (chars c.in-Some.rest.now) _ (char_some _ _ _ c.in-Some.ensures.read))

pub returns-in-None : goal.returns-in-None
returns-in-None c = sym (drop_none (chars c.args.text.now) (char_none _ c.in-None.ensures.read))
