use Rattle.std.specs.Str.{chars}
use Rattle.xml_chars.proofs.Runs.{char_some, char_none}
use Rattle.xpath_values.proofs.translating.split.Goals as goal

pub returns-in-None : goal.returns-in-None
returns-in-None c =
    (char_none (chars c.args.text.now) c.in-None.ensures.read, char_none (chars c.args.text.now) c.in-None.ensures.read)

pub returns-in-Some : goal.returns-in-Some
returns-in-Some c = char_some (chars c.args.text.now) (chars c.in-Some.rest.now) c.in-Some.c c.in-Some.ensures.read
