use Rattle.std.proofs.Common.{◌∙◌, ap}
use Rattle.std.specs.Str.{chars}
use Rattle.std.proofs.lemmas.Str.{chars-append}
use Rattle.xpath_values.proofs.building.joined_text.Goals as goal

pub returns : goal.returns
returns c = ap chars c.in_ok-joined.ensures ∙ chars-append c.args.one.now c.args.other.now c.utf8.one
