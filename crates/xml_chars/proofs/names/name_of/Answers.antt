use Rattle.std.proofs.Common.{sym, ◌∙◌}
use Rattle.std.specs.Str.{chars}
use Rattle.xml_chars.proofs.Runs.{name_cut, no_name}
use Rattle.xml_chars.proofs.names.name_of.Goals as goal

pub returns-then-not-begins_name-clause-read : goal.returns-then-not-begins_name-clause-read
returns-then-not-begins_name-clause-read c = no_name (chars c.args.text.now) (sym c.begins_name.ensures ∙ c.if-not-begins_name.true)

pub split_at-requires : goal.split_at-requires
split_at-requires c = (name_cut c.args.text.now c.after_name_chars-rest.result.now c.utf8.text c.after_name_chars-rest.utf8 c.after_name_chars-rest.ensures.rest).0.boundary

pub returns-clause-read : goal.returns-clause-read
returns-clause-read c =
    rw (c.split_at.ensures.front, c.split_at.ensures.back) ((name_cut c.args.text.now c.after_name_chars-rest.result.now c.utf8.text c.after_name_chars-rest.utf8 c.after_name_chars-rest.ensures.rest).1 (sym c.begins_name.ensures ∙ c.if-not-begins_name.false))
