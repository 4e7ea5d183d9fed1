use Rattle.std.proofs.Common.{rules, ◌∙◌, sym}
use Rattle.std.specs.Str.{IsUtf8, chars}
use Rattle.xml_chars.proofs.ColonLemmas.{name_by_rest, no_part_name}
use Rattle.xml_chars.proofs.names.is_name.Goals as goal

pub returns-in-Some : goal.returns-in-Some
returns-in-Some c =
    let v : IsUtf8 c.in-Some.rest.now = search rules in
    c.is_empty.ensures ∙ name_by_rest (chars c.args.text.now) _ c.in-Some.rest.now v c.in-Some.ensures.read

pub returns-in-None : goal.returns-in-None
returns-in-None c = sym (no_part_name (chars c.args.text.now) c.in-None.ensures.read)
