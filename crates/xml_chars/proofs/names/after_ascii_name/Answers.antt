use Rattle.std.proofs.Common.{ap, ◌∙◌}
use Rattle.std.specs.Str.{chars}
use Rattle.std.specs.List.{prefix_len}
use Rattle.xml_chars.specs.Wide.{is_ascii_name}
use Rattle.xml_chars.proofs.WideLemmas.{ascii_name_low}
use Rattle.xml_chars.proofs.TextLemmas.{split_run}
use Rattle.xml_chars.proofs.names.after_ascii_name.Goals as goal

pub split_at-requires : goal.split_at-requires
split_at-requires c = (split_run is_ascii_name ascii_name_low c.args.text.now c.ascii_name_len.result c.utf8.text (c.ascii_name_len.ensures.value ∙ ap (prefix_len is_ascii_name) c.as_bytes.ensures.value)).boundary

pub returns-clause-rest : goal.returns-clause-rest
returns-clause-rest c =
    let s = split_run is_ascii_name ascii_name_low c.args.text.now c.ascii_name_len.result c.utf8.text (c.ascii_name_len.ensures.value ∙ ap (prefix_len is_ascii_name) c.as_bytes.ensures.value) in
    ap chars c.split_at.ensures.back ∙ s.back
