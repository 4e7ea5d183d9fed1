use Rattle.std.proofs.Common.{ap, ◌∙◌}
use Rattle.std.specs.Str.{chars}
use Rattle.xml_items.proofs.FindLemmas.{other_split}
use Rattle.xml_items.proofs.marks.after_other.Goals as goal

pub split_at-requires : goal.split_at-requires
split_at-requires c = (other_split c.args.byte c.requires c.args.text.now c.as_bytes.result.now c.memchr.result c.unwrap_or-n.result c.as_bytes.ensures.value c.utf8.text c.memchr.ensures c.unwrap_or-n.ensures).boundary

pub returns-clause-rest : goal.returns-clause-rest
returns-clause-rest c =
    ap chars c.split_at.ensures.back ∙ (other_split c.args.byte c.requires c.args.text.now c.as_bytes.result.now c.memchr.result c.unwrap_or-n.result c.as_bytes.ensures.value c.utf8.text c.memchr.ensures c.unwrap_or-n.ensures).back
