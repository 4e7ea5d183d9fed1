use Rattle.std.proofs.Common.{ap, ◌∙◌}
use Rattle.std.specs.Str.{chars}
use Rattle.std.specs.List.{prefix_len}
use Rattle.xml_items.specs.Plain.{is_plain_text, is_text_byte}
use Rattle.xml_items.proofs.ByteRuns.{split_bytes, agrees_by, text_bytes}
use Rattle.xml_items.proofs.pieces.after_plain_text.Goals as goal

pub split_at-requires : goal.split_at-requires
split_at-requires c = (split_bytes is_plain_text is_text_byte (agrees_by is_plain_text is_text_byte text_bytes) c.args.text.now c.plain_text_len.result c.utf8.text (c.plain_text_len.ensures.value ∙ ap (prefix_len is_text_byte) c.as_bytes.ensures.value)).boundary

pub returns-clause-rest : goal.returns-clause-rest
returns-clause-rest c =
    ap chars c.split_at.ensures.back ∙ (split_bytes is_plain_text is_text_byte (agrees_by is_plain_text is_text_byte text_bytes) c.args.text.now c.plain_text_len.result c.utf8.text (c.plain_text_len.ensures.value ∙ ap (prefix_len is_text_byte) c.as_bytes.ensures.value)).back
