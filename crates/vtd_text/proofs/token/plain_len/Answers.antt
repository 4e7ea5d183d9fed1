use Rattle.std.proofs.Common.{◌∙◌, sym}
use Rattle.memchr.specs.Find.{is_byte, is_byte2}
use Rattle.xml_chars.proofs.TextLemmas.{run_from_first}
use Rattle.vtd_text.proofs.token.plain_len.Goals as goal

pub returns-in-Text : goal.returns-in-Text
returns-in-Text c = rw c.in-Text.is (c.unwrap_or.ensures ∙ sym (run_from_first (is_byte2 13 38) c.args.bytes.now c.memchr2.result c.memchr2.ensures))

pub returns-in-Literal : goal.returns-in-Literal
returns-in-Literal c = rw c.in-Literal.is (c.unwrap_or-in-Literal.ensures ∙ sym (run_from_first (is_byte 13) c.args.bytes.now c.memchr.result c.memchr.ensures))
