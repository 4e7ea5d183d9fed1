use Rattle.std.proofs.Common.{sym, arith}
use Rattle.xml_items.proofs.PlainLemmas.{ends_empty, ends_first}
use Rattle.xml_items.proofs.pieces.ends_text.Goals as goal

pub returns-in-empty : goal.returns-in-empty
returns-in-empty c = sym (ends_empty c.args.text.now (omega arith))

pub returns-in-len1-up : goal.returns-in-len1-up
returns-in-len1-up c = rw c.as_bytes.ensures.value (ends_first c.args.text.now c.utf8.text (omega arith))
