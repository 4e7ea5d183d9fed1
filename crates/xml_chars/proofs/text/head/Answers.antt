use Rattle.std.proofs.Common.{sym, arith}
use Rattle.xml_chars.proofs.TextLemmas.{head_empty, head_ascii, head_wide}
use Rattle.xml_chars.proofs.text.head.Goals as goal

pub returns-in-empty : goal.returns-in-empty
returns-in-empty c = sym (head_empty c.args.text.now (omega arith))

pub returns-then-first-lt128 : goal.returns-then-first-lt128
returns-then-first-lt128 c = rw c.as_bytes.ensures.value (sym (head_ascii c.args.text.now c.utf8.text (omega arith) (rw c.as_bytes.ensures.value at c.if-first-lt128.true)))

pub returns-else-first-lt128 : goal.returns-else-first-lt128
returns-else-first-lt128 c = sym (head_wide c.args.text.now c.utf8.text (omega arith) (rw c.as_bytes.ensures.value at c.if-first-lt128.false))
