use Rattle.std.proofs.Common.{string_bytes}
use Rattle.xpath_values.proofs.SubstringLemmas.{kept_char, left_char}
use Rattle.xpath_values.proofs.positions.keep.Goals as goal

pub returns-then-kept : goal.returns-then-kept
returns-then-kept c = kept_char (string_bytes c.args.held.now) _ c.args.c c.args.kept c.if-kept.true c.in_ok-push.ensures.bytes

pub returns : goal.returns
returns c = left_char (string_bytes c.args.held.now) c.args.c c.args.kept c.if-kept.false
