use Rattle.std.specs.Str.{chars}
use Rattle.xml_chars.proofs.Runs.{char_some, char_none}
use Rattle.vtd_text.proofs.TextsLemmas.{char_prefix, other_char, no_char}
use Rattle.vtd_text.proofs.texts.after_both.Goals as goal

pub returns-in_err-first : goal.returns-in_err-first
returns-in_err-first c = rw c.from_residual.ensures (no_char (chars c.args.text.now) (chars c.args.prefix.now) c.args.c (char_none (chars c.args.text.now) c.in_err-first.ensures.read))

pub returns-then-first-c : goal.returns-then-first-c
returns-then-first-c c =
    let e = rw c.if-first-c.true at (char_some (chars c.args.text.now) (chars c.in_ok-first.rest.now) c.in_ok-first.first c.in_ok-first.ensures.read) in
    char_prefix (chars c.args.text.now) (chars c.in_ok-first.rest.now) (chars c.args.prefix.now) c.args.c c.after_prefix.result e c.after_prefix.ensures

pub returns-else-first-c : goal.returns-else-first-c
returns-else-first-c c =
    other_char (chars c.args.text.now) (chars c.in_ok-first.rest.now) (chars c.args.prefix.now) c.in_ok-first.first c.args.c (char_some (chars c.args.text.now) (chars c.in_ok-first.rest.now) c.in_ok-first.first c.in_ok-first.ensures.read)
    c.if-first-c.false
