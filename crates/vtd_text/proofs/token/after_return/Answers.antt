use Rattle.std.proofs.Common.{refl}
use Rattle.std.specs.Str.{chars}
use Rattle.std.proofs.lemmas.Bool.{ne_eqb}
use Rattle.xml_chars.proofs.Runs.{char_some, char_none}
use Rattle.vtd_text.proofs.token.after_return.Goals as goal

pub returns-then-c-eq10-clause-rest : goal.returns-then-c-eq10-clause-rest
returns-then-c-eq10-clause-rest c = rw (char_some (chars c.args.text.now) (chars c.in-Some.rest.now) c.in-Some.c c.in-Some.ensures.read, c.if-c-eq10.true) refl

pub returns-else-c-eq10-clause-rest : goal.returns-else-c-eq10-clause-rest
returns-else-c-eq10-clause-rest c = rw (char_some (chars c.args.text.now) (chars c.in-Some.rest.now) c.in-Some.c c.in-Some.ensures.read, ne_eqb c.in-Some.c 10 c.if-c-eq10.false) refl

pub returns-in-None-clause-rest : goal.returns-in-None-clause-rest
returns-in-None-clause-rest c = rw (char_none (chars c.args.text.now) c.in-None.ensures.read) refl
