use Rattle.std.specs.Str.{chars}
use Rattle.vtd_text.proofs.TextsLemmas.{apart, first_shorter, other_shorter}
use Rattle.vtd_text.proofs.texts.after_shorter.Goals as goal

pub returns-in-Some : goal.returns-in-Some
returns-in-Some c = first_shorter c.args.one.now c.args.other.now c.in-Some.rest.now c.in-Some.ensures

pub returns-in_err-rest : goal.returns-in_err-rest
returns-in_err-rest c = rw c.from_residual.ensures (apart (chars c.args.one.now) (chars c.args.other.now) c.in_default.ensures c.in_err-rest.ensures)

pub returns : goal.returns
returns c = other_shorter c.args.one.now c.args.other.now c.in_ok-rest.rest.now c.in_ok-rest.ensures
