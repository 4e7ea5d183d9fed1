use Rattle.std.proofs.Common.{ap, List, ℕ, ◌++◌}
use Rattle.std.specs.Str.{chars}
use Rattle.xml_chars.proofs.Runs.{char_some, char_none}
use Rattle.vtd_text.proofs.TextsLemmas.{none_left, first_left}
use Rattle.vtd_text.proofs.texts.take_first.Goals as goal

pub returns-in-Some : goal.returns-in-Some
returns-in-Some g c = ap (λ (l : List ℕ). l ++ c.args.left.now) (char_some (chars c.args.slice.now) (chars c.in-Some.rest.now) c.in-Some.c c.in-Some.ensures.read)

pub returns-in_err-c : goal.returns-in_err-c
returns-in_err-c g c = rw c.from_residual.ensures (none_left (chars c.args.slice.now) c.args.left.now (char_none (chars c.args.slice.now) c.in_default.ensures.read) c.in_err-c.ensures.steps.0)

pub returns : goal.returns
returns g c = first_left (chars c.args.slice.now) c.args.left.now c.next.new.self c.in_ok-c.c (char_none (chars c.args.slice.now) c.in_default.ensures.read) c.in_ok-c.ensures.steps
