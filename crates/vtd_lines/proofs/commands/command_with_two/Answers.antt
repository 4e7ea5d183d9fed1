use Rattle.std.proofs.Common.{Err, sym, ◌∙◌}
use Rattle.std.specs.Str.{chars}
use Rattle.std.proofs.lemmas.Result.{err_from_is_err_and}
use Rattle.vtd_lines.specs.Fields.{unescaped}
use Rattle.vtd_lines.specs.Commands.{with_two, word_with_two}
use Rattle.vtd_lines.proofs.ReadLemmas.{first_wrong, second_wrong, two_as}
use Rattle.vtd_lines.proofs.commands.command_with_two.Goals as goal

pub returns-in_err-first : goal.returns-in_err-first
returns-in_err-first c =
    let p = err_from_is_err_and c.from_residual.result c.from_residual.ensures.1 in
    rw (p.1, p.2) (two_as (Err c.in_err-first.field-0.0) (word_with_two c.args.word.now) c.in-Some.word c.args.first.now c.args.second.now
    (sym c.word_with_two.ensures ∙ c.in-Some.is) (first_wrong (with_two c.in-Some.word) (unescaped (chars c.args.first.now)) (unescaped
    (chars c.args.second.now)) c.in_err-first.field-0.0 c.in_err-first.ensures.fault))

pub returns-in_err-second : goal.returns-in_err-second
returns-in_err-second c =
    let p = err_from_is_err_and c.from_residual-in_err-second.result c.from_residual-in_err-second.ensures.1 in
    rw (p.1, p.2) (two_as (Err c.in_err-second.field-0.0) (word_with_two c.args.word.now) c.in-Some.word c.args.first.now c.args.second.now
    (sym c.word_with_two.ensures ∙ c.in-Some.is) (second_wrong (with_two c.in-Some.word) c.in_ok-first.first (unescaped (chars c.args.first.now)) (unescaped
    (chars c.args.second.now)) c.in_err-second.field-0.0 c.in_ok-first.ensures.text c.in_err-second.ensures.fault))
