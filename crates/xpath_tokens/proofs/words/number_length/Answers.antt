use Rattle.std.proofs.Common.{◌≢◌, subst, sym, ◌≤◌, length}
use Rattle.xpath_tokens.proofs.Longest.{number_word, number_longest}
use Rattle.xpath_tokens.proofs.words.number_length.Goals as goal

pub returns-clause-spelled : goal.returns-clause-spelled
returns-clause-spelled c = λ n.
    let e = c.number_run.ensures.count in
    rw e (number_word c.args.chars.now (subst (λ z. z ≢ 0) e n))

pub returns-clause-longest : goal.returns-clause-longest
returns-clause-longest c = λ w rest e h. subst (λ z. length w ≤ z) (sym c.number_run.ensures.count) (number_longest c.args.chars.now w rest e h)
