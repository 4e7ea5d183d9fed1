use Rattle.std.proofs.Common.{◌∙◌, ap, sym}
use Rattle.std.specs.Prelude.{◌||◌}
use Rattle.std.specs.List.{list_any}
use Rattle.xpath_values.specs.Answers.{with}
use Rattle.xpath_values.specs.Numbers.{compare_numbers}
use Rattle.xpath_comparisons.specs.Comparing.{is_truth, numbers_seen}
use Rattle.xpath_comparisons.proofs.KindLemmas.{left_is_number, right_is_number}
use Rattle.xpath_comparisons.proofs.equality.by_kind.Goals as goal

pub returns-in-Some : goal.returns-in-Some
returns-in-Some g c = λ ts us h k.
    left_is_number c.args.unequal c.args.left.now c.args.right.now c.in-Some.number ts us c.any_number.result
    (sym (c.either.ensures ∙ ap (λ b. b || c.is_truth-2.result) c.is_truth.ensures ∙ ap (λ b. is_truth c.args.left.now || b) c.is_truth-2.ensures)
    ∙ c.if-either.false)
    c.in-Some.ensures
    (c.any_number.ensures us k
    ∙ ap (λ how. with (numbers_seen c.args.right.now us) (list_any (λ y. compare_numbers how y c.in-Some.number))) c.equality_of-how.ensures)

pub returns-in-Some-number_in : goal.returns-in-Some-number_in
returns-in-Some-number_in g c = λ ts us h k.
    right_is_number c.args.unequal c.args.left.now c.args.right.now c.in-Some-number_in.number ts us c.any_number-in-Some-number_in.result
    (sym (c.either.ensures ∙ ap (λ b. b || c.is_truth-2.result) c.is_truth.ensures ∙ ap (λ b. is_truth c.args.left.now || b) c.is_truth-2.ensures)
    ∙ c.if-either.false)
    c.in_default.ensures c.in-Some-number_in.ensures
    (c.any_number-in-Some-number_in.ensures ts h
    ∙ ap (λ how. with (numbers_seen c.args.left.now ts) (list_any (λ x. compare_numbers how x c.in-Some-number_in.number))) c.equality_of-how.ensures)
