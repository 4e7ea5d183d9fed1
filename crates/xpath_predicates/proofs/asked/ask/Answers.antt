use Rattle.std.proofs.Common.{◌≡◌, ◌∙◌, ap, refl, sym, Ok}
use Rattle.std.specs.Prelude.{bytes_eq}
use Rattle.std.specs.Str.{chars}
use Rattle.xpath_values.specs.Answers.{with}
use Rattle.xpath_values.specs.Numbers.{compare_numbers, number_of_text}
use Rattle.xpath_values.specs.Values.{by_equality, string_value}
use Rattle.xpath_predicates.specs.Asks.{is_right, is_yes}
use Rattle.xpath_predicates.proofs.asked.ask.Goals as goal

pub returns-in-Ok-clause-right : goal.returns-in-Ok-clause-right
returns-in-Ok-clause-right g c = λ nest h e k.
    let q : number_of_text (string_value e) ≡ Ok c.in-Ok.other =
    sym (c.number_seen.ensures (string_value e) (record { nest = nest; shown = h; entry = e; holds = k; same = refl })) ∙ c.in-Ok.is in
    ap (λ a. is_right a e) c.in-Number.is
    ∙ ap (λ m. is_yes (with m (λ y. compare_numbers c.in-Number.how y c.in-Number.number))) q ∙ sym c.compare_numbers.ensures

pub returns-in-Text-clause-right : goal.returns-in-Text-clause-right
returns-in-Text-clause-right g c = λ nest h e k.
    let q = c.chars_at.ensures (string_value e) (record { nest = nest; shown = h; entry = e; holds = k; same = refl }) in
    ap (λ a. is_right a e) c.in-Text.is
    ∙ sym (c.by_equality.ensures ∙ ap (by_equality c.in-Text.how) (c.equals_str.ensures ∙ ap (λ x. bytes_eq x (chars c.in-Text.text.now)) q))
