use Rattle.std.proofs.Common.{List, ℕ, ◌++◌, ◌∙◌, ap}
use Rattle.xpath_values.proofs.strings.node_text.Goals as goal

pub returns : goal.returns
returns g c = λ t h.
    c.in_ok-append_to.ensures.all ∙ ap (λ (l : List ℕ). l ++ c.chars_at.result) c.in_ok-text.ensures ∙ c.chars_at.ensures t h
