use Rattle.std.proofs.Common.{ℕ, List, ◌∷◌, option_map, ap, ◌∙◌, sym}
use Rattle.std.proofs.lemmas.List.{take_rest}
use Rattle.vtd_lines.specs.Fields.{unescaped}
use Rattle.std.proofs.lemmas.Bool.{ne_eqb}
use Rattle.vtd_lines.proofs.FieldLemmas.{plain_char, escaped_char}
use Rattle.vtd_lines.proofs.fields.first_char.Goals as goal

pub returns-then-first-ne92-clause-value : goal.returns-then-first-ne92-clause-value
returns-then-first-ne92-clause-value c = plain_char c.args.first c.args.after.now (ne_eqb c.args.first 92 c.if-first-ne92.true)

pub returns-in_ok-escape-in-len1-up-clause-value : goal.returns-in_ok-escape-in-len1-up-clause-value
returns-in_ok-escape-in-len1-up-clause-value c =
    let letter = c.in_ok-escape-in-len1-up.field-0 in
    escaped_char c.args.first c.letter-item.result letter c.args.after.now c.if-first-ne92.false c.in-len1-up.len_at_least c.letter-item.is
    (sym c.escape.ensures ∙ c.in_ok-escape-in-len1-up.was)
    ∙ ap (λ (xs : List ℕ). option_map (λ cs. letter ∷ cs) (unescaped xs)) (sym (take_rest c.args.after.now 1))
