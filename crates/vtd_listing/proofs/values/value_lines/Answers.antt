use Rattle.std.proofs.Common.{ℕ, List, [], ◌∷◌, ◌++◌, ap, ap₂, ◌∙◌}
use Rattle.std.specs.Prelude.{codes}
use Rattle.std.specs.List.{flat_map}
use Rattle.vtd_listing.specs.Escapes.{escaped_char, value_line}
use Rattle.vtd_listing.proofs.EscapeLemmas.{escaped_bytes}
use Rattle.vtd_listing.proofs.values.value_lines.Goals as goal

pub returns : goal.returns
unfolding value_line
returns c =
    c.in_ok-push_text-2.ensures
    ∙ ap (λ (xs : List ℕ). xs ++ 10 ∷ []) (c.in_ok-push_escaped.ensures
    ∙ ap₂ (λ (xs ys : List ℕ). xs ++ ys) (c.in_ok-push_text.ensures ∙ ap (λ (xs : List ℕ). xs ++ codes "value ") c.in-Ok.ensures.items)
    (ap (flat_map escaped_char) c.bytes_of-bytes.ensures ∙ escaped_bytes c.args.text.now))
