use Rattle.std.proofs.Common.{◌≡◌, ◌∙◌, ap, [], ◌∷◌, ◌++◌}
use Rattle.xpath_meaning.proofs.ArgumentLemmas.{values_more}
use Rattle.xpath_meaning.proofs.places.with_value.Goals as goal

pub returns-clause-of : goal.returns-clause-of
returns-clause-of g c =
    let e : c.push.new.self.items ≡ c.args.values ++ c.args.value ∷ [] = c.in_ok-push.ensures.items ∙ ap (λ xs. xs ++ c.args.value ∷ []) c.values.view_is in
    values_more _ _ _ _ c.requires.values c.requires.value e
