-- What a program holds for a value, and what is meant by it.
use Rattle.std.proofs.Common.{◌≡◌, Bool, [], ◌∷◌, refl, ◌∙◌, ap}
use Rattle.xpath_values.specs.declared.Value.{Value}
use Rattle.xpath_values.specs.Seen.{truth_seen}
use Rattle.xpath_values.specs.Values.{Meant, nodes, truth, number, text, held_as, truth_of}

pub truth_same : (v : Meant) → truth_seen (held_as v) ≡ truth_of v
truth_same (nodes []) = refl
truth_same (nodes (e ∷ es)) = refl
truth_same (truth b) = refl
truth_same (number x) = refl
truth_same (text t) = refl

pub truth_meant : (x : Value) (v : Meant) (r : Bool) → r ≡ truth_seen x → x ≡ held_as v → r ≡ truth_of v
truth_meant x v r e h = e ∙ ap truth_seen h ∙ truth_same v
