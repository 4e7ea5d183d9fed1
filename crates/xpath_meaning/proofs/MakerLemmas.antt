-- Values that are no node-sets are of every document.
use Rattle.std.proofs.Common.{ℕ, Bool, List, refl}
use Rattle.xpath_values.specs.declared.Number.{Number}
use Rattle.xpath_values.specs.declared.Value.TheVariants as held
use Rattle.xpath_values.specs.Numbers.{IsNumber}
use Rattle.xpath_values.specs.Values.{truth, number, text}
use Rattle.xpath_meaning.specs.Scope.{ScopeOf, IsOf}

pub truth_is_of : (s : ScopeOf) (b : Bool) → IsOf s (held.Truth b)
truth_is_of s b = record { each = λ c h. record { value = truth b; held = record { same = refl; among = tt } }; fits = tt }

pub number_is_of : (s : ScopeOf) (x : Number) → IsNumber x → IsOf s (held.Number x)
number_is_of s x k = record { each = λ c h. record { value = number x; held = record { same = refl; among = tt } }; fits = k }

pub text_is_of : (s : ScopeOf) (t : List ℕ) → IsOf s (held.Text t)
text_is_of s t = record { each = λ c h. record { value = text t; held = record { same = refl; among = tt } }; fits = tt }
