use Rattle.std.proofs.Common.{◌≡◌, sym}
use Rattle.xpath_values.specs.Values.{truth_of}
use Rattle.xpath_meaning.proofs.ArgumentLemmas.{at_argument}
use Rattle.xpath_meaning.proofs.arguments.truth_at.Goals as goal

pub returns-in-Some : goal.returns-in-Some
returns-in-Some c = λ d vs a. at_argument d _ vs _ _ (λ v. c.truth_of.result ≡ truth_of v) a (sym c.in-Some.ensures) (λ v h. c.truth_of.ensures v h.same)
