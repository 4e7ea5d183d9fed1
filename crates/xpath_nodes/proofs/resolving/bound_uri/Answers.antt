use Rattle.std.proofs.Common.{◌∙◌, ap, []}
use Rattle.std.proofs.lemmas.Str.{chars-nil}
use Rattle.std.specs.Prelude.{unwrap_or}
use Rattle.xpath_nodes.proofs.resolving.bound_uri.Goals as goal

pub returns-in-Some : goal.returns-in-Some
returns-in-Some c = ap (λ o. unwrap_or o []) c.in-Some.ensures.uri

pub returns-in-None : goal.returns-in-None
returns-in-None c = chars-nil ∙ ap (λ o. unwrap_or o []) c.in-None.ensures.uri
