use Rattle.std.proofs.Common.{◌++◌, ◌∙◌, ap, ap₂}
use Rattle.std.specs.Prelude.{string_bytes}
use Rattle.std.specs.Str.{chars}
use Rattle.std.proofs.lemmas.Str.{chars-append}
use Rattle.xpath_calls.proofs.joining.push_text.Goals as goal

pub returns-clause-joined : goal.returns-clause-joined
returns-clause-joined c =
    ap chars c.in_ok-push_str.ensures.bytes
    ∙ chars-append (string_bytes c.joined.inside.held) c.as_str.result.now (rw c.as_str-before.ensures.value at c.as_str-before.utf8)
    ∙ ap₂ (λ x y. x ++ y) c.joined.view_is c.as_str.ensures
