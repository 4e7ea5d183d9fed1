use Rattle.std.proofs.Common.{sym, ap, ◌∙◌}
use Rattle.std.specs.Str.{chars, encode_utf8_all}
use Rattle.std.proofs.lemmas.Str.{encodes-chars}
use Rattle.vtd_script.proofs.preparing.utf8_of.Goals as goal

pub returns : goal.returns
returns c = sym (encodes-chars c.as_str.result.now c.as_str.utf8) ∙ ap (λ bs. encode_utf8_all (chars bs)) c.as_str.ensures.value ∙ ap encode_utf8_all c.field.view_is
