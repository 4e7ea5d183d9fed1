use Rattle.std.proofs.Common.{◌∙◌, ap}
use Rattle.std.specs.Str.{bytes_eq, chars}
use Rattle.xml_model.proofs.SameText.{same_text}
use Rattle.xml_model.proofs.texts.is_text.Goals as goal

pub returns : goal.returns
returns c =
    c.eq.ensures
    ∙ same_text c.as_str.result.now c.args.other.now c.as_str.utf8 c.utf8.other
    ∙ ap (λ z. bytes_eq (chars z) (chars c.args.other.now)) c.as_str.ensures.value
    ∙ ap (λ z. bytes_eq z (chars c.args.other.now)) c.text.view_is
