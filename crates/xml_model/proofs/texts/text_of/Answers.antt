use Rattle.std.proofs.Common.{sym, string_bytes}
use Rattle.std.proofs.lemmas.Str.{chars_from_encodes, IsUtf8-string_bytes}
use Rattle.xml_model.proofs.texts.text_of.Goals as goal

pub returns : goal.returns
returns c =
    sym (chars_from_encodes c.args.chars.now (string_bytes c.in_ok-string_of.field-0) (IsUtf8-string_bytes c.in_ok-string_of.field-0) (sym c.in_ok-string_of.ensures))
