use Rattle.std.proofs.Common.{sym, string_bytes}
use Rattle.std.proofs.lemmas.Str.{chars_from_encodes, IsUtf8-string_bytes}
use Rattle.xpath_values.proofs.positions.kept_text.Goals as goal

pub returns : goal.returns
returns c =
    sym (chars_from_encodes _ (string_bytes c.in_ok-kept.field-0) (IsUtf8-string_bytes c.in_ok-kept.field-0) (sym c.in_ok-kept.ensures))
