use Rattle.std.proofs.Common.{ap, length}
use Rattle.std.proofs.lemmas.Str.{IsUtf8-string_bytes}
use Rattle.vtd_text.proofs.AppendLemmas.{cut_kept, chars_appended}
use Rattle.vtd_text.proofs.append.append_to.Goals as goal

pub truncate-requires : goal.truncate-requires
truncate-requires g c = λ low.
    let k = cut_kept _ _ _ (ap length c.as_str-before.ensures.value) (IsUtf8-string_bytes c.text.inside.held) (IsUtf8-string_bytes c.append.new.held) c.append.ensures.kept in
    (k.0, λ some. k.1)

pub returns-in-Ok-clause-all : goal.returns-in-Ok-clause-all
returns-in-Ok-clause-all g c = rw (← c.text.view_is) (chars_appended _ _ c.args.chars (IsUtf8-string_bytes c.text.inside.held) (IsUtf8-string_bytes c.append.new.held) c.in-Ok.ensures.all)
