use Rattle.std.proofs.Common.{ℕ, List, [], ◌∷◌, sym, string_bytes, ◌∙◌}
use Rattle.std.specs.BTreeMap.{get}
use Rattle.std.specs.Ordering.{nat_cmp}
use Rattle.std.specs.Str.{chars}
use Rattle.std.proofs.lemmas.Str.{chars_from_encodes, IsUtf8-string_bytes}
use Rattle.xpath_values.specs.Translating.{noted}
use Rattle.xpath_values.proofs.TranslateLemmas.{translation}
use Rattle.xpath_values.proofs.translating.translated_text.Goals as goal

pub returns : goal.returns
returns c =
    let f : ℕ → List ℕ = λ q. noted (get nat_cmp c.in_ok-changes.changes q) (q ∷ []) in
    sym (chars_from_encodes _ (string_bytes c.in_ok-translated.field-0) (IsUtf8-string_bytes c.in_ok-translated.field-0) (sym c.in_ok-translated.ensures))
    ∙ translation f (chars c.args.text.now) (chars c.args.from.now) (chars c.args.to.now) (λ q. c.in_ok-changes.ensures q)
