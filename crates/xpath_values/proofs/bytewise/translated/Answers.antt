use Rattle.std.proofs.Common.{◌≡◌, ℕ, arith, List, refl, subst, sym, ◌∙◌, string_bytes}
use Rattle.std.specs.List.{slice_index}
use Rattle.std.specs.Str.{chars}
use Rattle.std.proofs.lemmas.Str.{chars-IsAscii, chars_from_encodes, IsUtf8-string_bytes}
use Rattle.xpath_values.specs.Translating.{IsBytewise, becomes}
use Rattle.xpath_values.proofs.BytewiseLemmas.{bytes_changed, utf8_changed}
use Rattle.xpath_values.proofs.TranslateLemmas.{translation}
use Rattle.xpath_values.proofs.bytewise.translated.Goals as goal

tabled : (from to f t : List ℕ) (g : ℕ → ℕ) → f ≡ from → t ≡ to → IsBytewise f t g → IsBytewise from to g
tabled from to f t g d e h = subst (λ (l : List ℕ). IsBytewise l to g) d (subst (λ (l : List ℕ). IsBytewise f l g) e h)

pub changed-requires : goal.changed-requires
changed-requires c =
    utf8_changed c.args.from.now c.args.to.now (slice_index c.byte_table-table.result) (tabled c.args.from.now c.args.to.now _ _ _ c.as_bytes.ensures.value
    c.as_bytes-2.ensures.value c.byte_table-table.ensures)
    c.requires.from c.args.text.now c.utf8.text (λ k lt. omega (arith, c.type_inv.text k))

pub returns : goal.returns
returns c =
    let from : List ℕ = c.args.from.now in
    let to : List ℕ = c.args.to.now in
    sym (chars_from_encodes _ (string_bytes c.in_ok-changed.field-0) (IsUtf8-string_bytes c.in_ok-changed.field-0) (sym (c.in_ok-changed.ensures
    ∙ bytes_changed from to (slice_index c.byte_table-table.result) (tabled from to _ _ _ c.as_bytes.ensures.value
    c.as_bytes-2.ensures.value c.byte_table-table.ensures)
    c.requires.from c.args.text.now c.utf8.text (λ k lt. omega (arith, c.type_inv.text k)))))
    ∙ translation (becomes from to) (chars c.args.text.now) (chars from) (chars to) (λ q.
    rw (chars-IsAscii from c.requires.from, chars-IsAscii to c.requires.to) refl)
