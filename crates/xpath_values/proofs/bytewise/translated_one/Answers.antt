use Rattle.std.proofs.Common.{◌≡◌, ℕ, arith, List, refl, subst, sym, ◌∙◌, string_bytes, map}
use Rattle.std.specs.List.{slice_index}
use Rattle.std.specs.Str.{IsUtf8, chars}
use Rattle.std.proofs.lemmas.Str.{chars-IsAscii, chars_from_encodes, IsUtf8-string_bytes}
use Rattle.xpath_values.specs.Translating.{IsBytewise, becomes, swap}
use Rattle.xpath_values.proofs.BytewiseLemmas.{bytes_changed, one_bytewise, utf8_changed}
use Rattle.xpath_values.proofs.TranslateLemmas.{translation}
use Rattle.xpath_values.proofs.bytewise.translated_one.Goals as goal

taken : (from to f t : List ℕ) → f ≡ from → t ≡ to → IsBytewise from to (swap (slice_index from 0) (slice_index to 0))
    → IsBytewise from to (swap (slice_index f 0) (slice_index t 0))
taken from to f t d e h = rw (d, e) h

pub with_swap-requires : goal.with_swap-requires
with_swap-requires c =
    let from : List ℕ = c.args.from.now in
    let to : List ℕ = c.args.to.now in
    utf8_changed from to (swap (slice_index c.as_bytes.result.now 0) (slice_index c.as_bytes-2.result.now 0)) (taken from to _ _ c.as_bytes.ensures.value
    c.as_bytes-2.ensures.value (one_bytewise from to c.requires.one c.requires.room c.requires.from c.requires.to))
    c.requires.from c.args.text.now c.utf8.text (λ k lt. omega (arith, c.type_inv.text k))

pub returns : goal.returns
returns c =
    let from : List ℕ = c.args.from.now in
    let to : List ℕ = c.args.to.now in
    sym (chars_from_encodes _ (string_bytes c.in_ok-with_swap.field-0) (IsUtf8-string_bytes c.in_ok-with_swap.field-0) (sym (c.in_ok-with_swap.ensures
    ∙ bytes_changed from to (swap (slice_index c.as_bytes.result.now 0) (slice_index c.as_bytes-2.result.now 0)) (taken from to _ _ c.as_bytes.ensures.value
    c.as_bytes-2.ensures.value (one_bytewise from to c.requires.one c.requires.room c.requires.from c.requires.to))
    c.requires.from c.args.text.now c.utf8.text (λ k lt. omega (arith, c.type_inv.text k)))))
    ∙ translation (becomes from to) (chars c.args.text.now) (chars from) (chars to) (λ q.
    rw (chars-IsAscii from c.requires.from, chars-IsAscii to c.requires.to) refl)
