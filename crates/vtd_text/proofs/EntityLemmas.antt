-- The name of an entity by its bytes and by its characters.
use Rattle.std.proofs.Common.{◌≡◌, ℕ, true, false, inl, inr, List, None, refl, sym, ap, ◌∙◌}
use Rattle.std.specs.Prelude.{codes}
use Rattle.std.specs.Str.{IsUtf8, chars, bytes_eq}
use lib.Utf8.{scalars, encodes}
use Rattle.std.proofs.lemmas.Bool.{cases_Bool, false≢true, false_from_ne_true}
use Rattle.std.proofs.lemmas.Slice.Eq.{bytes_eq-Decides}
use Rattle.std.proofs.lemmas.Str.{encodes-chars, chars-encodes}
use Rattle.xml_model.specs.Content.{entity_char}

same_test : (bs w : List ℕ) → IsUtf8 bs → encodes w ≡ w → scalars w ≡ true → bytes_eq (chars bs) w ≡ bytes_eq bs w
same_test bs w u e s = elim (cases_Bool (bytes_eq bs w)) [
  | inl t ↦
      let is : bs ≡ w = (bytes_eq-Decides bs w).0 t in
      let there : chars w ≡ w = ap chars (sym e) ∙ chars-encodes w s in
      (bytes_eq-Decides (chars bs) w).1 (ap chars is ∙ there) ∙ sym t
  | inr n ↦
      false_from_ne_true _ (λ t.
      let is : bs ≡ w = sym (encodes-chars bs u) ∙ ap encodes ((bytes_eq-Decides (chars bs) w).0 t) ∙ e in
      false≢true (sym n ∙ (bytes_eq-Decides bs w).1 is)) ∙ sym n
]

pub entity_by_bytes : (bs : List ℕ) → IsUtf8 bs → entity_char (chars bs) ≡ entity_char bs
unfolding lib.Utf8.encode
entity_by_bytes bs u =
    rw (same_test bs (codes "lt") u refl refl, same_test bs (codes "gt") u refl refl, same_test bs (codes "amp") u refl refl, same_test bs (codes "apos") u refl refl, same_test bs (codes "quot") u refl refl) refl

pub other_name : (bs : List ℕ) → (bs ≡ codes "lt" → ⊥) → (bs ≡ codes "gt" → ⊥) → (bs ≡ codes "amp" → ⊥) → (bs ≡ codes "apos" → ⊥) → (bs ≡ codes "quot" → ⊥) → entity_char bs ≡ None
other_name bs lt gt amp apos quot =
    rw (not_codes bs (codes "lt") lt, not_codes bs (codes "gt") gt, not_codes bs (codes "amp") amp, not_codes bs (codes "apos") apos, not_codes bs (codes "quot") quot) refl
  where
    not_codes : (bs w : List ℕ) → (bs ≡ w → ⊥) → bytes_eq bs w ≡ false
    not_codes bs w other = false_from_ne_true _ (λ t. other ((bytes_eq-Decides bs w).0 t))
