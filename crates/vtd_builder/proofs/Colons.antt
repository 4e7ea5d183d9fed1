-- The bytes of a name say its prefix, and whether it declares a namespace.
use Rattle.std.proofs.Common.{◌≡◌, ℕ, suc, ◌<◌, ◌≤◌, Bool, true, false, inl, inr, cond, List, [], ◌∷◌, ◌++◌, length, take, drop, Some, None, refl, sym, ap, ap₂, ◌∙◌, arith}
use Rattle.std.specs.Prelude.{codes, ◌==◌, ◌||◌, not, bytes_eq, unwrap_or, nat_lt}
use Rattle.std.specs.List.{prefix_len, position}
use lib.Utf8.{encode, encodes}
use Rattle.std.proofs.Math.Numerals.{one-add}
use Rattle.std.proofs.lemmas.Bool.{cases_Bool, not-false, eqb-true, lt-ltb}
use Rattle.std.proofs.lemmas.Bool.Decides.{same_from_decides}
use Rattle.std.proofs.lemmas.Slice.Eq.{bytes_eq-Decides}
use Rattle.std.proofs.lemmas.Str.{encodes_same}
use Rattle.std.proofs.lemmas.List.{length-append, length-drop}
use Rattle.std.proofs.lemmas.List.Sums.{prefix_len-le-length}
use Rattle.xml_model.specs.Chars.{has_colon, before_colon, prefix_of, size}
use Rattle.xml_model.specs.Records.{declares}
use Rattle.xml_chars.proofs.Points.{stop_run, encode_pos}
use Rattle.xml_chars.proofs.TextLemmas.{word_run}

abbrev pub no_colon : ℕ → Bool
no_colon c = not (c == 58)

length_before : (cs : List ℕ) → length (before_colon cs) ≡ prefix_len no_colon cs
length_before [] = refl
length_before (c ∷ cs) = elim (cases_Bool (c == 58)) [
  | inl t ↦ rw t refl
  | inr f ↦ rw f (omega (arith, length_before cs))
]

-- there is a colon where the part before it is not all
colon_within : (cs : List ℕ) → has_colon cs ≡ nat_lt (prefix_len no_colon cs) (length cs)
colon_within [] = refl
colon_within (c ∷ cs) = elim (cases_Bool (c == 58)) [
  | inl t ↦ rw t (grind arith)
  | inr f ↦ rw (f, colon_within cs) (grind arith)
]

pub prefix_by_position : (cs : List ℕ) → length (prefix_of cs) ≡ unwrap_or (position (λ c. c == 58) cs) 0
unfolding prefix_of
prefix_by_position cs = rw (colon_within cs) (go (nat_lt (prefix_len no_colon cs) (length cs)))
  where
    go : (b : Bool) → length (cond b (before_colon cs) []) ≡ unwrap_or (cond b (Some (prefix_len no_colon cs)) None) 0
    go true = length_before cs
    go false = refl

-- a name is declared to be a namespace's by its bytes
xmlns_ascii : encodes (codes "xmlns") ≡ codes "xmlns"
unfolding encode
xmlns_ascii = refl

is_xmlns : (cs : List ℕ) → bytes_eq (encodes cs) (codes "xmlns") ≡ bytes_eq cs (codes "xmlns")
is_xmlns cs =
    let d = bytes_eq-Decides (encodes cs) (codes "xmlns") in
    let b = bytes_eq-Decides cs (codes "xmlns") in
    same_from_decides _ _ (λ t. encodes_same cs (codes "xmlns") (d.0 t ∙ sym xmlns_ascii), λ e. d.1 (ap encodes e ∙ xmlns_ascii)) b

pub declares_bytes : (cs : List ℕ) → declares (encodes cs) ≡ declares cs
unfolding declares
declares_bytes cs = ap₂ (λ (x y : Bool). x || y) (is_xmlns cs) (word_run (codes "xmlns:") cs refl).same
