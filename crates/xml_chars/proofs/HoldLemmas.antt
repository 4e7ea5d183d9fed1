-- What is at a place, as the start of the characters from there on.
use Rattle.std.proofs.Common.{◌≡◌, ℕ, ◌+◌, ◌-◌, ◌<◌, ◌≤◌, Bool, true, List, [], ◌∷◌, ◌++◌, length, take, drop, refl, sym, ap, subst, ◌∙◌, arith, append_assoc}
use Rattle.std.specs.Str.{IsUtf8, chars, IsCharBoundary}
use Rattle.std.specs.List.{prefix_len, list_all}
use lib.Utf8.{encode, encodes}
use Rattle.std.proofs.Math.Numerals.{one-add}
use Rattle.std.proofs.lemmas.List.{length-append, length-drop, drop-drop}
use Rattle.std.proofs.lemmas.Bool.{and_parts}
use Rattle.std.proofs.lemmas.Str.{chars-nil, encodes-append, encodes-chars, cons_from_encodes, IsCharBoundary-from_rest}
use Rattle.xml_model.specs.Chars.{begins, size}
use Rattle.xml_chars.proofs.Readers.{begins_split, begins_append}
use Rattle.xml_chars.proofs.Points.{Cut, cut_of}

pub encodes_prefix : (w cs rest : List ℕ) → encodes cs ≡ encodes w ++ rest → (v : List ℕ) × (cs ≡ w ++ v) × (encodes v ≡ rest)
encodes_prefix [] cs rest e = (cs, refl, e)
encodes_prefix (c ∷ w) cs rest e =
    let f = cons_from_encodes cs (encodes w ++ rest) c (e ∙ append_assoc (encode c) (encodes w) rest) in
    let so = encodes_prefix w f.0 rest f.2 in
    (so.0, f.1 ∙ ap (λ (l : List ℕ). c ∷ l) so.1, so.2)

pub prefix_holds : (bs w : List ℕ) → IsUtf8 bs → begins (encodes w) bs ≡ true → (v : List ℕ) × (chars bs ≡ w ++ v) × (encodes v ≡ drop (size w) bs)
unfolding size
prefix_holds bs w u h = encodes_prefix w (chars bs) (drop (length (encodes w)) bs) (encodes-chars bs u ∙ begins_split (encodes w) bs h)

pub holds_prefix : (bs w v : List ℕ) → IsUtf8 bs → chars bs ≡ w ++ v → begins (encodes w) bs ≡ true
holds_prefix bs w v u e =
    let whole : bs ≡ encodes w ++ encodes v = sym (encodes-chars bs u) ∙ ap encodes e ∙ encodes-append w v in
    ap (begins (encodes w)) whole ∙ begins_append (encodes w) (encodes v)

pub size_nil : size [] ≡ 0
unfolding size
size_nil = refl

pub size_drop : (w text : List ℕ) → drop (length (encodes w)) text ≡ drop (size w) text
unfolding size
size_drop w text = refl

pub size-append : (v w : List ℕ) → size (v ++ w) ≡ size v + size w
unfolding size
size-append v w = ap (λ (l : List ℕ). length l) (encodes-append v w) ∙ length-append (encodes v) (encodes w)

-- a prefix that passes is no longer than the run
run_cons : (p : ℕ → Bool) (c : ℕ) (text l : List ℕ) → p c ≡ true → take (prefix_len p text) text ≡ l → take (prefix_len p (c ∷ text)) (c ∷ text) ≡ c ∷ l
run_cons p c text l t e = rw (t, one-add) (ap (λ (l : List ℕ). c ∷ l) e)

pub prefix_of_run : (p : ℕ → Bool) (w v : List ℕ) → list_all p w ≡ true → (more : List ℕ) × (take (prefix_len p (w ++ v)) (w ++ v) ≡ w ++ more)
prefix_of_run p [] v h = (take (prefix_len p v) v, refl)
prefix_of_run p (c ∷ w) v h =
    let q = and_parts (p c) (list_all p w) h in
    let so = prefix_of_run p w v q.1 in
    (so.0, run_cons p c (w ++ v) (w ++ so.0) q.0 so.1)

-- what is left after a prefix was read at a place
pub record To (bytes rest : List ℕ) (at : ℕ) (w : List ℕ) : Type 0 where
  pub end : length bytes - length rest ≡ at + size w
  pub shorter : length rest ≤ length bytes
  pub holds : begins (encodes w) (drop at bytes) ≡ true
  pub boundary : IsCharBoundary bytes (length bytes - length rest)
  pub after : drop (length bytes - length rest) bytes ≡ rest

pub read_to : (bytes text rest : List ℕ) (at : ℕ) (w : List ℕ) → at ≤ length bytes → text ≡ drop at bytes → IsUtf8 text → IsUtf8 rest → chars text ≡ w ++ chars rest → To bytes rest at w
unfolding size
read_to bytes text rest at w within is u v e =
    let k : Cut text rest w = cut_of text rest w u v e in
    let len : length text ≡ length bytes - at = ap (λ (l : List ℕ). length l) is ∙ length-drop at bytes in
    let end : length bytes - length rest ≡ at + length (encodes w) = omega (arith, k.len, k.shorter) in
    let step : length text - length rest ≡ length (encodes w) = k.len in
    let mid : length bytes - length rest ≡ at + (length text - length rest) = omega (arith, k.len) in
    record {
      end = end;
      shorter = omega (arith, k.shorter);
      holds = ap (begins (encodes w)) (sym is ∙ k.whole) ∙ begins_append (encodes w) rest;
      boundary = subst (λ (n : ℕ). IsCharBoundary bytes n) (sym mid) (IsCharBoundary-from_rest bytes at (length text - length rest) within (subst (λ (l : List ℕ). IsCharBoundary l (length text - length rest)) is k.boundary));
      after = ap (λ (n : ℕ). drop n bytes) mid ∙ sym (drop-drop (length text - length rest) at bytes) ∙ ap (λ (l : List ℕ). drop (length text - length rest) l) (sym is) ∙ k.back;
    }

pub no_chars : (bs : List ℕ) → IsUtf8 bs → chars bs ≡ [] → length bs ≡ 0
no_chars bs u e = ap (λ (l : List ℕ). length l) (sym (encodes-chars bs u) ∙ ap encodes e)

pub some_chars : (bs : List ℕ) (c : ℕ) (cs : List ℕ) → chars bs ≡ c ∷ cs → 0 < length bs
some_chars [] c cs e = absurd (let n : [] ≡ c ∷ cs = sym chars-nil ∙ e in cc)
some_chars (b ∷ bs) c cs e = omega arith
