-- Keeping characters at positions.
use Rattle.std.proofs.Common.{◌≡◌, ℕ, suc, ◌+◌, Bool, true, false, cond, List, [], ◌∷◌, ◌++◌, sym, ◌∙◌, ap, arith, append_assoc, append-nil}
use lib.Utf8.{encode, encodes}
use Rattle.xpath_values.specs.Texts.{at_positions}

pub kept_char : (old now : List ℕ) (c : ℕ) (kept : Bool) → kept ≡ true → now ≡ old ++ encode c → (t : List ℕ)
    → now ++ encodes t ≡ old ++ encodes (cond kept (c ∷ t) t)
kept_char old now c kept k e t =
    ap (λ (l : List ℕ). l ++ encodes t) e ∙ append_assoc old (encode c) (encodes t)
    ∙ sym (ap (λ b. old ++ encodes (cond b (c ∷ t) t)) k)

pub left_char : (old : List ℕ) (c : ℕ) (kept : Bool) → kept ≡ false → (t : List ℕ) → old ++ encodes t ≡ old ++ encodes (cond kept (c ∷ t) t)
left_char old c kept k t = sym (ap (λ b. old ++ encodes (cond b (c ∷ t) t)) k)

pub position_taken : (test : ℕ → Bool) (p c : ℕ) (b : Bool) (after : List ℕ) → b ≡ test p
    → cond b (c ∷ at_positions test (p + 1) after) (at_positions test (p + 1) after) ≡ at_positions test p (c ∷ after)
position_taken test p c b after e =
    let q : p + 1 ≡ suc p = omega arith in
    ap (λ v. cond v (c ∷ at_positions test (p + 1) after) (at_positions test (p + 1) after)) e
    ∙ ap (λ r. cond (test p) (c ∷ at_positions test r after) (at_positions test r after)) q

pub positions_end : (held whole text : List ℕ) (test : ℕ → Bool) (p : ℕ) → text ≡ [] → held ++ encodes (at_positions test p text) ≡ whole → held ≡ whole
positions_end held whole text test p n e = sym (append-nil held) ∙ sym (ap (λ l. held ++ encodes (at_positions test p l)) n) ∙ e
