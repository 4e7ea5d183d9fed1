-- Translating a text character by character.
use Rattle.std.proofs.Common.{◌≡◌, ℕ, suc, ◌+◌, add-one, arith, length, Bool, true, false, cond, List, [], ◌∷◌, ◌++◌, Option, Some, None, refl, sym, ◌∙◌, ap}
use Rattle.std.proofs.Common.{append_assoc, append-nil}
use Rattle.std.specs.Prelude.{not, nat_lt, ◌==◌, position, option_map, option_to_list, MatchOption}
use Rattle.std.specs.List.{flat_map, position_or_len}
use lib.Utf8.{encodes}
use Rattle.std.proofs.Math.Numerals.{one-add}
use Rattle.std.proofs.lemmas.Bool.Decides.{nat_tests}
use Rattle.std.proofs.lemmas.Str.{encodes-append}
use Rattle.xpath_values.specs.Texts.{replaced, translate}
use Rattle.xpath_values.specs.Translating.{becomes, noted}

-- what becomes of a character, and of the texts after their first ones
pub one_becomes : (from to after : List ℕ) (d q : ℕ) (o : Option ℕ)
    → MatchOption o ((to ≡ []) × (after ≡ [])) (λ e. to ≡ e ∷ after)
    → becomes (d ∷ from) to q ≡ cond (d == q) (option_to_list o) (becomes from after q)
one_becomes from to after d q None h = rw (h.0, h.1) refl
one_becomes from to after d q (Some e) h = rw h refl

pub more_noted : (from rest to after whole : List ℕ) (d q : ℕ) (o : Option ℕ) (old new : Option (Option ℕ)) → from ≡ d ∷ rest
    → MatchOption o ((to ≡ []) × (after ≡ [])) (λ e. to ≡ e ∷ after)
    → ((other : List ℕ) → noted new other ≡ noted old (cond (d == q) (option_to_list o) other))
    → noted old (becomes from to q) ≡ whole → noted new (becomes rest after q) ≡ whole
more_noted from rest to after whole d q o old new e h n i =
    n (becomes rest after q) ∙ ap (noted old) (sym (one_becomes rest to after d q o h) ∙ ap (λ l. becomes l to q) (sym e)) ∙ i

pub all_noted : (from to whole : List ℕ) (q : ℕ) (o : Option (Option ℕ)) → from ≡ [] → noted o (becomes from to q) ≡ whole → noted o (q ∷ []) ≡ whole
all_noted from to whole q o e i = sym (ap (λ l. noted o (becomes l to q)) e) ∙ i

-- what becomes of a character is what is at its place
later : (c e : ℕ) (to : List ℕ) (o : Option ℕ) → replaced c (e ∷ to) (option_map suc o) ≡ replaced c to o
later c e to None = refl
later c e to (Some k) = refl

nowhere : (c : ℕ) (o : Option ℕ) → replaced c [] (option_map suc o) ≡ replaced c [] o
nowhere c None = refl
nowhere c (Some k) = refl

same_order : (k n : ℕ) → nat_lt (k + 1) (n + 1) ≡ nat_lt k n
same_order k n = grind (arith, nat_tests)

some_room : (n : ℕ) → nat_lt 0 (n + 1) ≡ true
some_room n = grind (arith, nat_tests)

placed : (b : Bool) (k n : ℕ) → cond (nat_lt (cond (not b) (1 + k) 0) (suc n)) (Some (cond (not b) (1 + k) 0)) None
    ≡ cond b (Some 0) (option_map suc (cond (nat_lt k n) (Some k) None))
placed true k n = ap (λ t. cond t (Some 0) None) (ap (nat_lt 0) (sym (add-one n)) ∙ some_room n)
placed false k n =
    ap (λ i. cond (nat_lt i (suc n)) (Some i) None) (one-add k) ∙ ap (λ t. cond t (Some (suc k)) None) (ap (λ i. nat_lt i (suc n)) (sym (add-one k)) ∙ ap (nat_lt (k + 1)) (sym (add-one n)) ∙ same_order k n)
    ∙ this (nat_lt k n)
  where
    this : (t : Bool) → cond t (Some (suc k)) None ≡ option_map suc (cond t (Some k) None)
    this true = refl
    this false = refl

here_or_later : (from : List ℕ) (c d : ℕ) (to first rest : List ℕ) → replaced c to (Some 0) ≡ first
    → rest ≡ replaced c to (option_map suc (position (λ d. d == c) from))
    → cond (d == c) first rest ≡ replaced c to (position (λ d. d == c) (d ∷ from))
here_or_later from c d to first rest e f =
    this (d == c) ∙ ap (replaced c to) (sym (placed (d == c) (position_or_len (λ d. d == c) from) (length from)))
  where
    this : (b : Bool) → cond b first rest ≡ replaced c to (cond b (Some 0) (option_map suc (position (λ d. d == c) from)))
    this true = sym e
    this false = f

pub found_becomes : (from to : List ℕ) (c : ℕ) → becomes from to c ≡ replaced c to (position (λ d. d == c) from)
found_becomes [] to c = refl
found_becomes (d ∷ from) [] c =
    here_or_later from c d [] [] (becomes from [] c) refl (found_becomes from [] c ∙ sym (nowhere c (position (λ d. d == c) from)))
found_becomes (d ∷ from) (e ∷ to) c =
    here_or_later from c d (e ∷ to) (e ∷ []) (becomes from to c) refl
    (found_becomes from to c ∙ sym (later c e to (position (λ d. d == c) from)))

-- a text of which each character becomes the same by both
flat_same : (f g : ℕ → List ℕ) → ((c : ℕ) → f c ≡ g c) → (t : List ℕ) → flat_map f t ≡ flat_map g t
flat_same f g h [] = refl
flat_same f g h (c ∷ t) = ap (λ (l : List ℕ). l ++ flat_map f t) (h c) ∙ ap (λ (l : List ℕ). g c ++ l) (flat_same f g h t)

pub translation : (f : ℕ → List ℕ) (t from to : List ℕ) → ((c : ℕ) → f c ≡ becomes from to c) → flat_map f t ≡ translate t from to
translation f t from to h = flat_same f (λ c. replaced c to (position (λ d. d == c) from)) (λ c. h c ∙ found_becomes from to c) t

-- one more character is written
pub change_written : (f : ℕ → List ℕ) (old now text rest change whole : List ℕ) (c : ℕ) → text ≡ c ∷ rest → change ≡ f c → now ≡ old ++ encodes change
    → old ++ encodes (flat_map f text) ≡ whole → now ++ encodes (flat_map f rest) ≡ whole
change_written f old now text rest change whole c e g h i =
    ap (λ (l : List ℕ). l ++ encodes (flat_map f rest)) (h ∙ ap (λ l. old ++ encodes l) g)
    ∙ append_assoc old (encodes (f c)) (encodes (flat_map f rest))
    ∙ ap (λ (l : List ℕ). old ++ l) (sym (encodes-append (f c) (flat_map f rest)))
    ∙ sym (ap (λ l. old ++ encodes (flat_map f l)) e) ∙ i

pub all_written : (f : ℕ → List ℕ) (held text whole : List ℕ) → text ≡ [] → held ++ encodes (flat_map f text) ≡ whole → held ≡ whole
all_written f held text whole e i = sym (append-nil held) ∙ sym (ap (λ l. held ++ encodes (flat_map f l)) e) ∙ i
