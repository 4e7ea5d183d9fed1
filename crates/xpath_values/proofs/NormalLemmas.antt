-- Normalizing a text character by character.
use Rattle.std.proofs.Common.{◌≡◌, ℕ, Bool, true, false, cond, List, [], ◌∷◌, ◌++◌, refl, sym, ◌∙◌, ap, arith, append_assoc, append-nil}
use Rattle.std.specs.Prelude.{filter}
use lib.Utf8.{encode, encodes}
use Rattle.std.proofs.lemmas.Str.{encodes-append, encode_ascii}
use Rattle.xml_model.specs.Chars.{is_space}
use Rattle.xpath_values.specs.Texts.{parts, joined, spaced, put, is_some_text}
use Rattle.xpath_values.specs.Normal.{in_word, left, due}

-- the parts after a character, by whether it is white space
abbrev next_parts : Bool → ℕ → List ℕ → List (List ℕ)
next_parts b c t = cond b ([] ∷ parts t) (put c (parts t))

put_joined : (c : ℕ) (ps : List (List ℕ)) → joined (filter is_some_text (put c ps)) ≡ c ∷ in_word ps
put_joined c [] = refl
put_joined c (w ∷ ws) = refl

put_spaced : (c : ℕ) (ps : List (List ℕ)) → spaced (filter is_some_text (put c ps)) ≡ 32 ∷ c ∷ in_word ps
put_spaced c [] = refl
put_spaced c (w ∷ ws) = refl

put_in : (c : ℕ) (ps : List (List ℕ)) → in_word (put c ps) ≡ c ∷ in_word ps
put_in c [] = refl
put_in c (w ∷ ws) = refl

pub space_left : (some gap : Bool) (c : ℕ) (t : List ℕ) → is_space c ≡ true → left some true t ≡ left some gap (c ∷ t)
space_left false gap c t e = sym (ap (λ b. joined (filter is_some_text (next_parts b c t))) e)
space_left true true c t e = sym (ap (λ b. spaced (filter is_some_text (next_parts b c t))) e)
space_left true false c t e = sym (ap (λ b. in_word (next_parts b c t)) e)

pub char_left : (some gap : Bool) (c : ℕ) (t : List ℕ) → is_space c ≡ false → left some gap (c ∷ t) ≡ due some gap ++ c ∷ left true false t
char_left false gap c t e = ap (λ b. joined (filter is_some_text (next_parts b c t))) e ∙ put_joined c (parts t)
char_left true true c t e = ap (λ b. spaced (filter is_some_text (next_parts b c t))) e ∙ put_spaced c (parts t)
char_left true false c t e = ap (λ b. in_word (next_parts b c t)) e ∙ put_in c (parts t)

pub due_bytes : (some gap : Bool) → encodes (due some gap) ≡ due some gap
due_bytes false gap = refl
due_bytes true false = refl
due_bytes true true = ap (λ (l : List ℕ). l ++ []) (encode_ascii 32 (omega arith))

-- white space adds nothing
pub space_taken : (held : List ℕ) (some gap : Bool) (c : ℕ) → is_space c ≡ true → (t : List ℕ)
    → held ++ encodes (left some true t) ≡ held ++ encodes (left some gap (c ∷ t))
space_taken held some gap c e t = ap (λ l. held ++ encodes l) (space_left some gap c t e)

-- another character adds what is due and itself
pub char_taken : (old mid now d : List ℕ) (some gap : Bool) (c : ℕ) → is_space c ≡ false → d ≡ due some gap → mid ≡ old ++ d → now ≡ mid ++ encode c
    → (t : List ℕ) → now ++ encodes (left true false t) ≡ old ++ encodes (left some gap (c ∷ t))
char_taken old mid now d some gap c e f g h t =
    let w : List ℕ = left true false t in
    let n : now ≡ (old ++ due some gap) ++ encode c = h ∙ ap (λ (l : List ℕ). l ++ encode c) (g ∙ ap (λ (l : List ℕ). old ++ l) f) in
    let r : encodes (left some gap (c ∷ t)) ≡ due some gap ++ (encode c ++ encodes w) =
    ap encodes (char_left some gap c t e) ∙ encodes-append (due some gap) (c ∷ w)
    ∙ ap (λ (l : List ℕ). l ++ (encode c ++ encodes w)) (due_bytes some gap) in
    ap (λ (l : List ℕ). l ++ encodes w) n ∙ append_assoc (old ++ due some gap) (encode c) (encodes w)
    ∙ append_assoc old (due some gap) (encode c ++ encodes w) ∙ sym (ap (λ (l : List ℕ). old ++ l) r)

-- at the end nothing is left
pub nothing_left : (some gap : Bool) → left some gap [] ≡ []
nothing_left false gap = refl
nothing_left true false = refl
nothing_left true true = refl

pub at_end : (held whole text : List ℕ) (some gap : Bool) → text ≡ [] → held ++ encodes (left some gap text) ≡ whole → held ≡ whole
at_end held whole text some gap n e =
    sym (append-nil held) ∙ sym (ap (λ l. held ++ encodes l) (ap (left some gap) n ∙ nothing_left some gap)) ∙ e
