-- The records of one text or CDATA section are told from those of two by their places.
use Rattle.std.proofs.Common.{◌≡◌, ℕ, zero, suc, ◌+◌, ◌-◌, ◌*◌, ◌<◌, ◌≤◌, Bool, true, false, inl, inr, cond, ◌&&◌, ◌==◌, List, [], ◌∷◌, ◌++◌, refl, ap, ap₂, sym, ◌∙◌, arith, append-nil, eq-eqb, eqb-true, ne_eqb}
use Rattle.std.specs.List.{AllByRecursion as Each}
use Rattle.std.proofs.lemmas.Bool.{and_parts, and_right, false≢true, cases_Bool}
use Rattle.xml_model.specs.Records.{Record, cut, cuts, full_cuts, cut_records}
use Rattle.xml_model.specs.Scan.{is_text_token}
use Rattle.xml_model.specs.Wholes.{goes_on, joined_with, wholes_from, wholes}
use Rattle.xml_model.proofs.Cuts.{Cut, full_cut}

-- ---- of one token

one_more : (token depth n at m : ℕ) → is_text_token token ≡ true → goes_on (cut token depth n at) (cut token depth m (at + n)) ≡ true
one_more token depth n at m t =
    ap₂ (λ a b. a && (b && (depth == depth && at + n == at + n))) t (eq-eqb token token refl) ∙ ap₂ (λ a b. a && b) (eq-eqb depth depth refl) (eq-eqb (at + n) (at + n) refl)

-- after n bytes of a token the m bytes that follow them
from_cuts : (k token depth n at m : ℕ) → Cut k m → is_text_token token ≡ true → wholes_from (cut token depth n at) (cuts k token depth (at + n) m) ≡ cut token depth (n + m) at ∷ []
from_cuts zero token depth n at m c t = ap (λ b. cond b (cut token depth (n + m) at ∷ []) (cut token depth n at ∷ cut token depth m (at + n) ∷ [])) (one_more token depth n at m t)
from_cuts (suc k) token depth n at m c t =
    let rest = cuts k token depth (at + n + 1_048_575) (m - 1_048_575) in
    let less : Cut k (m - 1_048_575) = record { least = omega (arith, c.least); most = omega (arith, c.most); some = λ h. omega (arith, c.some (omega arith)) } in
    let place : at + n + 1_048_575 ≡ at + (n + 1_048_575) = omega arith in
    let sum : n + 1_048_575 + (m - 1_048_575) ≡ n + m = omega (arith, c.least) in
    ap (λ b. cond b (wholes_from (cut token depth (n + 1_048_575) at) rest) (cut token depth n at ∷ wholes_from (cut token depth 1_048_575 (at + n)) rest)) (one_more token depth n at 1_048_575 t)
    ∙ ap (λ p. wholes_from (cut token depth (n + 1_048_575) at) (cuts k token depth p (m - 1_048_575))) place
    ∙ from_cuts k token depth (n + 1_048_575) at (m - 1_048_575) less t ∙ ap (λ s. cut token depth s at ∷ []) sum

of_cuts : (k token depth at n : ℕ) → Cut k n → is_text_token token ≡ true → wholes (cuts k token depth at n) ≡ cut token depth n at ∷ []
of_cuts zero token depth at n c t = refl
of_cuts (suc k) token depth at n c t =
    let less : Cut k (n - 1_048_575) = record { least = omega (arith, c.least); most = omega (arith, c.most); some = λ h. omega (arith, c.some (omega arith)) } in
    let sum : 1_048_575 + (n - 1_048_575) ≡ n = omega (arith, c.least) in
    from_cuts k token depth 1_048_575 at (n - 1_048_575) less t ∙ ap (λ s. cut token depth s at ∷ []) sum

-- the records of a token are one whole
pub wholes_cuts : (token depth at n : ℕ) → is_text_token token ≡ true → wholes (cut_records token depth at n) ≡ cut token depth n at ∷ []
unfolding cut_records
wholes_cuts token depth at n t = of_cuts (full_cuts n) token depth at n (full_cut n) t

-- ---- of two

-- each text and CDATA section ends at a place or before it
abbrev pub EndsBy : ℕ → Record → Type 0
EndsBy p r = is_text_token r.token ≡ true → r.offset + r.len ≤ p

-- each begins after a place
abbrev pub BeginsPast : ℕ → Record → Type 0
BeginsPast p r = is_text_token r.token ≡ true → p < r.offset

-- what goes on is of a text, and touches
pub record GoesOn (r s : Record) : Type 0 where
  pub text : is_text_token r.token ≡ true
  pub token : r.token ≡ s.token
  pub depth : r.depth ≡ s.depth
  pub place : r.offset + r.len ≡ s.offset

pub goes_parts : (r s : Record) → goes_on r s ≡ true → GoesOn r s
goes_parts r s h =
    let a = and_parts (is_text_token r.token) _ h in
    let b = and_parts (r.token == s.token) _ a.1 in
    let c = and_parts (r.depth == s.depth) _ b.1 in
    record { text = a.0; token = eqb-true r.token s.token b.0; depth = eqb-true r.depth s.depth c.0; place = eqb-true (r.offset + r.len) s.offset c.1 }

pub no_seam : (p : ℕ) (r s : Record) → EndsBy p r → BeginsPast p s → goes_on r s ≡ false
no_seam p r s e b = elim (cases_Bool (goes_on r s)) [
  | inl h ↦ let g = goes_parts r s h in absurd (omega (arith, e g.text, b (ap is_text_token (sym g.token) ∙ g.text), g.place))
  | inr h ↦ h
]

from_seam : (p : ℕ) (r : Record) (xs ys : List Record) → EndsBy p r → Each (EndsBy p) xs → Each (BeginsPast p) ys → wholes_from r (xs ++ ys) ≡ wholes_from r xs ++ wholes ys
from_seam p r [] [] e h k = refl
from_seam p r [] (s ∷ ys) e h k = ap (λ b. cond b (wholes_from (joined_with r s) ys) (r ∷ wholes_from s ys)) (no_seam p r s e k.0)
from_seam p r (s ∷ xs) ys e h k =
    let whole : Bool → List Record = λ b. cond b (wholes_from (joined_with r s) (xs ++ ys)) (r ∷ wholes_from s (xs ++ ys)) in
    let parts : Bool → List Record = λ b. cond b (wholes_from (joined_with r s) xs) (r ∷ wholes_from s xs) ++ wholes ys in
    elim (cases_Bool (goes_on r s)) [
      | inl g ↦
          ap whole g ∙ from_seam p (joined_with r s) xs ys (λ t. let q = goes_parts r s g in omega (arith, q.place, h.0 (ap is_text_token (sym q.token) ∙ q.text))) h.1 k
          ∙ sym (ap parts g)
      | inr g ↦ ap whole g ∙ ap (λ zs. r ∷ zs) (from_seam p s xs ys h.0 h.1 k) ∙ sym (ap parts g)
    ]

-- what ends at a place or before it, and what begins after it, are never of one token
pub seam : (p : ℕ) (xs ys : List Record) → Each (EndsBy p) xs → Each (BeginsPast p) ys → wholes (xs ++ ys) ≡ wholes xs ++ wholes ys
seam p [] ys h k = refl
seam p (r ∷ xs) ys h k = from_seam p r xs ys h.0 h.1 k

-- what is of no text joins nothing
abbrev pub NoText : Record → Type 0
NoText r = is_text_token r.token ≡ false

no_text_goes : (r s : Record) → NoText r → goes_on r s ≡ false
no_text_goes r s h = ap (λ b. b && (r.token == s.token && (r.depth == s.depth && r.offset + r.len == s.offset))) h

pub silent_wholes : (xs ys : List Record) → Each NoText xs → wholes (xs ++ ys) ≡ xs ++ wholes ys
silent_wholes [] ys h = refl
silent_wholes (r ∷ []) [] h = refl
silent_wholes (r ∷ []) (s ∷ ys) h = ap (λ b. cond b (wholes_from (joined_with r s) ys) (r ∷ wholes_from s ys)) (no_text_goes r s h.0)
silent_wholes (r ∷ s ∷ xs) ys h =
    ap (λ b. cond b (wholes_from (joined_with r s) (xs ++ ys)) (r ∷ wholes_from s (xs ++ ys))) (no_text_goes r s h.0) ∙ ap (λ zs. r ∷ zs) (silent_wholes (s ∷ xs) ys h.1)

pub none_wholes : (rs : List Record) → Each NoText rs → wholes rs ≡ rs
none_wholes rs h = ap wholes (sym (append-nil rs)) ∙ silent_wholes rs [] h ∙ append-nil rs
