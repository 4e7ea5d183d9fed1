-- Comparing texts prefix by prefix.
use Rattle.std.proofs.Common.{append-nil, ◌⊎◌, inl, inr, append_assoc, ◌<◌, length-append, ◌≡◌, ℕ, true, false, List, [], ◌∷◌, ◌++◌, length, drop, refl, sym, ap, ◌∙◌, arith}
use Rattle.std.specs.Prelude.{nat_eq, Option, Some, None, MatchOption, is_some, not, Bool}
use denote.Bor.{Bor}
use Rattle.std.specs.List.{starts_with}
use Rattle.std.specs.Str.{IsUtf8, IsCharBoundary, chars, bytes_eq}
use lib.Utf8.{scalars, encodes}
use Rattle.std.proofs.lemmas.Bool.{false≢true, false_from_ne_true, eq-eqb, ne_eqb}
use Rattle.std.proofs.lemmas.Slice.Eq.{bytes_eq-Decides}
use Rattle.std.proofs.lemmas.Str.{chars-nil, encodes-chars, scalars-chars, chars_from_encodes, IsCharBoundary-at_seam}
use Rattle.xml_model.specs.Chars.{begins}
use Rattle.xml_chars.proofs.Readers.{begins_split}
use Rattle.xml_chars.proofs.HoldLemmas.{encodes_prefix, holds_prefix}
use Rattle.xml_chars.proofs.Points.{first_of}
use Rattle.xml_chars.proofs.TextLemmas.{pointwise-begins}
use Rattle.vtd_text.proofs.Holding.{scalars_back}
use Rattle.vtd_text.proofs.PieceLemmas.{head_same, tail_same}
use Rattle.vtd_text.specs.Apart.{AreAfter, AreApart}

pub same_prefix : (a x y : List ℕ) → bytes_eq (a ++ x) (a ++ y) ≡ bytes_eq x y
same_prefix [] x y = refl
same_prefix (c ∷ a) x y = rw (eq-eqb c c refl) (same_prefix a x y)

pub other_prefix : (prefix x y : List ℕ) → ((rest : List ℕ) → y ≡ prefix ++ rest → ⊥) → bytes_eq (prefix ++ x) y ≡ false
other_prefix prefix x y f = false_from_ne_true _ (λ t. f x (sym ((bytes_eq-Decides (prefix ++ x) y).0 t)))

-- a text that begins with another one
pub record Prefix (bs w : List ℕ) : Type 0 where
  pub boundary : IsCharBoundary bs (length w)
  pub points : chars bs ≡ chars w ++ chars (drop (length w) bs)

pub prefix_of : (bs w : List ℕ) → IsUtf8 bs → IsUtf8 w → starts_with nat_eq bs w ≡ true → Prefix bs w
prefix_of bs w u v t =
    let split : bs ≡ w ++ drop (length w) bs = begins_split w bs (sym (pointwise-begins w bs) ∙ t) in
    let coded : encodes (chars bs) ≡ encodes (chars w) ++ drop (length w) bs = encodes-chars bs u ∙ split ∙ ap (λ (l : List ℕ). l ++ drop (length w) bs) (sym (encodes-chars w v)) in
    let f = encodes_prefix (chars w) (chars bs) (drop (length w) bs) coded in
    let good : scalars f.0 ≡ true = scalars_back (chars w) f.0 (ap scalars (sym f.1) ∙ scalars-chars bs u) in
    let rest : IsUtf8 (drop (length w) bs) = (f.0, (good, f.2)) in
    record {
      boundary = IsCharBoundary-at_seam bs w (drop (length w) bs) split rest;
      points = f.1 ∙ ap (λ (l : List ℕ). chars w ++ l) (chars_from_encodes f.0 (drop (length w) bs) rest f.2);
    }

pub no_prefix : (bs w : List ℕ) → IsUtf8 bs → IsUtf8 w → starts_with nat_eq bs w ≡ false → (rest : List ℕ) → chars bs ≡ chars w ++ rest → ⊥
no_prefix bs w u v f rest e =
    let b : begins (encodes (chars w)) bs ≡ true = holds_prefix bs (chars w) rest u e in
    false≢true (sym f ∙ pointwise-begins w bs ∙ ap (λ (l : List ℕ). begins l bs) (sym (encodes-chars w v)) ∙ b)

-- a character, and then a prefix
pub char_prefix : (text rest prefix : List ℕ) (c : ℕ) (o : Option (Bor (List ℕ))) → text ≡ c ∷ rest → MatchOption o ((r : List ℕ) → rest ≡ prefix ++ r → ⊥) (λ r. rest ≡ prefix ++ chars r.now) →
    MatchOption o ((r : List ℕ) → text ≡ c ∷ (prefix ++ r) → ⊥) (λ r. text ≡ c ∷ (prefix ++ chars r.now))
char_prefix text rest prefix c None e h = λ r k. h r (tail_same c c rest (prefix ++ r) (sym e ∙ k))
char_prefix text rest prefix c (Some x) e h = e ∙ ap (λ (l : List ℕ). c ∷ l) h

pub other_char : (text rest prefix : List ℕ) (first c : ℕ) → text ≡ first ∷ rest → (first ≡ c → ⊥) → (r : List ℕ) → text ≡ c ∷ (prefix ++ r) → ⊥
other_char text rest prefix first c e n r k = n (head_same first c rest (prefix ++ r) (sym e ∙ k))

pub no_char : (text prefix : List ℕ) (c : ℕ) → text ≡ [] → (r : List ℕ) → text ≡ c ∷ (prefix ++ r) → ⊥
no_char text prefix c e r k = absurd (let n : [] ≡ c ∷ (prefix ++ r) = sym e ∙ k in cc)

-- ---- the steps of a comparison

-- what is left on both sides
pub begin_same : (one prefix left text rest : List ℕ) → one ≡ prefix ++ left → text ≡ prefix ++ rest → bytes_eq one text ≡ bytes_eq left rest
begin_same one prefix left text rest e f = rw (e, f) (same_prefix prefix left rest)

pub begin_other : (one prefix left text : List ℕ) → one ≡ prefix ++ left → ((r : List ℕ) → text ≡ prefix ++ r → ⊥) → bytes_eq one text ≡ false
begin_other one prefix left text e f = rw e (other_prefix prefix left text f)

pub go_on : (one next prefix left rest after : List ℕ) (c : ℕ) → one ≡ c ∷ next → next ≡ prefix ++ left → rest ≡ c ∷ (prefix ++ after) → bytes_eq one rest ≡ bytes_eq left after
go_on one next prefix left rest after c e f g = begin_same one (c ∷ prefix) left rest after (e ∙ ap (λ (l : List ℕ). c ∷ l) f) g

pub stop_here : (one next prefix left rest : List ℕ) (c : ℕ) → one ≡ c ∷ next → next ≡ prefix ++ left → ((r : List ℕ) → rest ≡ c ∷ (prefix ++ r) → ⊥) → bytes_eq one rest ≡ false
stop_here one next prefix left rest c e f g = begin_other one (c ∷ prefix) left rest (e ∙ ap (λ (l : List ℕ). c ∷ l) f) g

pub end_same : (one rest : List ℕ) → IsUtf8 rest → one ≡ [] → nat_eq (length rest) 0 ≡ bytes_eq one (chars rest)
end_same one [] u e = rw (e, chars-nil) refl
end_same one (b ∷ rest) u e =
    let f = first_of (b ∷ rest) u (omega arith) in
    rw (e, f.points) (ne_eqb (length (b ∷ rest)) 0 (λ z. omega (arith, z)))

-- ---- two texts slice by slice

-- of two beginnings of one text, one begins with the other
either_first : (one other x y : List ℕ) → one ++ x ≡ other ++ y → ((r : List ℕ) × (other ≡ one ++ r)) ⊎ ((r : List ℕ) × (one ≡ other ++ r))
either_first [] other x y e = inl (other, refl)
either_first (c ∷ one) [] x y e = inr (c ∷ one, refl)
either_first (c ∷ one) (d ∷ other) x y e =
    let same : c ≡ d = head_same c d (one ++ x) (other ++ y) e in
    elim (either_first one other x y (tail_same c d (one ++ x) (other ++ y) e)) as (λ s. ((r : List ℕ) × (d ∷ other ≡ (c ∷ one) ++ r)) ⊎ ((r : List ℕ) × (c ∷ one ≡ (d ∷ other) ++ r))) [
      | inl p ↦ inl (p.0, rw (sym same) (ap (λ (l : List ℕ). c ∷ l) p.1))
      | inr p ↦ inr (p.0, rw same (ap (λ (l : List ℕ). d ∷ l) p.1))
    ]

pub apart : (one other : List ℕ) → ((r : List ℕ) → other ≡ one ++ r → ⊥) → ((r : List ℕ) → one ≡ other ++ r → ⊥) → AreApart one other
apart one other f g = λ x y. false_from_ne_true _ (λ t.
    let e : one ++ x ≡ other ++ y = (bytes_eq-Decides (one ++ x) (other ++ y)).0 t in
    elim (either_first one other x y e) as (λ s. ⊥) [ inl p ↦ f p.0 p.1 | inr p ↦ g p.0 p.1 ])

pub first_shorter : (one other rest : List ℕ) → chars other ≡ chars one ++ chars rest → AreAfter (chars one) (chars other) (chars []) (chars rest)
first_shorter one other rest e = record { shared = chars one; first = rw chars-nil (sym (append-nil (chars one))); second = e }

pub other_shorter : (one other rest : List ℕ) → chars one ≡ chars other ++ chars rest → AreAfter (chars one) (chars other) (chars rest) (chars [])
other_shorter one other rest e = record { shared = chars other; first = e; second = rw chars-nil (sym (append-nil (chars other))) }

pub empty_chars : (bs : List ℕ) → length bs ≡ 0 → chars bs ≡ []
empty_chars [] e = chars-nil
empty_chars (b ∷ bs) e = absurd (omega (arith, e))

pub none_left : (one left : List ℕ) → one ≡ [] → left ≡ [] → one ++ left ≡ []
none_left one left e f = rw (e, f) refl

pub first_left : (one left next : List ℕ) (c : ℕ) → one ≡ [] → left ≡ c ∷ next → one ++ left ≡ c ∷ (chars [] ++ next)
first_left one left next c e f = rw (e, f, chars-nil) refl

pub refilled : (one left slice next : List ℕ) → one ≡ [] → left ≡ slice ++ next → one ++ left ≡ slice ++ next
refilled one left slice next e f = rw e f

pub slices_after : (left right after rest one other : List ℕ) → AreAfter left right after rest → bytes_eq (left ++ one) (right ++ other) ≡ bytes_eq (after ++ one) (rest ++ other)
slices_after left right after rest one other h =
    ap (λ (l : List ℕ). bytes_eq (l ++ one) (right ++ other)) h.first ∙ ap (λ (l : List ℕ). bytes_eq ((h.shared ++ after) ++ one) (l ++ other)) h.second
    ∙ rw (append_assoc {A = ℕ} h.shared after one, append_assoc {A = ℕ} h.shared rest other) (same_prefix h.shared (after ++ one) (rest ++ other))

-- the first characters are the same, and what is left is refilled
pub slices_go_on : (left right after rest one other x y : List ℕ) (c d : ℕ) → AreAfter left right after rest → after ++ one ≡ c ∷ x → rest ++ other ≡ d ∷ y → c ≡ d → bytes_eq (left ++ one) (right ++ other) ≡ bytes_eq x y
slices_go_on left right after rest one other x y c d h e f same =
    slices_after left right after rest one other h ∙ rw (e, f, same) (same_prefix (d ∷ []) x y)

pub slices_differ : (left right after rest one other x y : List ℕ) (c d : ℕ) → AreAfter left right after rest → after ++ one ≡ c ∷ x → rest ++ other ≡ d ∷ y → (c ≡ d → ⊥) → bytes_eq (left ++ one) (right ++ other) ≡ false
slices_differ left right after rest one other x y c d h e f n =
    slices_after left right after rest one other h ∙ rw (e, f) (other_prefix (c ∷ []) x (d ∷ y) (λ r k. n (sym (head_same d c y r k))))

-- there are no more characters on the one side
pub slices_end : (left right after rest one other x : List ℕ) → AreAfter left right after rest → after ++ one ≡ [] → rest ++ other ≡ x → bytes_eq (left ++ one) (right ++ other) ≡ bytes_eq [] x
slices_end left right after rest one other x h e f =
    slices_after left right after rest one other h ∙ rw (e, f) refl

-- fewer are left
pub slices_fewer : (left right after rest one x : List ℕ) (c : ℕ) → AreAfter left right after rest → after ++ one ≡ c ∷ x → length x < length (left ++ one)
slices_fewer left right after rest one x c h e =
    omega (arith, ap length e, length-append after one, length-append left one, ap length h.first, length-append h.shared after)

-- the one side is at its end, and perhaps the other is
pub ends_both : (left right after rest one other new : List ℕ) (o : Option (ℕ × Bor (List ℕ))) (none : Bool) → AreAfter left right after rest → after ++ one ≡ [] → MatchOption o (rest ++ other ≡ []) (λ p. rest ++ other ≡ p.0 ∷ (chars p.1.now ++ new)) →
    is_some o ≡ not none → none ≡ bytes_eq (left ++ one) (right ++ other)
ends_both left right after rest one other new None true h e f n = sym (slices_end left right after rest one other [] h e f)
ends_both left right after rest one other new None false h e f n = absurd (false≢true n)
ends_both left right after rest one other new (Some p) true h e f n = absurd (false≢true (sym n))
ends_both left right after rest one other new (Some p) false h e f n = sym (slices_end left right after rest one other (p.0 ∷ (chars p.1.now ++ new)) h e f)
