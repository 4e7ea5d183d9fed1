-- Splices that are staged after others: one answer, and some. An operation is known by the bytes of its text.
use Rattle.std.proofs.Common.{◌≡◌, ◌⊎◌, ℕ, zero, suc, ◌<◌, ◌≤◌, Bool, true, false, List, [], ◌∷◌, length, Option, Result, Ok, Err, refl, sym, ap, ap₂, subst}
use Rattle.std.proofs.Common.{◌∙◌}
use Rattle.std.proofs.Common.{inl, inr, arith}
use Rattle.std.specs.Prelude.{cond}
use Rattle.std.specs.Borrow.{Bor}
use Rattle.std.specs.Str.{chars}
use Rattle.std.proofs.lemmas.Bool.{cases_Bool, cases_lt, false≢true}
use Rattle.xml_model.specs.Chars.{is_qname}
use Rattle.xml_model.specs.Tree.{Entry}
use Rattle.vtd_edits.specs.Splices.{AreApart, HasFirstOverlap, overlap, splice_at, start_of, text_limit, text_size}
use Rattle.vtd_edits.specs.declared.splice.Splice.{Splice}
use Rattle.vtd_modifier.specs.Outcomes.{has_name, outcome, rows, with_row}
use Rattle.vtd_modifier.specs.Parts.{part_of}
use Rattle.vtd_modifier.specs.Rows.{row}
use Rattle.vtd_modifier.specs.Rows as rowed
use Rattle.vtd_modifier.specs.declared.operation.EditFault.{EditFault}
use Rattle.vtd_modifier.specs.declared.operation.EditFault.TheVariants as edits
use Rattle.vtd_modifier.specs.declared.operation.Operation.{Operation}
use Rattle.vtd_modifier.specs.declared.operation.Operation.TheVariants as operations
use Rattle.vtd_queries.specs.Operations.{counted, operated}
use Rattle.vtd_queries.specs.declared.faults.QueryFault.{QueryFault}
use Rattle.vtd_script.specs.Staging.{borrowed, staged_line}
use Rattle.vtd_script.specs.States.{Answer, State, printed, refused}
use Rattle.vtd_script.specs.Steps.{Puts, Stages, overlaps, put, text_long, with_staged}
use Rattle.vtd_script.specs.declared.refusals.Refusal.TheVariants as no

-- ---- the first overlap

-- of two first overlaps the later splice is one
same_later : (xs : List Splice) (a b e d : ℕ) (h : HasFirstOverlap xs a b) (k : HasFirstOverlap xs e d) → h.j ≡ k.j
same_later xs a b e d h k = elim (cases_lt h.j k.j) [
  | inl l ↦ absurd (false≢true (sym (k.first h.i h.j h.order l) ∙ h.overlaps))
  | inr m ↦ (elim (cases_lt k.j h.j) [ inl l ↦ absurd (false≢true (sym (h.first k.i k.j k.order l) ∙ k.overlaps)) | inr n ↦ omega arith ])
]

same_earlier : (xs : List Splice) (a b e d : ℕ) (h : HasFirstOverlap xs a b) (k : HasFirstOverlap xs e d) → h.i ≡ k.i
same_earlier xs a b e d h k =
    let at : splice_at xs h.j ≡ splice_at xs k.j = ap (splice_at xs) (same_later xs a b e d h k) in
    let P : Splice → ℕ → Type 0 = λ x i. overlap x (splice_at xs i) ≡ true in
    elim (cases_lt h.i k.i) [
      | inl l ↦ absurd (false≢true (sym (k.partner h.i l) ∙ subst (λ (x : Splice). P x h.i) at h.overlaps))
      | inr m ↦ (elim (cases_lt k.i h.i) [
        | inl l ↦ absurd (false≢true (sym (h.partner k.i l) ∙ subst (λ (x : Splice). P x k.i) (sym at) k.overlaps))
        | inr n ↦ omega arith
      ])
    ]

one_overlap : (xs : List Splice) (a b e d : ℕ) → HasFirstOverlap xs a b → HasFirstOverlap xs e d → (a ≡ e) × (b ≡ d)
one_overlap xs a b e d h k = (
  h.start ∙ ap (λ (i : ℕ). start_of (splice_at xs i)) (same_earlier xs a b e d h k) ∙ sym k.start,
  h.other_start ∙ ap (λ (j : ℕ). start_of (splice_at xs j)) (same_later xs a b e d h k) ∙ sym k.other_start,
)

not_apart : (xs : List Splice) (a b : ℕ) → HasFirstOverlap xs a b → AreApart xs → ⊥
not_apart xs a b h p = false≢true (sym (p h.i h.j h.order h.below) ∙ h.overlaps)

pub one_puts : (xs : List Splice) (count : ℕ) (s : State) (a b : Answer) → Puts xs count s a → Puts xs count s b → a ≡ b
one_puts xs count s a b (overlaps e l h) (overlaps f m k) = let same = one_overlap xs e l f m h k in ap₂ (λ (x y : ℕ). refused (no.Overlap x y)) same.0 same.1
one_puts xs count s a b (overlaps e l h) (text_long p t) = absurd (not_apart xs e l h p)
one_puts xs count s a b (overlaps e l h) (put p t) = absurd (not_apart xs e l h p)
one_puts xs count s a b (text_long p t) (overlaps e l h) = absurd (not_apart xs e l h p)
one_puts xs count s a b (text_long p t) (text_long q u) = refl
one_puts xs count s a b (text_long p t) (put q u) = absurd (omega arith)
one_puts xs count s a b (put p t) (overlaps e l h) = absurd (not_apart xs e l h p)
one_puts xs count s a b (put p t) (text_long q u) = absurd (omega arith)
one_puts xs count s a b (put p t) (put q u) = refl

-- the first splice before one that it overlaps, or none
record Partner (xs : List Splice) (j n : ℕ) : Type 0 where
  pub i : ℕ
  pub before : i < n
  pub overlaps : overlap (splice_at xs j) (splice_at xs i) ≡ true
  pub first : (k : ℕ) → k < i → overlap (splice_at xs j) (splice_at xs k) ≡ false

abbrev AreClear : List Splice → ℕ → ℕ → Type 0
AreClear xs j n = (k : ℕ) → k < n → overlap (splice_at xs j) (splice_at xs k) ≡ false

partner_below : (xs : List Splice) (j n : ℕ) → Partner xs j n ⊎ AreClear xs j n
partner_below xs j zero = inr (λ k l. absurd (omega arith))
partner_below xs j (suc n) = elim (partner_below xs j n) [
  | inl p ↦ inl (record { i = p.i; before = omega (arith, p.before); overlaps = p.overlaps; first = p.first })
  | inr e ↦ (elim (cases_Bool (overlap (splice_at xs j) (splice_at xs n))) [
    | inl t ↦ inl (record { i = n; before = omega arith; overlaps = t; first = e })
    | inr f ↦ inr (λ k l. elim (cases_lt k n) [
      | inl m ↦ e k m
      | inr m ↦ let same : k ≡ n = omega (arith, l) in subst (λ (x : ℕ). overlap (splice_at xs j) (splice_at xs x) ≡ false) (sym same) f
    ])
  ])
]

abbrev ApartBelow : List Splice → ℕ → Type 0
ApartBelow xs n = (i j : ℕ) → i < j → j < n → overlap (splice_at xs j) (splice_at xs i) ≡ false

record Overlapping (xs : List Splice) : Type 0 where
  pub earlier : ℕ
  pub later : ℕ
  pub is : HasFirstOverlap xs earlier later

overlapping_below : (xs : List Splice) (n : ℕ) → n ≤ length xs → Overlapping xs ⊎ ApartBelow xs n
overlapping_below xs zero w = inr (λ i j l m. absurd (omega arith))
overlapping_below xs (suc n) w = elim (overlapping_below xs n (omega (arith, w))) [
  | inl o ↦ inl o
  | inr p ↦ (elim (partner_below xs n n) [
    | inl q ↦ inl (record {
      earlier = start_of (splice_at xs q.i);
      later = start_of (splice_at xs n);
      is = record {
        i = q.i;
        j = n;
        order = q.before;
        below = omega (arith, w);
        overlaps = q.overlaps;
        first = λ k l a b. p k l a b;
        partner = q.first;
        start = refl;
        other_start = refl;
      };
    })
    | inr e ↦ inr (λ i j l m. elim (cases_lt j n) [
      | inl a ↦ p i j l a
      | inr a ↦
          let same : j ≡ n = omega (arith, m) in
          subst (λ (x : ℕ). overlap (splice_at xs x) (splice_at xs i) ≡ false) (sym same) (e i (omega (arith, l, m)))
    ])
  ])
]

pub some_puts : (xs : List Splice) (count : ℕ) (s : State) → (a : Answer) × Puts xs count s a
some_puts xs count s = elim (overlapping_below xs (length xs) (omega arith)) [
  | inl o ↦ (refused (no.Overlap o.earlier o.later), overlaps o.earlier o.later o.is)
  | inr p ↦ (elim (cases_lt text_limit (text_size xs)) [
    | inl l ↦ (refused no.TextLong, text_long p l)
    | inr l ↦ (printed (staged_line count) (with_staged xs s), put p l)
  ])
]

-- ---- operations with one text

rows_same : (bytes : List ℕ) (x y : Operation) → ((e : Entry) → row bytes x (part_of bytes e) ≡ row bytes y (part_of bytes e)) → (es : List Entry)
    → rows bytes x es ≡ rows bytes y es
rows_same bytes x y same [] = refl
rows_same bytes x y same (e ∷ es) =
    ap₂ (λ (a : Option (List Splice)) (b : Result (List Splice) EditFault). with_row e.start a b) (same e) (rows_same bytes x y same es)

outcome_same : (bytes : List ℕ) (x y : Operation) → has_name x ≡ has_name y
    → ((e : Entry) → row bytes x (part_of bytes e) ≡ row bytes y (part_of bytes e)) → (es : List Entry)
    → outcome bytes x es ≡ outcome bytes y es
outcome_same bytes x y named same es =
    ap₂ (λ (b : Bool) (r : Result (List Splice) EditFault). cond b r (Err edits.Name)) named (rows_same bytes x y same es)

operated_same : (bytes : List ℕ) (x y : Operation) → ((es : List Entry) → outcome bytes x es ≡ outcome bytes y es) → (found : Result (List Entry) QueryFault)
    → operated bytes x found ≡ operated bytes y found
operated_same bytes x y same (Ok es) = ap (λ (o : Result (List Splice) EditFault). counted (length es) o) (same es)
operated_same bytes x y same (Err fault) = refl

stages_as : (text : List ℕ) (x y : Operation) (s : State) (a : Answer) → has_name x ≡ has_name y
    → ((bytes : List ℕ) (e : Entry) → row bytes x (part_of bytes e) ≡ row bytes y (part_of bytes e)) → Stages text x s a → Stages text y s a
stages_as text x y s a named same h =
    let bytes = s.work.bytes in
    record {
      nest = h.nest;
      accepted = h.accepted;
      found = h.found;
      operates = record {
        found = h.operates.found;
        asked = h.operates.asked;
        is = h.operates.is ∙ operated_same bytes x y (outcome_same bytes x y named (same bytes)) h.operates.found;
      };
      stages = h.stages;
    }

-- the text of an operation is known by its bytes
pub as_replace : (text : List ℕ) (x : Bor (List ℕ)) (given : List ℕ) (s : State) (a : Answer) → x.now ≡ given → Stages text (operations.Replace x) s a
    → Stages text (operations.Replace (borrowed given)) s a
as_replace text x given s a e h =
    stages_as text (operations.Replace x) (operations.Replace (borrowed given)) s a refl
    (λ bytes n. ap (λ (t : List ℕ). rowed.replaced t (part_of bytes n)) e) h

pub as_before : (text : List ℕ) (x : Bor (List ℕ)) (given : List ℕ) (s : State) (a : Answer) → x.now ≡ given → Stages text (operations.Before x) s a
    → Stages text (operations.Before (borrowed given)) s a
as_before text x given s a e h =
    stages_as text (operations.Before x) (operations.Before (borrowed given)) s a refl
    (λ bytes n. ap (λ (t : List ℕ). rowed.put_before t (part_of bytes n)) e) h

pub as_after : (text : List ℕ) (x : Bor (List ℕ)) (given : List ℕ) (s : State) (a : Answer) → x.now ≡ given → Stages text (operations.After x) s a
    → Stages text (operations.After (borrowed given)) s a
as_after text x given s a e h =
    stages_as text (operations.After x) (operations.After (borrowed given)) s a refl
    (λ bytes n. ap (λ (t : List ℕ). rowed.put_after t (part_of bytes n)) e) h

pub as_first : (text : List ℕ) (x : Bor (List ℕ)) (given : List ℕ) (s : State) (a : Answer) → x.now ≡ given → Stages text (operations.First x) s a
    → Stages text (operations.First (borrowed given)) s a
as_first text x given s a e h =
    stages_as text (operations.First x) (operations.First (borrowed given)) s a refl
    (λ bytes n. ap (λ (t : List ℕ). rowed.put_first bytes t (part_of bytes n)) e) h

pub as_last : (text : List ℕ) (x : Bor (List ℕ)) (given : List ℕ) (s : State) (a : Answer) → x.now ≡ given → Stages text (operations.Last x) s a
    → Stages text (operations.Last (borrowed given)) s a
as_last text x given s a e h =
    stages_as text (operations.Last x) (operations.Last (borrowed given)) s a refl
    (λ bytes n. ap (λ (t : List ℕ). rowed.put_last bytes t (part_of bytes n)) e) h

pub as_attr : (text : List ℕ) (x : Bor (List ℕ)) (given : List ℕ) (s : State) (a : Answer) → x.now ≡ given → Stages text (operations.Attr x) s a
    → Stages text (operations.Attr (borrowed given)) s a
as_attr text x given s a e h =
    stages_as text (operations.Attr x) (operations.Attr (borrowed given)) s a refl
    (λ bytes n. ap (λ (t : List ℕ). rowed.given_attribute t (part_of bytes n)) e) h

pub as_set : (text : List ℕ) (x : Bor (List ℕ)) (given : List ℕ) (s : State) (a : Answer) → x.now ≡ given → Stages text (operations.Set x) s a
    → Stages text (operations.Set (borrowed given)) s a
as_set text x given s a e h =
    stages_as text (operations.Set x) (operations.Set (borrowed given)) s a refl
    (λ bytes n. ap (λ (t : List ℕ). rowed.set_to bytes t (part_of bytes n)) e) h

pub as_rename : (text : List ℕ) (x : Bor (List ℕ)) (given : List ℕ) (s : State) (a : Answer) → x.now ≡ given → Stages text (operations.Rename x) s a
    → Stages text (operations.Rename (borrowed given)) s a
as_rename text x given s a e h =
    stages_as text (operations.Rename x) (operations.Rename (borrowed given)) s a (ap (λ (t : List ℕ). is_qname (chars t)) e)
    (λ bytes n. ap (λ (t : List ℕ). rowed.renamed t (part_of bytes n)) e) h
