-- The slots of open elements, as one is opened or closed.
use Rattle.std.proofs.Common.{◌≡◌, ℕ, ◌+◌, ◌-◌, ◌<◌, ◌≤◌, List, length, ap, sym, ◌∙◌, subst, arith, inl, inr, length-set}
use Rattle.std.proofs.Math.ListN.{set, replicate}
use Rattle.std.proofs.lemmas.Bool.{cases_eq, cases_lt}
use Rattle.std.proofs.lemmas.List.{get_or-set_same, get_or-set_other, get_or-replicate, get_or_past, length-replicate}
use Rattle.vtd_cursor.specs.declared.slots.Slot.{Slot}
use Rattle.vtd_cursor.specs.Passes.{free_slot, slot_at, number_at, AreSlots, LeadsOut}

pub number_there : (slots : List Slot) (i : ℕ) (s : Slot) → i < length slots → number_at i (set slots i s) ≡ s.number
number_there slots i s h = ap (λ (x : Slot). x.number) (get_or-set_same slots i s free_slot h)

slot_other : (slots : List Slot) (i d : ℕ) (s : Slot) → (d ≡ i → ⊥) → slot_at d (set slots i s) ≡ slot_at d slots
slot_other slots i d s h = get_or-set_other slots i d s free_slot h

pub number_other : (slots : List Slot) (i d : ℕ) (s : Slot) → (d ≡ i → ⊥) → number_at d (set slots i s) ≡ number_at d slots
number_other slots i d s h = ap (λ (x : Slot). x.number) (slot_other slots i d s h)

-- above the level that is written, all stays free
free_above : (slots : List Slot) (bound i d : ℕ) (s : Slot) → AreSlots slots bound → bound ≤ d → i < d → number_at d (set slots i s) ≡ 0
free_above slots bound i d s h b l = number_other slots i d s (λ e. omega (arith, e, l)) ∙ h.free d b

-- below the level that is written, the ways out stay
leads_kept : (slots : List Slot) (i d outer : ℕ) (s : Slot) → d < i → LeadsOut slots d outer → LeadsOut (set slots i s) d outer
leads_kept slots i d outer s h l = record {
  lower = l.lower;
  none = λ m low high. number_other slots i m s (λ e. omega (arith, e, h, high)) ∙ l.none m low high;
  next = λ p. subst (λ n. 0 < n) (sym (number_other slots i (outer - 1) s (λ e. omega (arith, e, h, l.lower, p)))) (l.next p);
}

leads_below : (slots : List Slot) (i d : ℕ) (s : Slot) → d < i → LeadsOut slots d (slot_at d slots).outer → LeadsOut (set slots i s) d (slot_at d (set slots i s)).outer
leads_below slots i d s h l =
    let same : (slot_at d (set slots i s)).outer ≡ (slot_at d slots).outer = ap (λ (x : Slot). x.outer) (slot_other slots i d s (λ e. omega (arith, e, h))) in
    subst (λ o. LeadsOut (set slots i s) d o) (sym same) (leads_kept slots i d (slot_at d slots).outer s h l)

-- an element is taken off
pub slots_closed : (slots : List Slot) (bound : ℕ) → AreSlots slots bound → 0 < bound → AreSlots (set slots (bound - 1) free_slot) (slot_at (bound - 1) slots).outer
slots_closed slots bound h b =
    let i = bound - 1 in
    let there : i < length slots = omega (arith, h.long, h.small, b) in
    let l : LeadsOut slots i (slot_at i slots).outer = h.leads i (h.top b) in
    let zero_here : number_at i (set slots i free_slot) ≡ 0 = number_there slots i free_slot there in
    let free : (d : ℕ) → (slot_at i slots).outer ≤ d → number_at d (set slots i free_slot) ≡ 0 = λ d low. elim (cases_lt d i) [
      | inl k ↦ number_other slots i d free_slot (λ e. omega (arith, e, k)) ∙ l.none d low k
      | inr k ↦ elim (cases_eq d i) [
        | inl e ↦ ap (λ n. number_at n (set slots i free_slot)) e ∙ zero_here
        | inr n ↦ number_other slots i d free_slot n ∙ h.free d (omega (arith, k, n, b))
      ]
    ] in
    record {
      long = length-set slots i free_slot ∙ h.long;
      small = omega (arith, l.lower, h.small, b);
      free = free;
      top = λ p. subst (λ n. 0 < n) (sym (number_other slots i ((slot_at i slots).outer - 1) free_slot (λ e. omega (arith, e, l.lower, p)))) (l.next p);
      leads = λ d p. elim (cases_lt d i) [
        | inl k ↦ leads_below slots i d free_slot k (h.leads d (subst (λ n. 0 < n) (number_other slots i d free_slot (λ e. omega (arith, e, k))) p))
        | inr k ↦ absurd (omega (arith, p, free d (omega (arith, k, l.lower))))
      ];
    }

-- an element is opened above those that are open
pub slots_opened : (slots : List Slot) (bound level number : ℕ) → AreSlots slots bound → bound ≤ level → level ≤ 255 → 0 < number → AreSlots (set slots level (record { number = number; outer = bound })) (level + 1)
slots_opened slots bound level number h b small some =
    let s : Slot = record { number = number; outer = bound } in
    let new = set slots level s in
    let there : level < length slots = omega (arith, h.long, small) in
    let here : LeadsOut new level bound = record {
      lower = b;
      none = λ m low high. number_other slots level m s (λ e. omega (arith, e, high)) ∙ h.free m low;
      next = λ p. subst (λ n. 0 < n) (sym (number_other slots level (bound - 1) s (λ e. omega (arith, e, b, p)))) (h.top p);
    } in
    let own : (slot_at level new).outer ≡ bound = ap (λ (x : Slot). x.outer) (get_or-set_same slots level s free_slot there) in
    let hereabouts : LeadsOut new level (slot_at level new).outer = subst (λ o. LeadsOut new level o) (sym own) here in
    let first : level + 1 - 1 ≡ level = omega arith in
    record {
      long = length-set slots level s ∙ h.long;
      small = omega (arith, small);
      free = λ d k. free_above slots bound level d s h (omega (arith, k, b)) (omega (arith, k));
      top = λ p. subst (λ n. 0 < number_at n new) (sym first) (subst (λ n. 0 < n) (sym (number_there slots level s there)) some);
      leads = λ d p. elim (cases_lt d level) [
        | inl k ↦ leads_below slots level d s k (h.leads d (subst (λ n. 0 < n) (number_other slots level d s (λ e. omega (arith, e, k))) p))
        | inr k ↦ elim (cases_eq d level) [
          | inl e ↦ subst (λ n. LeadsOut new n (slot_at n new).outer) (sym e) hereabouts
          | inr n ↦ absurd (omega (arith, p, free_above slots bound level d s h (omega (arith, k, b)) (omega (arith, k, n))))
        ]
      ];
    }

replicated : (n d : ℕ) → slot_at d (replicate n free_slot) ≡ free_slot
replicated n d = elim (cases_lt d n) [
  | inl h ↦ get_or-replicate n d free_slot free_slot h
  | inr h ↦ get_or_past (replicate n free_slot) d free_slot (omega (arith, length-replicate n free_slot, h))
]

-- none is open
pub all_free : (n : ℕ) → n ≡ 256 → AreSlots (replicate n free_slot) 0
all_free n l =
    let zero_at : (d : ℕ) → number_at d (replicate n free_slot) ≡ 0 = λ d. ap (λ (x : Slot). x.number) (replicated n d) in
    record {
      long = length-replicate n free_slot ∙ l;
      small = omega arith;
      free = λ d k. zero_at d;
      top = λ p. absurd (omega (arith, p));
      leads = λ d p. absurd (omega (arith, p, zero_at d));
    }
